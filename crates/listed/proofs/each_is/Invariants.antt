-- `listed::each_is` meets its contract. The invariant: each of the first `j` leaves is as wanted, but perhaps one.
-- Assumes nothing.
use mathlib.Core.Path.{◌≡◌}
use mathlib.Core.Bool.{true, ◌||◌}
use lib.Dec.{eqb}
use Rattle.std.specs.Prelude.{Some}
use Rattle.std.specs.Option.{option_eq}
use Rattle.meaning.specs.Sets.{all_below}
use Rattle.leaves.specs.Leaves.{leaf_in}
use Rattle.listed.specs.Search.{told}
use Rattle.listed.proofs.each_is.Given as goal

abbrev pub invariant-loop-j : goal.invariant-loop-j
invariant-loop-j l =
    all_below l.j (λ k. option_eq eqb l.but (Some k) || told l.file.bytes.now l.file.ends l.holds l.s l.t (leaf_in l.leaves k)) ≡ true

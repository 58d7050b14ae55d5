-- `listed::Statement::next_open` meets its contract. The invariant: none of the states before number `i` shows it.
-- Assumes nothing.
use mathlib.Core.Path.{◌≡◌}
use mathlib.Core.Bool.{false}
use Rattle.std.specs.Prelude.{Some}
use Rattle.meaning.specs.Sets.{some_below}
use Rattle.listed.specs.Told.{shows, listed_state, Follows}
use Rattle.listed.proofs.Statement.next_open.Given as goal

abbrev pub invariant-loop-i : goal.invariant-loop-i
invariant-loop-i l = (some_below l.i (λ k. shows l.self (listed_state l.states k)) ≡ false) × Follows (Some l.trail) l.self

-- `numbering_of` meets its contract. The loop's invariant: the table has the rules of the first k bytes, none of which is a fault.
-- Assumes nothing.
use mathlib.Core.Path.{◌≡◌}
use lib.ListN.{length}
use Rattle.numbering.proofs.ListLaws.{Tabled}
use Rattle.numbering.proofs.numbering_of.Given as goal

abbrev pub invariant-loop-k : goal.invariant-loop-k
invariant-loop-k l = (length l.rules ≡ 256) × Tabled l.numbers l.k l.rules

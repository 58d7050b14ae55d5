-- `actions::first_marks`: after i rounds the numbers below i are marked.
-- Assumes nothing.
use lib.Dec.{ltb}
use Rattle.actions.specs.Marks.{Marks}
use Rattle.actions.proofs.first_marks.Given as goal

abbrev pub invariant-loop-i : goal.invariant-loop-i
invariant-loop-i l = Marks l.words (λ j. ltb j l.i)

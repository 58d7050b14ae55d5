-- `actions::action_marks`: the walk from entry a down to entry 0. What is found of set a with the entries below e still to be looked at.
-- Assumes nothing.
use Rattle.certificate.specs.Known.{decoded}
use Rattle.actions.specs.Marks.{Looking}
use Rattle.actions.proofs.action_marks.Given as goal

abbrev pub invariant-loop-e : goal.invariant-loop-e
invariant-loop-e l = Looking (decoded l.file.bytes.now) l.a l.e l.search.wanted l.search.found

-- `propagation::pass_own` meets its contract.
-- Assumes nothing.
use mathlib.Core.Bool.{true}
use Rattle.propagation.specs.Clauses.{Below, OfOwn}
use Rattle.propagation.specs.Propagation.{PassedTo}
use Rattle.propagation.proofs.pass_own.Given as goal

abbrev pub invariant-loop-i : goal.invariant-loop-i
invariant-loop-i l = PassedTo true (Below (OfOwn l.ends l.set l.by) l.i) l.initial.x l.x

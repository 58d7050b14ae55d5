-- `propagation::pass_touched` meets its contract.
-- Assumes nothing.
use Rattle.propagation.specs.Clauses.{OfWords, Below}
use Rattle.propagation.specs.Propagation.{PassedTo}
use Prim.Native.Nat.{◌≤◌, ◌-◌}
use Rattle.propagation.proofs.pass_touched.Given as goal

abbrev pub invariant-loop-j : goal.invariant-loop-j
invariant-loop-j l = (l.i ≤ l.s.count) × PassedTo l.two (Below (OfWords l.file l.s.at l.by) l.i) l.initial.x l.x

abbrev pub decreases-loop-j : goal.decreases-loop-j
decreases-loop-j l = l.s.count - l.i

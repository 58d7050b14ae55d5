-- `propagation::pass` meets its contract.
-- Assumes nothing.
use Rattle.propagation.specs.Clauses.{Below, LeafOf}
use Rattle.propagation.specs.Propagation.{PassedTo}
use Rattle.propagation.proofs.pass.Given as goal

abbrev pub invariant-loop-leaf : goal.invariant-loop-leaf
invariant-loop-leaf l = PassedTo l.q.setting.two (Below (LeafOf l.q.file.now l.q.left.now l.q.setting) l.leaf-index) l.initial.x l.x

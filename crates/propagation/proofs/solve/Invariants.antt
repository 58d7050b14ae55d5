-- `propagation::solve` meets its contract.
-- Assumes nothing.
use Rattle.propagation.specs.Clauses.{LeftOf}
use Rattle.propagation.specs.Propagation.{Meets, Going, Based}
use Prim.Native.Nat.{◌+◌, ◌-◌, ◌^◌}
use Rattle.propagation.proofs.solve.Given as goal

abbrev pub invariant-loop-y : goal.invariant-loop-y
invariant-loop-y l =
    Going (Meets (LeftOf l.q.file.now l.q.left.now l.q.setting)) l.initial.x l.x × Based l.q.setting.two (LeftOf l.q.file.now l.q.left.now l.q.setting) l.from l.x

abbrev pub decreases-loop-y : goal.decreases-loop-y
decreases-loop-y l = 2 ^ 65 - (l.x.on + l.x.off)

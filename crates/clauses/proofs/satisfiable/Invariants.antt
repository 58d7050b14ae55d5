-- `clauses::satisfiable` meets its contract.
-- Assumes nothing.
use Prim.Native.Nat.{◌<◌, ◌^◌}
use Rattle.clauses.proofs.SeekLaws.{Trying}
use Rattle.propagation.specs.Clauses.{LeftOf}
use Rattle.clauses.proofs.satisfiable.Given as goal

abbrev pub invariant-loop-i : goal.invariant-loop-i
invariant-loop-i l = (l.x.on < 2 ^ 64) × Trying l.q.setting.two (LeftOf l.q.file.now l.q.left.now l.q.setting) l.i l.initial.x l.x

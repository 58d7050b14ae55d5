-- `trees::Leaves::of_tree`: what was found and what waits are all the leaves. Each turn finds one, or has one more wait.
-- Assumes nothing.
use Prim.Native.Nat.{◌+◌, ◌*◌, ◌-◌}
use Rattle.certificate.specs.Known.{decoded}
use Rattle.trees.proofs.TreeLaws.{Tour}
use Rattle.trees.proofs.Leaves.of_tree.Given as goal

abbrev pub invariant-loop-d : goal.invariant-loop-d
invariant-loop-d l = Tour (decoded l.file.bytes.now) l.k l.e l.out l.waiting

abbrev pub decreases-loop-d : goal.decreases-loop-d
decreases-loop-d l = (9 - (l.out.count + l.waiting.count)) * 10 + l.waiting.count

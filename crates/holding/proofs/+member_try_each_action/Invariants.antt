-- `holding::member` and `holding::try_each_action`: each names an entry of a lower number. 2e is the measure of `member` at entry e,
-- and 2e + 1 that of `try_each_action` for entry e. The invariant: none of the first `i` actions leads into the set.
-- Assumes nothing.
use Prim.Native.Nat.{◌+◌, ◌*◌}
use Rattle.certificate.specs.Known.{decoded}
use Rattle.meaning.specs.Sets.{in_actions, in_set}
use Rattle.holding.proofs.TriedLaws.{NoneOf}
use Rattle.holding.proofs.+member_try_each_action.Given as goal

abbrev pub decreases-member : goal.decreases-member
decreases-member l = 2 * l.e

abbrev pub decreases-try_each_action : goal.decreases-try_each_action
decreases-try_each_action l = 2 * l.e + 1

abbrev pub invariant-try_each_action-loop-i : goal.invariant-try_each_action-loop-i
invariant-try_each_action-loop-i l =
    NoneOf (decoded l.file.entries.bytes.now).task (in_set (decoded l.file.entries.bytes.now) l.e) (in_actions (decoded l.file.entries.bytes.now) l.a) l.s l.i

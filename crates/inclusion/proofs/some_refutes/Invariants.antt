-- `inclusion::some_refutes`: the actions of the set are tried in turn; none of those tried so far makes the statement untrue.
-- Assumes nothing.
use Rattle.certificate.specs.Known.{decoded}
use Rattle.inclusion.specs.Search.{CounteredBy}
use Rattle.inclusion.proofs.TryLaws.{NoneYet}
use Rattle.inclusion.proofs.some_refutes.Given as goal

abbrev pub invariant-loop-i : goal.invariant-loop-i
invariant-loop-i l =
    NoneYet (decoded l.file.entries.bytes.now) l.x.told.actions (CounteredBy l.file.entries.bytes.now l.file.ends l.x.left.now l.x.right.now l.x.told) l.i

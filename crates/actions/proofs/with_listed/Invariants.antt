-- `actions::with_listed`: after i rounds the first i numbers of the list are marked.
-- Assumes nothing.
use Rattle.actions.proofs.ActionLaws.{After}
use Rattle.actions.proofs.with_listed.Given as goal

abbrev pub invariant-loop-i : goal.invariant-loop-i
invariant-loop-i l = After l.file l.span.at l.initial.more l.i l.more

-- `actions::first_marks`: after i rounds the numbers below i are marked.
-- Assumes nothing.
use Rattle.actions.proofs.ActionLaws.{first_none}
use Rattle.actions.proofs.first_marks.Goals as goal

pub loop-i-init : goal.loop-i-init
loop-i-init c = first_none

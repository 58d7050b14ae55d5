-- `actions::with_listed`: after i rounds the first i numbers of the list are marked.
-- Assumes nothing.
use Rattle.actions.proofs.ActionLaws.{listed_none, listed_more, listed_large}
use Rattle.actions.proofs.with_listed.Goals as goal
use Rattle.actions.proofs.with_listed.Goals.{then-x-lt256, else-x-lt256}

pub loop-i-init : goal.loop-i-init
loop-i-init c = listed_none _ _ _

pub loop-i-preserved : goal.loop-i-preserved
loop-i-preserved c =
    elim c.if-x-lt256.branch [
      | then-x-lt256 w ↦ rw w.more-is (listed_more _ _ _ _ _ _ _ c.loop-i.invariant c.action_in-x.ensures w.with_mark-next.ensures)
      | else-x-lt256 w ↦ rw w.more-is (listed_large _ _ _ _ _ _ c.loop-i.invariant c.action_in-x.ensures w.if-x-lt256.false)
    ]

-- `kinds::find_anchor` meets its contract.
-- Assumes nothing.
use Rattle.kinds.proofs.SummaryLaws.{from_inside, to_inside, from_outside, to_outside}
use Rattle.kinds.proofs.find_anchor.Goals as goal

pub returns-then-rule-eq2 : goal.returns-then-rule-eq2
returns-then-rule-eq2 c = rw (from_inside _ _ 0 c.if-rule-eq2.true, to_inside _ _ _ c.if-rule-eq2.true) c.anchor_in.ensures

pub returns-else-rule-eq2 : goal.returns-else-rule-eq2
returns-else-rule-eq2 c = rw (from_outside _ _ 0 c.if-rule-eq2.false, to_outside _ _ _ c.if-rule-eq2.false) c.anchor_in-else-rule-eq2.ensures

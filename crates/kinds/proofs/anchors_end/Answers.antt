-- `kinds::anchors_end` meets its contract.
-- Assumes nothing.
use mathlib.Core.Path.{sym}
use Rattle.kinds.proofs.SummaryLaws.{to_inside, to_outside}
use Rattle.kinds.proofs.anchors_end.Goals as goal

pub returns-then-rule-eq2 : goal.returns-then-rule-eq2
returns-then-rule-eq2 c = sym (to_inside _ _ _ c.if-rule-eq2.true)

pub returns-else-rule-eq2 : goal.returns-else-rule-eq2
returns-else-rule-eq2 c = sym (to_outside _ _ _ c.if-rule-eq2.false)

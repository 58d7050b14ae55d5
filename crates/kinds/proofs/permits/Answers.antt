-- `kinds::permits` meets its contract.
-- Assumes nothing.
use mathlib.Core.Path.{sym}
use Rattle.kinds.specs.Summary.{clauses_by, states_by, pair_by}
use Rattle.kinds.proofs.SummaryLaws.{permits_pair, permits_sorts}
use Rattle.kinds.proofs.permits.Goals as goal

pub returns-then-rule-eq4 : goal.returns-then-rule-eq4
unfolding pair_by
returns-then-rule-eq4 c = sym (permits_pair _ _ _ _ c.if-rule-eq4.true)

pub returns-else-rule-eq4 : goal.returns-else-rule-eq4
unfolding clauses_by states_by
returns-else-rule-eq4 c = sym (permits_sorts _ _ _ _ c.if-rule-eq4.false)

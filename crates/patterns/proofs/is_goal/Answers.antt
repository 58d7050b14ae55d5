-- `patterns::is_goal` meets its contract: another case is another kind; the wanted one tells what the entry names.
-- Assumes nothing.
use native.Mathlib.Omega.{arith}
use Rattle.patterns.proofs.Views.{taken, no_basic, not_goal, passed, refused, tests}
use Rattle.patterns.proofs.is_goal.Goals as goal

pub returns-in_default : goal.returns-in_default
unfolding tests
returns-in_default c = refused _ (rw (no_basic _ _ c.state_set.ensures c.in_default.not-Basic 2 (omega arith)))

pub returns-in_default-b : goal.returns-in_default-b
unfolding tests
returns-in_default-b c =
    refused _ (rw (taken _ _ c.state_set.ensures c.in-Basic.is, not_goal _ c.in_default-b.not-Goal))

pub returns : goal.returns
unfolding tests
returns c = passed _ (rw (taken _ _ c.state_set.ensures c.in-Basic.is, c.in-Goal.is))

-- `patterns::is_init` meets its contract: another case is another kind; the wanted one tells what the entry names.
-- Assumes nothing.
use native.Mathlib.Omega.{arith}
use Rattle.patterns.proofs.Views.{taken, no_basic, not_init, passed, refused, tests}
use Rattle.patterns.proofs.is_init.Goals as goal

pub returns-in_default : goal.returns-in_default
unfolding tests
returns-in_default c = refused _ (rw (no_basic _ _ c.state_set.ensures c.in_default.not-Basic 1 (omega arith)))

pub returns-in_default-b : goal.returns-in_default-b
unfolding tests
returns-in_default-b c =
    refused _ (rw (taken _ _ c.state_set.ensures c.in-Basic.is, not_init _ c.in_default-b.not-Init))

pub returns : goal.returns
unfolding tests
returns c = passed _ (rw (taken _ _ c.state_set.ensures c.in-Basic.is, c.in-Init.is))

-- `patterns::is_union` meets its contract: another case is another kind; the wanted one tells what the entry names.
-- Assumes nothing.
use Rattle.patterns.proofs.Views.{taken, no_union, refused, tests}
use Rattle.patterns.proofs.is_union.Goals as goal

pub returns-in_default : goal.returns-in_default
unfolding tests
returns-in_default c = refused _ (rw (no_union _ _ c.state_set.ensures c.in_default.not-Union))

pub returns : goal.returns
unfolding tests
returns c = rw (taken _ _ c.state_set.ensures c.in-Union.is) c.matched.ensures

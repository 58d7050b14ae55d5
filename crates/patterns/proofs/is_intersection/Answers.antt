-- `patterns::is_intersection` meets its contract: another case is another kind; the wanted one tells what the entry names.
-- Assumes nothing.
use Rattle.patterns.proofs.Views.{taken, no_intersection, refused, tests}
use Rattle.patterns.proofs.is_intersection.Goals as goal

pub returns-in_default : goal.returns-in_default
unfolding tests
returns-in_default c = refused _ (rw (no_intersection _ _ c.state_set.ensures c.in_default.not-Intersection))

pub returns : goal.returns
unfolding tests
returns c = rw (taken _ _ c.state_set.ensures c.in-Intersection.is) c.matched.ensures

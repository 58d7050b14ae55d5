-- `patterns::is_all` meets its contract: another case is another kind; the wanted one tells what the entry names.
-- Assumes nothing.
use Rattle.patterns.proofs.Views.{takenᴬ, not_all, passed, refused, tests}
use Rattle.patterns.proofs.is_all.Goals as goal

pub returns-in_default : goal.returns-in_default
unfolding tests
returns-in_default c = refused _ (rw (not_all _ _ c.action_set.ensures c.in_default.not-All))

pub returns : goal.returns
unfolding tests
returns c = passed _ (rw (takenᴬ _ _ c.action_set.ensures c.in-All.is))

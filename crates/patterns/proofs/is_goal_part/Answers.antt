-- `patterns::is_goal_part` meets its contract: another case is another kind; the wanted one tells what the entry names.
-- Assumes nothing.
use borrow.Author.Rules.{rules}
use Rattle.patterns.proofs.Views.{taken, no_intersection, refused, went_on, stopped, tests}
use Rattle.patterns.proofs.is_goal_part.Goals as goal

pub returns-in_default : goal.returns-in_default
unfolding tests
returns-in_default c = refused _ (rw (no_intersection _ _ c.state_set.ensures c.in_default.not-Intersection))

pub returns-in_err-matched : goal.returns-in_err-matched
unfolding tests
returns-in_err-matched c =
    rw (taken _ _ c.state_set.ensures c.in-Intersection.is) (stopped _ _ c.in_err-matched.ensures (search rules))

pub returns : goal.returns
unfolding tests
returns c =
    rw (taken _ _ c.state_set.ensures c.in-Intersection.is) (went_on _ _ c.in_ok-matched.ensures c.is_goal.ensures)

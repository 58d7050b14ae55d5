-- `patterns::is_regression_of_all` meets its contract: another case is another kind; the wanted one tells what the entry names.
-- Assumes nothing.
use borrow.Author.Rules.{rules}
use Rattle.patterns.proofs.Views.{taken, no_regression, refused, went_on, stopped, tests}
use Rattle.patterns.proofs.is_regression_of_all.Goals as goal

pub returns-in_default : goal.returns-in_default
unfolding tests
returns-in_default c = refused _ (rw (no_regression _ _ c.state_set.ensures c.in_default.not-Regression))

pub returns-in_err-matched : goal.returns-in_err-matched
unfolding tests
returns-in_err-matched c =
    rw (taken _ _ c.state_set.ensures c.in-Regression.is) (stopped _ _ c.in_err-matched.ensures (search rules))

pub returns : goal.returns
unfolding tests
returns c =
    rw (taken _ _ c.state_set.ensures c.in-Regression.is) (went_on _ _ c.in_ok-matched.ensures c.is_all.ensures)

-- `patterns::is_progression_of_complement` meets its contract: another case is another kind; the wanted one tells what the entry names.
-- Assumes nothing.
use borrow.Author.Rules.{rules}
use Rattle.patterns.proofs.Views.{taken, no_progression, refused, went_on, stopped, tests}
use Rattle.patterns.proofs.is_progression_of_complement.Goals as goal

pub returns-in_default : goal.returns-in_default
unfolding tests
returns-in_default c = refused _ (rw (no_progression _ _ c.state_set.ensures c.in_default.not-Progression))

pub returns-in_err-is_complement : goal.returns-in_err-is_complement
unfolding tests
returns-in_err-is_complement c =
    rw (taken _ _ c.state_set.ensures c.in-Progression.is) (stopped _ _ c.in_err-is_complement.ensures (search rules))

pub returns : goal.returns
unfolding tests
returns c =
    rw (taken _ _ c.state_set.ensures c.in-Progression.is) (went_on _ _ c.in_ok-is_complement.ensures c.matched.ensures)

-- `dead::rg` meets its contract: RG's tests in turn, and nothing matches a judgement or an entry of another kind.
-- Assumes nothing.
use mathlib.Core.Path.{◌∙◌, ap}
use borrow.Author.Rules.{rules}
use Rattle.patterns.specs.Matched.{matched}
use Rattle.rules.proofs.RuleLaws.{listed, opened, not_dead, other_said}
use Rattle.dead.proofs.DeadRules.{rg}
use Rattle.patterns.proofs.Views.{no_complement, taken, refused, went_on, stopped}
use Rattle.dead.proofs.rg.Goals as goal

pub returns-in_default : goal.returns-in_default
unfolding listed
returns-in_default c = other_said _ 11 3 0 _ _ tt (not_dead _ c.in_default.not-Dead)

pub returns-in_default-state_set : goal.returns-in_default-state_set
unfolding opened
returns-in_default-state_set c = refused _ (rw (no_complement _ _ c.state_set.ensures c.in_default-state_set.not-Complement))

pub returns-in_err-is_regression_of_all : goal.returns-in_err-is_regression_of_all
returns-in_err-is_regression_of_all c =
    rw c.in-Dead.is
    (stopped _ _ c.in_err-is_regression_of_all.ensures (search rules)
    ∙ ap matched (rg _ _ _ _ _ _ _ (taken _ _ c.state_set.ensures c.in-Complement.is)))

pub returns-in_err-is_union : goal.returns-in_err-is_union
returns-in_err-is_union c =
    rw c.in-Dead.is
    (went_on _ _ c.in_ok-is_regression_of_all.ensures
    (stopped _ _ c.in_err-is_union.ensures (search rules))
    ∙ ap matched (rg _ _ _ _ _ _ _ (taken _ _ c.state_set.ensures c.in-Complement.is)))

pub returns : goal.returns
returns c =
    rw c.in-Dead.is
    (went_on _ _ c.in_ok-is_regression_of_all.ensures
    (went_on _ _ c.in_ok-is_union.ensures
    c.is_goal_part_of_complement.ensures)
    ∙ ap matched (rg _ _ _ _ _ _ _ (taken _ _ c.state_set.ensures c.in-Complement.is)))

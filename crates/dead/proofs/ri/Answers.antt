-- `dead::ri` meets its contract: RI's tests in turn, and nothing matches a judgement of another kind.
-- Assumes nothing.
use mathlib.Core.Path.{◌∙◌, ap}
use borrow.Author.Rules.{rules}
use Rattle.patterns.specs.Matched.{matched}
use Rattle.rules.proofs.RuleLaws.{listed, not_within, other_said}
use Rattle.dead.proofs.DeadRules.{ri}
use Rattle.patterns.proofs.Views.{went_on, stopped}
use Rattle.dead.proofs.ri.Goals as goal

pub returns-in_default : goal.returns-in_default
unfolding listed
returns-in_default c = other_said _ 12 3 1 _ _ tt (not_within _ c.in_default.not-Within)

pub returns-in_err-is_regression_of_all : goal.returns-in_err-is_regression_of_all
returns-in_err-is_regression_of_all c =
    rw c.in-Within.is
    (stopped _ _ c.in_err-is_regression_of_all.ensures (search rules)
    ∙ ap matched (ri _ _ _ _ _ _ _))

pub returns-in_err-is_union : goal.returns-in_err-is_union
returns-in_err-is_union c =
    rw c.in-Within.is
    (went_on _ _ c.in_ok-is_regression_of_all.ensures
    (stopped _ _ c.in_err-is_union.ensures (search rules))
    ∙ ap matched (ri _ _ _ _ _ _ _))

pub returns-in_err-is_init : goal.returns-in_err-is_init
returns-in_err-is_init c =
    rw c.in-Within.is
    (went_on _ _ c.in_ok-is_regression_of_all.ensures
    (went_on _ _ c.in_ok-is_union.ensures
    (stopped _ _ c.in_err-is_init.ensures (search rules)))
    ∙ ap matched (ri _ _ _ _ _ _ _))

pub returns : goal.returns
returns c =
    rw c.in-Within.is
    (went_on _ _ c.in_ok-is_regression_of_all.ensures
    (went_on _ _ c.in_ok-is_union.ensures
    (went_on _ _ c.in_ok-is_init.ensures
    c.is_complement.ensures))
    ∙ ap matched (ri _ _ _ _ _ _ _))

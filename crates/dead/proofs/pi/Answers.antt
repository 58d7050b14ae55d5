-- `dead::pi` meets its contract: PI's tests in turn, and nothing matches a judgement or an entry of another kind.
-- Assumes nothing.
use mathlib.Core.Path.{◌∙◌, ap}
use borrow.Author.Rules.{rules}
use Rattle.patterns.specs.Matched.{matched}
use Rattle.rules.proofs.RuleLaws.{listed, opened, not_within, other_said}
use Rattle.dead.proofs.DeadRules.{pi}
use Rattle.patterns.proofs.Views.{no_complement, taken, refused, went_on, stopped}
use Rattle.dead.proofs.pi.Goals as goal

pub returns-in_default : goal.returns-in_default
unfolding listed
returns-in_default c = other_said _ 10 3 1 _ _ tt (not_within _ c.in_default.not-Within)

pub returns-in_default-state_set : goal.returns-in_default-state_set
unfolding opened
returns-in_default-state_set c = refused _ (rw (no_complement _ _ c.state_set.ensures c.in_default-state_set.not-Complement))

pub returns-in_err-is_progression_of_all : goal.returns-in_err-is_progression_of_all
returns-in_err-is_progression_of_all c =
    rw c.in-Within.is
    (stopped _ _ c.in_err-is_progression_of_all.ensures (search rules)
    ∙ ap matched (pi _ _ _ _ _ _ _ _ (taken _ _ c.state_set.ensures c.in-Complement.is)))

pub returns-in_err-is_union : goal.returns-in_err-is_union
returns-in_err-is_union c =
    rw c.in-Within.is
    (went_on _ _ c.in_ok-is_progression_of_all.ensures
    (stopped _ _ c.in_err-is_union.ensures (search rules))
    ∙ ap matched (pi _ _ _ _ _ _ _ _ (taken _ _ c.state_set.ensures c.in-Complement.is)))

pub returns-in_err-is_init : goal.returns-in_err-is_init
returns-in_err-is_init c =
    rw c.in-Within.is
    (went_on _ _ c.in_ok-is_progression_of_all.ensures
    (went_on _ _ c.in_ok-is_union.ensures
    (stopped _ _ c.in_err-is_init.ensures (search rules)))
    ∙ ap matched (pi _ _ _ _ _ _ _ _ (taken _ _ c.state_set.ensures c.in-Complement.is)))

pub returns : goal.returns
returns c =
    rw c.in-Within.is
    (went_on _ _ c.in_ok-is_progression_of_all.ensures
    (went_on _ _ c.in_ok-is_union.ensures
    (went_on _ _ c.in_ok-is_init.ensures
    c.matched.ensures))
    ∙ ap matched (pi _ _ _ _ _ _ _ _ (taken _ _ c.state_set.ensures c.in-Complement.is)))

-- `within::at_fewer` meets its contract: AT's tests in turn, and nothing matches a judgement or an entry of another kind.
-- Assumes nothing.
use mathlib.Core.Path.{◌∙◌, ap}
use borrow.Author.Rules.{rules}
use Rattle.patterns.specs.Matched.{matched}
use Rattle.rules.proofs.RuleLaws.{listed, opened, not_actions, other_said}
use Rattle.within.proofs.WithinRules.{at_fewer_lem}
use Rattle.patterns.proofs.Views.{no_progression, taken, refused, went_on, stopped}
use Rattle.within.proofs.at_fewer.Goals as goal

pub returns-in_default : goal.returns-in_default
unfolding listed
returns-in_default c = other_said _ 23 2 2 _ _ tt (not_actions _ c.in_default.not-ActionsWithin)

pub returns-in_default-state_set : goal.returns-in_default-state_set
unfolding opened
returns-in_default-state_set c = refused _ (rw (no_progression _ _ c.state_set.ensures c.in_default-state_set.not-Progression))

pub returns-in_err-is_progression : goal.returns-in_err-is_progression
returns-in_err-is_progression c =
    rw c.in-ActionsWithin.is
    (stopped _ _ c.in_err-is_progression.ensures (search rules)
    ∙ ap matched (at_fewer_lem _ _ _ _ _ _ _ _ _ (taken _ _ c.state_set.ensures c.in-Progression.is)))

pub returns : goal.returns
returns c =
    rw c.in-ActionsWithin.is
    (went_on _ _ c.in_ok-is_progression.ensures c.matched.ensures
    ∙ ap matched (at_fewer_lem _ _ _ _ _ _ _ _ _ (taken _ _ c.state_set.ensures c.in-Progression.is)))

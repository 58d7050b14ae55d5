-- `within::pu` meets its contract: PU's tests in turn, and nothing matches an entry of another kind.
-- Assumes nothing.
use mathlib.Core.Path.{◌∙◌, ap}
use borrow.Author.Rules.{rules}
use Rattle.patterns.specs.Matched.{matched}
use Rattle.rules.proofs.RuleLaws.{opened}
use Rattle.within.proofs.WithinRules.{pu}
use Rattle.patterns.proofs.Views.{no_progression, no_union, taken, refused, went_on, stopped}
use Rattle.within.proofs.pu.Goals as goal

pub returns-in_default : goal.returns-in_default
unfolding opened
returns-in_default c = refused _ (rw (no_progression _ _ c.state_set.ensures c.in_default.not-Progression))

pub returns-in_default-state_set : goal.returns-in_default-state_set
unfolding opened
returns-in_default-state_set c =
    refused _
    (rw (
      taken _ _ c.state_set.ensures c.in-Progression.is,
      no_union _ _ c.state_set-2.ensures c.in_default-state_set.not-Union,
    ))

pub returns-in_err-is_progression : goal.returns-in_err-is_progression
returns-in_err-is_progression c =
    stopped _ _ c.in_err-is_progression.ensures (search rules) ∙ ap matched (pu _ _ _ _ _ _ _ _ _ _ _ (taken _ _ c.state_set.ensures c.in-Progression.is) (taken _ _ c.state_set-2.ensures c.in-Union.is))

pub returns-in_err-matched : goal.returns-in_err-matched
returns-in_err-matched c =
    went_on _ _ c.in_ok-is_progression.ensures (stopped _ _ c.in_err-matched.ensures (search rules)) ∙ ap matched (pu _ _ _ _ _ _ _ _ _ _ _ (taken _ _ c.state_set.ensures c.in-Progression.is) (taken _ _ c.state_set-2.ensures c.in-Union.is))

pub returns-in_err-is_progression-2 : goal.returns-in_err-is_progression-2
returns-in_err-is_progression-2 c =
    went_on _ _ c.in_ok-is_progression.ensures
    (went_on _ _ c.in_ok-matched.ensures (stopped _ _ c.in_err-is_progression-2.ensures (search rules))) ∙ ap matched (pu _ _ _ _ _ _ _ _ _ _ _ (taken _ _ c.state_set.ensures c.in-Progression.is) (taken _ _ c.state_set-2.ensures c.in-Union.is))

pub returns : goal.returns
returns c =
    went_on _ _ c.in_ok-is_progression.ensures
    (went_on _ _ c.in_ok-matched.ensures (went_on _ _ c.in_ok-is_progression-2.ensures c.matched-2.ensures)) ∙ ap matched (pu _ _ _ _ _ _ _ _ _ _ _ (taken _ _ c.state_set.ensures c.in-Progression.is) (taken _ _ c.state_set-2.ensures c.in-Union.is))

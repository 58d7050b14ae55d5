-- `within::pt` meets its contract: PT's tests in turn, and nothing matches an entry of another kind.
-- Assumes nothing.
use mathlib.Core.Path.{◌∙◌, ap}
use borrow.Author.Rules.{rules}
use Rattle.patterns.specs.Matched.{matched}
use Rattle.rules.proofs.RuleLaws.{opened}
use Rattle.within.proofs.WithinRules.{pt}
use Rattle.patterns.proofs.Views.{no_progression, taken, refused, went_on, stopped}
use Rattle.within.proofs.pt.Goals as goal

pub returns-in_default : goal.returns-in_default
unfolding opened
returns-in_default c = refused _ (rw (no_progression _ _ c.state_set.ensures c.in_default.not-Progression))

pub returns-in_err-is_progression : goal.returns-in_err-is_progression
returns-in_err-is_progression c =
    stopped _ _ c.in_err-is_progression.ensures (search rules)
    ∙ ap matched (pt _ _ _ _ _ _ _ _ _ (taken _ _ c.state_set.ensures c.in-Progression.is))

pub returns : goal.returns
returns c =
    went_on _ _ c.in_ok-is_progression.ensures c.matched.ensures
    ∙ ap matched (pt _ _ _ _ _ _ _ _ _ (taken _ _ c.state_set.ensures c.in-Progression.is))

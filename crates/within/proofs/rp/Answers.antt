-- `within::rp` meets its contract: RP's tests in turn, and nothing matches an entry of another kind.
-- Assumes nothing.
use mathlib.Core.Path.{◌∙◌, ap}
use borrow.Author.Rules.{rules}
use Rattle.patterns.specs.Matched.{matched}
use Rattle.rules.proofs.RuleLaws.{chain, opened}
use Rattle.within.proofs.WithinRules.{rp}
use Rattle.patterns.proofs.Views.{no_regression, taken, refused, went_on, stopped}
use Rattle.within.proofs.rp.Goals as goal

pub returns-in_default : goal.returns-in_default
unfolding opened
returns-in_default c = refused _ (simp (no_regression _ _ c.state_set.ensures c.in_default.not-Regression, chain))

pub returns-in_err-is_progression_of_complement : goal.returns-in_err-is_progression_of_complement
returns-in_err-is_progression_of_complement c =
    stopped _ _ c.in_err-is_progression_of_complement.ensures (search rules)
    ∙ ap matched (rp _ _ _ _ _ _ _ (taken _ _ c.state_set.ensures c.in-Regression.is))

pub returns : goal.returns
returns c =
    went_on _ _ c.in_ok-is_progression_of_complement.ensures c.is_complement.ensures
    ∙ ap matched (rp _ _ _ _ _ _ _ (taken _ _ c.state_set.ensures c.in-Regression.is))

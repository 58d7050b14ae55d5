-- `within::pr` meets its contract: PR's tests in turn, and nothing matches an entry of another kind.
-- Assumes nothing.
use mathlib.Core.Path.{◌∙◌, ap}
use borrow.Author.Rules.{rules}
use Rattle.patterns.specs.Matched.{matched}
use Rattle.rules.proofs.RuleLaws.{chain, opened}
use Rattle.within.proofs.WithinRules.{pr}
use Rattle.patterns.proofs.Views.{no_progression, taken, refused, went_on, stopped}
use Rattle.within.proofs.pr.Goals as goal

pub returns-in_default : goal.returns-in_default
unfolding opened
returns-in_default c = refused _ (simp (no_progression _ _ c.state_set.ensures c.in_default.not-Progression, chain))

pub returns-in_err-is_regression_of_complement : goal.returns-in_err-is_regression_of_complement
returns-in_err-is_regression_of_complement c =
    stopped _ _ c.in_err-is_regression_of_complement.ensures (search rules)
    ∙ ap matched (pr _ _ _ _ _ _ _ (taken _ _ c.state_set.ensures c.in-Progression.is))

pub returns : goal.returns
returns c =
    went_on _ _ c.in_ok-is_regression_of_complement.ensures c.is_complement.ensures
    ∙ ap matched (pr _ _ _ _ _ _ _ (taken _ _ c.state_set.ensures c.in-Progression.is))

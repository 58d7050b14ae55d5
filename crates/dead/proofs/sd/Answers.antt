-- `dead::sd` meets its contract: SD's tests in turn.
-- Assumes nothing.
use mathlib.Core.Path.{◌∙◌, ap}
use Rattle.patterns.specs.Matched.{matched}
use Rattle.rules.proofs.RuleLaws.{chain, opened}
use Rattle.dead.proofs.sd.Goals as goal

pub returns : goal.returns
unfolding opened
returns c = λ f. c.matched.ensures ∙ ap matched (simp chain)

-- `within::st` meets its contract: ST's tests in turn.
-- Assumes nothing.
use mathlib.Core.Path.{◌∙◌, ap}
use Rattle.patterns.specs.Matched.{matched}
use Rattle.rules.proofs.RuleLaws.{chain, opened}
use Rattle.within.proofs.st.Goals as goal

pub returns : goal.returns
unfolding opened
returns c = λ f. c.matched.ensures ∙ ap matched (simp chain)

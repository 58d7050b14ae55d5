-- `within::si` meets its contract: SI's tests in turn.
-- Assumes nothing.
use mathlib.Core.Path.{◌∙◌, ap}
use borrow.Author.Rules.{rules}
use Rattle.patterns.specs.Matched.{matched}
use Rattle.within.proofs.WithinRules.{si}
use Rattle.patterns.proofs.Views.{went_on, stopped}
use Rattle.within.proofs.si.Goals as goal

pub returns-in_err-is_intersection : goal.returns-in_err-is_intersection
returns-in_err-is_intersection c = stopped _ _ c.in_err-is_intersection.ensures (search rules) ∙ ap matched (si _ _ _ _ _ _ _)

pub returns : goal.returns
returns c = went_on _ _ c.in_ok-is_intersection.ensures c.matched.ensures ∙ ap matched (si _ _ _ _ _ _ _)

-- `within::su` meets its contract: SU's tests in turn.
-- Assumes nothing.
use mathlib.Core.Path.{◌∙◌, ap}
use borrow.Author.Rules.{rules}
use Rattle.patterns.specs.Matched.{matched}
use Rattle.within.proofs.WithinRules.{su}
use Rattle.patterns.proofs.Views.{went_on, stopped}
use Rattle.within.proofs.su.Goals as goal

pub returns-in_err-is_union : goal.returns-in_err-is_union
returns-in_err-is_union c = stopped _ _ c.in_err-is_union.ensures (search rules) ∙ ap matched (su _ _ _ _ _ _ _)

pub returns : goal.returns
returns c = went_on _ _ c.in_ok-is_union.ensures c.matched.ensures ∙ ap matched (su _ _ _ _ _ _ _)

-- `versions::goal_span` meets its contract.
-- Assumes nothing.
use mathlib.Core.Path.{sym, ◌∙◌}
use borrow.Author.Tests.{not-true, not-false}
use Rattle.meaning.proofs.Places.{goal_first, goal_later}
use Rattle.versions.proofs.goal_span.Goals as goal

pub returns-then-has_unknown : goal.returns-then-has_unknown
returns-then-has_unknown c = sym (goal_later _ (not-true _ (sym c.has_unknown.ensures ∙ c.if-has_unknown.true)))

pub returns-else-has_unknown : goal.returns-else-has_unknown
returns-else-has_unknown c = sym (goal_first _ (not-false _ (sym c.has_unknown.ensures ∙ c.if-has_unknown.false)))

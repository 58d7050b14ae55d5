-- `layout::unknown` meets its contract.
-- Assumes nothing.
use mathlib.Core.Path.{sym, ◌∙◌}
use borrow.Author.Tests.{not-true, not-false}
use Rattle.layout.proofs.TaskLaws.{unknown_none, unknown_some}
use Rattle.layout.proofs.unknown.Goals as goal

pub returns-then-has_unknown : goal.returns-then-has_unknown
returns-then-has_unknown c = c.u64_at.ensures ∙ unknown_some _ _ (not-true _ (sym c.has_unknown.ensures ∙ c.if-has_unknown.true))

pub returns-else-has_unknown : goal.returns-else-has_unknown
returns-else-has_unknown c = unknown_none _ _ (not-false _ (sym c.has_unknown.ensures ∙ c.if-has_unknown.false))

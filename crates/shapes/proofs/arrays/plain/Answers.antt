-- `arrays::plain` meets its contract: by the entry's kind.
-- Assumes nothing.
use mathlib.Core.Path.{sym, ◌∙◌}
use Rattle.meaning.specs.Shapes.{is_complement}
use Rattle.shapes.proofs.ArrayLaws.{plain_is, plain_not}
use Rattle.shapes.proofs.arrays.plain.Goals as goal

pub returns-then-has_kind : goal.returns-then-has_kind
unfolding is_complement
returns-then-has_kind c = plain_not _ _ (sym c.has_kind.ensures ∙ c.if-has_kind.true)

pub returns-else-has_kind : goal.returns-else-has_kind
unfolding is_complement
returns-else-has_kind c = plain_is _ _ (sym c.has_kind.ensures ∙ c.if-has_kind.false)

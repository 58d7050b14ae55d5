-- `arrays::turned` meets its contract: by the entry's kind.
-- Assumes nothing.
use mathlib.Core.Path.{sym, ap, ◌∙◌}
use Prim.Native.Nat.{ℕ}
use Rattle.std.specs.Prelude.{Some}
use Rattle.meaning.specs.Shapes.{is_complement}
use Rattle.nodes.proofs.NodeLaws.{node_first}
use Rattle.shapes.proofs.ArrayLaws.{turned_is, turned_not}
use Rattle.shapes.proofs.arrays.turned.Goals as goal

pub returns-then-has_kind : goal.returns-then-has_kind
unfolding is_complement
returns-then-has_kind c =
    ap (λ (d : ℕ). Some d) (node_first _ _ _ _ c.node_at.ensures) ∙ turned_is _ _ (sym c.has_kind.ensures ∙ c.if-has_kind.true)

pub returns-else-has_kind : goal.returns-else-has_kind
unfolding is_complement
returns-else-has_kind c = turned_not _ _ (sym c.has_kind.ensures ∙ c.if-has_kind.false)

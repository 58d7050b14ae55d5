-- `index::index_entries` meets its contract. The loop's invariant: `at` is the place of entry k, and the table has the places of the k
-- entries before it.
-- Assumes nothing.
use mathlib.Core.Path.{refl, ap, ◌∙◌}
use native.Mathlib.Omega.{arith}
use Rattle.certificate.specs.Views.{entry_place}
use Rattle.certificate.specs.Index.{capped}
use Rattle.certificate.proofs.IndexLaws.{place_more, indexed_none, indexed_more}
use Rattle.certificate.proofs.index.index_entries.Goals as goal

pub loop-k-init : goal.loop-k-init
unfolding entry_place
loop-k-init c = (refl, omega arith, indexed_none _ _ _ _)

pub loop-k-preserved : goal.loop-k-preserved
loop-k-preserved c =
    let g = c.loop-k in
    let e = g.invariant.0 in (
      place_more _ _ g.k g.at _ e c.u16_at.ensures,
      omega arith,
      indexed_more _ _ _ _ g.k g.index g.invariant.2 _ (omega arith) (c.min.ensures ∙ ap capped e),
    )

-- `index::order_sets` meets its contract. The invariant: the rows of the first `e` sets are there.
-- Assumes nothing.
use mathlib.Core.Path.{ap, subst, sym, ◌∙◌}
use Prim.Native.Nat.{ℕ}
use Rattle.sorting.specs.Rows.{Room, Ordered, Kept}
use Rattle.certificate.specs.declared.Span.{Span}
use Rattle.certificate.specs.Views.{state_entry_at}
use Rattle.certificate.specs.Rows.{states_of, first_row}
use Rattle.certificate.proofs.OrderLaws.{still, set_room, rows_more}
use Rattle.certificate.proofs.index.order_sets.Goals as goal

pub order_rows-requires : goal.order_rows-requires
order_rows-requires c =
    let s = c.args in
    let v = c.loop-e in
    -- the states that are ordered are those of set e
    let l = c.states_at-x.ensures
    ∙ ap (λ (p : ℕ). states_of (state_entry_at s.file.now p)) (still c.requires v.invariant c.loop-e-test.true) in
    subst (λ (x : Span). Room s.file.now x.at x.count v.index (first_row x.at)) (sym l)
    (set_room c.requires v.invariant c.loop-e-test.true)

pub loop-e-preserved : goal.loop-e-preserved
loop-e-preserved c =
    let s = c.args in
    let v = c.loop-e in
    let l = c.states_at-x.ensures
    ∙ ap (λ (p : ℕ). states_of (state_entry_at s.file.now p)) (still c.requires v.invariant c.loop-e-test.true) in
    let r = subst
    (λ (x : Span). Ordered s.file.now x.at x.count c.order_rows.new.rows (first_row x.at)
    × Kept v.index c.order_rows.new.rows (first_row x.at) x.count)
    l (c.order_rows.ensures.ordered, c.order_rows.ensures.kept) in
    rows_more c.requires v.invariant c.loop-e-test.true r.0 r.1

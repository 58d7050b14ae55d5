-- `index::all_ascend` meets its contract. The invariant: the states of the first `e` sets ascend.
-- Assumes nothing.
use mathlib.Core.Path.{subst, sym}
use Prim.Native.Nat.{◌+◌, ◌*◌, ◌≤◌}
use lib.ListN.{length}
use lib.Dec.{T}
use borrow.Author.Tests.{not-true, not-false}
use Rattle.task.proofs.Tests.{holds}
use Rattle.certificate.specs.declared.Span.{Span}
use Rattle.certificate.proofs.OrderLaws.{set_inside, up_more, up_fails}
use Rattle.std.proofs.lemmas.Bool.{not_from_false, not_from_true}
use Rattle.certificate.proofs.index.all_ascend.Goals as goal

pub ascends-requires : goal.ascends-requires
ascends-requires c =
    let l = set_inside c.requires c.loop-e.e c.loop-e-test.true in
    subst (λ (x : Span). x.at + 8 * x.count ≤ length c.args.file.now) (sym c.states_at-x.ensures) l

pub returns-then-not-ascends : goal.returns-then-not-ascends
returns-then-not-ascends c =
    let b = c.ascends.result in
    up_fails c.args.file.now c.args.index.now c.loop-e-test.true c.states_at-x.ensures
    (λ up. subst T {x = b} (not-true b (not_from_false _ c.if-not-ascends.true)) (c.ascends.ensures.1 up))

pub loop-e-preserved : goal.loop-e-preserved
loop-e-preserved c =
    let b = c.ascends.result in
    up_more c.args.file.now c.args.index.now c.loop-e.invariant c.states_at-x.ensures
    (c.ascends.ensures.0 (holds {b = b} (not-false b (not_from_true _ c.if-not-ascends.false))))

-- `listed::Statement::one_shows` meets its contract.
-- Assumes nothing.
use mathlib.Core.Path.{ap, sym, ◌∙◌}
use native.Mathlib.Omega.{arith}
use Rattle.listed.specs.Told.{shows}
use Rattle.listed.proofs.ShownLaws.{some_different}
use Rattle.membership.proofs.LoopLaws.{some_none, some_more, some_found}
use Rattle.listed.proofs.Statement.one_shows.Goals as goal

pub loop-k-init : goal.loop-k-init
loop-k-init c = (some_none _, omega arith)

pub next_open-requires-clause-none : goal.next_open-requires-clause-none
next_open-requires-clause-none c = c.loop-k.invariant.0

pub next_open-requires-clause-bounds : goal.next_open-requires-clause-bounds
next_open-requires-clause-bounds c = (c.loop-k.invariant.1, c.different-to.ensures.0)

pub returns-then-state_shows : goal.returns-then-state_shows
returns-then-state_shows c =
    let n = c.new-states.ensures in
    let e = rw (n.0, n.1, n.2) at c.state.ensures in
    let d = rw (n.1, n.2) at c.different-to.ensures in
    let w = c.in-Some.ensures in
    some_found _ _ c.in-Some.k (omega (arith, w.1, d.0)) (ap (shows c.args.self.now) (sym e) ∙ sym c.state_shows.ensures ∙ c.if-state_shows.true)

pub loop-k-preserved : goal.loop-k-preserved
loop-k-preserved c =
    let w = c.in-Some.ensures in (
      some_more _ _ w.2 (ap (shows c.args.self.now) (sym c.state.ensures) ∙ sym c.state_shows.ensures ∙ c.if-state_shows.false),
      omega (arith, w.1),
    )

pub loop-k-smaller : goal.loop-k-smaller
loop-k-smaller c = let w = c.in-Some.ensures in omega (arith, w.0, w.1)

pub returns : goal.returns
returns c =
    let n = c.new-states.ensures in
    let d = rw (n.1, n.2) at c.different-to.ensures in
    let h = rw c.in_default.is at c.next_open.ensures in
    sym (rw (n.0, n.1, n.2) at h) ∙ some_different c.requires d (shows c.args.self.now)

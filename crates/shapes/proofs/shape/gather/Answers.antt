-- `shape::gather` meets its contract.
-- Assumes nothing.
use mathlib.Core.Path.{sym, ◌∙◌}
use borrow.Author.Rules.{rules}
use Rattle.shapes.proofs.GatheredLaws.{not_literals, shape_right, gathered_right}
use Rattle.shapes.proofs.shape.gather.Goals as goal

pub returns-then-not-literals-clause-shape : goal.returns-then-not-literals-clause-shape
returns-then-not-literals-clause-shape c =
    not_literals _ _ _ _ _ c.in_ok-p.ensures (sym c.literals.ensures ∙ search (rules, c.if-not-literals.true))

pub returns-clause-shape : goal.returns-clause-shape
returns-clause-shape c =
    let sum = rw c.requires.few at c.summary.ensures in
    let t = sym c.literals.ensures ∙ search (rules, c.if-not-literals.false) in
    c.ok.ensures.variant ∙ shape_right _ _ _ _ _ _ c.in_ok-p.ensures t _ _ _ _ _ c.fill-n.ensures c.requires.zeros _ sum

pub returns-clause-leaves : goal.returns-clause-leaves
returns-clause-leaves c =
    let sum = rw c.requires.few at c.summary.ensures in
    let t = sym c.literals.ensures ∙ search (rules, c.if-not-literals.false) in
    rw c.ok.ensures.value (gathered_right _ _ _ _ _ _ c.in_ok-p.ensures t _ _ _ _ _ c.fill-n.ensures c.requires.zeros _ sum)

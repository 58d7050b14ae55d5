-- `shape::fill` meets its contract: each list of leaves is written after the one before it.
-- Assumes nothing.
use mathlib.Core.Path.{◌≡◌, ◌∙◌}
use mathlib.Core.Bool.{true, false}
use borrow.Author.Rules.{rules}
use Rattle.certificate.specs.Known.{decoded}
use Rattle.shapes.specs.Arrays.{taken, filled}
use Rattle.shapes.proofs.ArrayLaws.{filled_taken}
use Rattle.shapes.proofs.SideLaws.{filled_by}
use Rattle.shapes.proofs.shape.fill.Goals as goal

pub returns : goal.returns
returns c =
    let f = decoded c.args.file.now.bytes.now in
    filled_by f _ _ _ _ _ _ _ _ _ _ _ _ _ _ _
    (c.put-own.ensures.written false true (λ e r h. search (rules, h)))
    (c.put-outside.ensures.written true true (λ e r h. search (rules, h)))
    (c.put-all.ensures.written false true (λ e r h. search (rules, h)))
    (c.put-some.ensures.written false false (λ e r h.
    let x : r ≡ filled f (taken f false true e) = search (rules, h) in
    x ∙ filled_taken f e false))
    (c.put-others.ensures.written true false (λ e r h.
    let x : r ≡ filled f (taken f true true e) = search (rules, h) in
    x ∙ filled_taken f e true))

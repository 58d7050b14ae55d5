-- `layout::rows::masks` meets its contract.
-- Assumes nothing.
use mathlib.Core.Path.{sym, ap, ◌∙◌}
use mathlib.Core.List.{List}
use Prim.Native.Nat.{ℕ}
use native.Mathlib.Omega.{arith}
use borrow.Author.Rules.{rules}
use denote.Ref.{Bor}
use Rattle.meaning.specs.Layout.{mask}
use Rattle.bodies.specs.Faults.{fault}
use Rattle.layout.proofs.RowLaws.{masks_end, masks_stop, masks_fit, masks_next}
use Rattle.layout.proofs.rows.masks.Goals as goal

pub returns-in_err-mask : goal.returns-in_err-mask
returns-in_err-mask c =
    let a = c.args in
    let l = c.loop in
    masks_stop a.file.now a.facts a.count a.place l.counter l.r.at l.invariant.left (search rules)
    (c.mask.ensures ∙ ap (λ (b : List ℕ). fault (mask b a.facts l.r.at)) l.invariant.same) c.in_err-mask.was (search rules)

pub loop-preserved : goal.loop-preserved
loop-preserved c =
    let a = c.args in
    let l = c.loop in
    let says = c.mask.ensures ∙ ap (λ (b : List ℕ). fault (mask b a.facts l.r.at)) l.invariant.same in
    let fit = masks_fit a.file.now a.facts a.count a.place l.counter l.r.at l.invariant.left (search rules) says c.in_ok-mask.was in
    record {
      same = ap (λ (s : Bor (List ℕ)). s.now) c.past-r.ensures.0 ∙ l.invariant.same;
      within = omega (arith, fit, c.past-r.ensures.1);
      left = masks_next a.file.now a.facts a.count a.place l.counter l.r.at l.invariant.left (search rules) says c.in_ok-mask.was _
          (sym c.past-r.ensures.1);
    }

pub returns : goal.returns
returns c =
    let a = c.args in
    let l = c.loop in
    masks_end a.file.now a.facts a.count a.place l.counter l.r.at l.invariant.left (search rules)

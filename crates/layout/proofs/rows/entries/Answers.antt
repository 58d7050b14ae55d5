-- `layout::rows::entries` meets its contract.
-- Assumes nothing.
use mathlib.Core.Path.{ap, ◌∙◌}
use mathlib.Core.List.{List}
use Prim.Native.Nat.{ℕ, ◌+◌}
use native.Mathlib.Omega.{arith}
use borrow.Author.Rules.{rules}
use denote.Ref.{Bor}
use Rattle.file_numbers.specs.Numbers.{number_at}
use Rattle.meaning.specs.Layout.{entry}
use Rattle.bodies.specs.Faults.{fault}
use Rattle.entries.specs.Forms.{sets_of}
use Rattle.layout.proofs.RowLaws.{entries_end, entries_stop, entries_fit, entries_next}
use Rattle.layout.proofs.rows.entries.Goals as goal

pub returns-in_err-entry : goal.returns-in_err-entry
returns-in_err-entry c =
    let a = c.args in
    let l = c.loop-i in
    entries_stop a.file.now a.section a.count a.place l.i l.r.at l.invariant.left (search rules)
    (c.entry.ensures ∙ ap (λ (b : List ℕ). fault (entry b ((sets_of b a.section).kinds l.i) l.r.at)) l.invariant.same) c.in_err-entry.was
    (search rules)

pub loop-i-preserved : goal.loop-i-preserved
loop-i-preserved c =
    let a = c.args in
    let l = c.loop-i in
    let says = c.entry.ensures ∙ ap (λ (b : List ℕ). fault (entry b ((sets_of b a.section).kinds l.i) l.r.at)) l.invariant.same in
    let fit = entries_fit a.file.now a.section a.count a.place l.i l.r.at l.invariant.left (search rules) says c.in_ok-entry.was in
    let size = c.u16_at.ensures ∙ ap (λ (b : List ℕ). number_at 2 b l.r.at) l.invariant.same in
    record {
      same = ap (λ (s : Bor (List ℕ)). s.now) c.past-r.ensures.0 ∙ l.invariant.same;
      within = omega (arith, fit, c.past-r.ensures.1, size);
      left = entries_next a.file.now a.section a.count a.place l.i l.r.at l.invariant.left (search rules) says c.in_ok-entry.was _
          (c.past-r.ensures.1 ∙ ap (λ (k : ℕ). l.r.at + (2 + k)) size);
    }

pub returns : goal.returns
returns c =
    let a = c.args in
    let l = c.loop-i in
    entries_end a.file.now a.section a.count a.place l.i l.r.at l.invariant.left (search rules)

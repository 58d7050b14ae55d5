-- `listed::different` meets its contract. The invariant: the row at `hi` is the last one.
-- Assumes nothing.
use mathlib.Core.Path.{◌≡◌, ap, sym, ◌∙◌}
use Prim.Native.Nat.{ℕ, ◌+◌, ◌-◌}
use native.Mathlib.Omega.{arith}
use lib.ListN.{get_or}
use borrow.Author.Rules.{rules}
use borrow.Author.Tests.{not-false}
use Rattle.certificate.specs.Rows.{first_row, row_of}
use Rattle.certificate.proofs.RowLaws.{row_some}
use Rattle.std.proofs.lemmas.Bool.{not_from_true}
use Rattle.listed.proofs.different.Goals as goal

pub returns : goal.returns
returns c =
    let v = c.loop-lo in
    let x = c.args.x.now in
    let b = sym x.ordered_by ∙ not-false x.rows (not_from_true _ c.if-not-x.false) in
    let e : v.hi + 1 - 1 ≡ v.hi = omega arith in (
      search rules,
      λ _. (
        search rules,
        ap (row_of x.index.now x.span) e ∙ row_some x.index.now x.span v.hi b ∙ v.invariant.2
            ∙ ap (λ (n : ℕ). get_or x.index.now (first_row x.span.at + (n - 1)) 0) c.len-count.ensures
            ∙ sym (row_some x.index.now x.span (x.span.count - 1) b),
      ),
    )

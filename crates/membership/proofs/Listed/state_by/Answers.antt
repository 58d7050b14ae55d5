-- `membership::Listed::state_by` meets its contract.
-- Assumes nothing.
use mathlib.Core.Path.{◌≡◌, ap, sym, ◌∙◌}
use mathlib.Core.Bool.{true, false}
use Prim.Native.Nat.{ℕ, ◌+◌, ◌*◌, ◌<◌}
use native.Mathlib.Omega.{arith}
use borrow.Author.Rules.{rules}
use lib.ListN.{get_or}
use Rattle.file_numbers.specs.Numbers.{number_at}
use Rattle.certificate.specs.Rows.{first_row}
use Rattle.certificate.proofs.RowLaws.{row_none, row_some}
use Rattle.membership.proofs.SearchLaws.{word_in}
use Rattle.membership.proofs.Listed.state_by.Goals as goal

pub u64_in-requires : goal.u64_in-requires
u64_in-requires g c =
    let s = c.args.self.now in
    let b : s.rows ≡ true = search rules in
    let e = row_some s.index.now s.span c.args.k (sym s.ordered_by ∙ b) in
    let h = s.in_order.below c.args.k c.requires.0 in
    let l : get_or s.index.now (first_row s.span.at + c.args.k) 0 < s.span.count = omega (arith, e, h) in
    omega (arith, l, s.in_order.inside)

pub returns-then-this-ne0 : goal.returns-then-this-ne0
returns-then-this-ne0 g c =
    let s = c.args.self.now in
    let b : s.rows ≡ true = search rules in
    let e = row_some s.index.now s.span c.args.k (sym s.ordered_by ∙ b) in
    let h = s.in_order.below c.args.k c.requires.0 in
    let l : get_or s.index.now (first_row s.span.at + c.args.k) 0 < s.span.count = omega (arith, e, h) in
    word_in s.bytes.now _ (omega (arith, l, s.in_order.inside)) c.u64_in.ensures
    ∙ ap (λ (r : ℕ). number_at 8 s.bytes.now (s.span.at + 8 * r)) (sym e)

pub returns : goal.returns
returns g c =
    let s = c.args.self.now in
    let b : s.rows ≡ false = search rules in
    let e = row_none s.index.now s.span c.args.k (sym s.ordered_by ∙ b) in
    word_in s.bytes.now _ (omega (arith, s.in_order.inside, c.requires.0)) c.u64_in-2.ensures
    ∙ ap (λ (r : ℕ). number_at 8 s.bytes.now (s.span.at + 8 * r)) (sym e)

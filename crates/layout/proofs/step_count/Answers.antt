-- `layout::step_count` meets its contract.
-- Assumes nothing.
use mathlib.Core.Path.{sym, ap, ◌∙◌}
use Prim.Native.Nat.{ℕ}
use borrow.Author.Rules.{rules}
use borrow.Author.Tests.{le-leb, lt-leb}
use lib.Dec.{leb}
use Rattle.std.specs.declared.result.Result.TheVariants.{Ok}
use Rattle.meaning.specs.Layout.{count}
use Rattle.layout.specs.Sections.{step_count_at}
use Rattle.layout.proofs.ToldLaws.{told_stops, told_goes, told_met, told_unmet}
use Rattle.layout.proofs.step_count.Goals as goal

pub returns-in_err-steps : goal.returns-in_err-steps
unfolding step_count_at
returns-in_err-steps c =
    let a = c.args in
    told_stops _ _ (count a.file.now 1 2048 a.place) _ c.count.ensures c.in_err-steps.was (search rules)

pub returns-then-most-steps : goal.returns-then-most-steps
unfolding step_count_at
returns-then-most-steps c =
    let a = c.args in
    told_goes _ _ (count a.file.now 1 2048 a.place) _ c.count.ensures c.in_ok-steps.was λ k k! e.
    told_unmet _ 19 a.place _ (ap (λ (j : ℕ). leb j a.most) e ∙ lt-leb _ a.most c.if-most-steps.true)

pub returns : goal.returns
unfolding step_count_at
returns c =
    let a = c.args in
    told_goes _ _ (count a.file.now 1 2048 a.place) _ c.count.ensures c.in_ok-steps.was λ k k! e.
    told_met _ 19 a.place _ (ap (λ (j : ℕ). leb j a.most) e ∙ le-leb _ a.most c.if-most-steps.false) (ap (λ (j : ℕ). Ok j) (sym e))

-- `layout::steps` meets its contract.
-- Assumes nothing.
use mathlib.Core.Path.{refl, sym, ap, ◌∙◌}
use Prim.Native.Nat.{ℕ, ◌+◌, ◌*◌}
use native.Mathlib.Omega.{arith}
use borrow.Author.Rules.{rules}
use borrow.Author.Tests.{le-leb, lt-leb}
use Rattle.std.specs.declared.result.Result.TheVariants.{Err}
use Rattle.meaning.specs.Told.{told}
use Rattle.meaning.specs.Layout.{items, step}
use Rattle.layout.specs.Sections.{step_count_at, steps_at}
use Rattle.layout.proofs.ToldLaws.{told_is, told_stops, told_goes, told_met, told_unmet}
use Rattle.layout.proofs.SectionChecks.{count_is, step_count_is}
use Rattle.layout.proofs.steps.Goals as goal

pub returns-in_err-steps : goal.returns-in_err-steps
unfolding steps_at
returns-in_err-steps c =
    let a = c.args in
    told_stops _ _ (step_count_at a.file.now a.most a.place) _ c.step_count.ensures c.in_err-steps.was (search rules)

pub overflow_add-place : goal.overflow_add-place
overflow_add-place c =
    let a = c.args in
    let k = told_is (step_count_at a.file.now a.most a.place) c.step_count.ensures c.in_ok-steps.was in
    let h = (count_is a.file.now 1 2048 a.place _ (step_count_is a.file.now a.most a.place _ k)).1 in
    search rules

pub steps-requires : goal.steps-requires
steps-requires c =
    let a = c.args in
    let k = told_is (step_count_at a.file.now a.most a.place) c.step_count.ensures c.in_ok-steps.was in
    ((count_is a.file.now 1 2048 a.place _ (step_count_is a.file.now a.most a.place _ k)).1, c.requires)

pub returns-in_err-end : goal.returns-in_err-end
unfolding steps_at
returns-in_err-end c =
    let a = c.args in
    told_goes _ _ (step_count_at a.file.now a.most a.place) _ c.step_count.ensures c.in_ok-steps.was λ k k! e.
    told_stops _ _ (items (step a.file.now) 12 (a.place + 2) k) _
    (c.steps.ensures
    ∙ ap (λ (j : ℕ). told (λ (ks : _). a.place + 2 + 12 * j) (items (step a.file.now) 12 (a.place + 2) j)) (sym e))
    c.in_err-end.was (search rules)

pub returns-then-end-file : goal.returns-then-end-file
unfolding steps_at
returns-then-end-file c =
    let a = c.args in
    told_goes _ _ (step_count_at a.file.now a.most a.place) _ c.step_count.ensures c.in_ok-steps.was λ k k! e.
    told_goes _ _ (items (step a.file.now) 12 (a.place + 2) k) _
    (c.steps.ensures
    ∙ ap (λ (j : ℕ). told (λ (ks : _). a.place + 2 + 12 * j) (items (step a.file.now) 12 (a.place + 2) j)) (sym e))
    c.in_ok-end.was λ ks ks! end.
    ap (λ (p : ℕ). Err (record { number = 3; place = p })) (sym end)
    ∙ told_unmet _ 3 (a.place + 2 + 12 * k) _ (lt-leb _ _ (omega arith))

pub returns : goal.returns
unfolding steps_at
returns c =
    let a = c.args in
    told_goes _ _ (step_count_at a.file.now a.most a.place) _ c.step_count.ensures c.in_ok-steps.was λ k k! e.
    told_goes _ _ (items (step a.file.now) 12 (a.place + 2) k) _
    (c.steps.ensures
    ∙ ap (λ (j : ℕ). told (λ (ks : _). a.place + 2 + 12 * j) (items (step a.file.now) 12 (a.place + 2) j)) (sym e))
    c.in_ok-end.was λ ks ks! end.
    told_met _ 3 (a.place + 2 + 12 * k) _ (le-leb _ _ (omega arith)) refl

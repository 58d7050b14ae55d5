-- `layout::after_task` meets its contract.
-- Assumes nothing.
use mathlib.Core.Path.{sym, ap, ap₂, ◌∙◌}
use Prim.Native.Nat.{ℕ}
use borrow.Author.Rules.{rules}
use mathlib.Core.List.{List}
use Rattle.std.specs.declared.result.Result.TheVariants.{Ok}
use Rattle.meaning.specs.Told.{told}
use Rattle.meaning.specs.File.{StateSet}
use Rattle.entries.specs.declared.Section.TheVariants.{ActionSets, StateSets}
use Rattle.file_numbers.specs.Numbers.{number_at}
use Rattle.bodies.specs.Faults.{fault}
use Rattle.layout.specs.Sections.{section_at, steps_at, rest_at}
use Rattle.layout.proofs.ToldLaws.{told_stops, told_goes}
use Rattle.layout.proofs.after_task.Goals as goal

pub returns-in_err-action_sets : goal.returns-in_err-action_sets
unfolding rest_at
returns-in_err-action_sets c =
    let a = c.args in
    told_stops _ _ (section_at a.file.now (ActionSets a.actions) 256 a.place) _ c.counted.ensures c.in_err-action_sets.was (search rules)

pub returns-in_err-state_sets : goal.returns-in_err-state_sets
unfolding rest_at
returns-in_err-state_sets c =
    let a = c.args in
    told_goes _ _ (section_at a.file.now (ActionSets a.actions) 256 a.place) _ c.counted.ensures c.in_ok-action_sets.was λ es es! e.
    told_stops (λ (x : List StateSet × ℕ). x.1) _ (section_at a.file.now (StateSets a.facts (number_at 2 a.file.now a.place) a.limits.states) 512 es.1) _
    (c.counted-2.ensures
    ∙ (λ j. told (λ (x : List StateSet × ℕ). x.1) (section_at a.file.now (StateSets a.facts (c.u16_at.ensures j) a.limits.states) 512 (sym e j))))
    c.in_err-state_sets.was (search rules)

pub returns-in_err-steps : goal.returns-in_err-steps
unfolding rest_at
returns-in_err-steps c =
    let a = c.args in
    told_goes _ _ (section_at a.file.now (ActionSets a.actions) 256 a.place) _ c.counted.ensures c.in_ok-action_sets.was λ es es! e.
    told_goes (λ (x : List StateSet × ℕ). x.1) _ (section_at a.file.now (StateSets a.facts (number_at 2 a.file.now a.place) a.limits.states) 512 es.1) _
    (c.counted-2.ensures
    ∙ (λ j. told (λ (x : List StateSet × ℕ). x.1) (section_at a.file.now (StateSets a.facts (c.u16_at.ensures j) a.limits.states) 512 (sym e j))))
    c.in_ok-state_sets.was λ ss ss! e'.
    told_stops (λ _. tt) _ (steps_at a.file.now a.limits.steps ss.1) _
    (c.steps.ensures ∙ ap (λ (p : ℕ). fault (steps_at a.file.now a.limits.steps p)) (sym e'))
    c.in_err-steps.was (search rules)

pub returns : goal.returns
unfolding rest_at
returns c =
    let a = c.args in
    told_goes _ _ (section_at a.file.now (ActionSets a.actions) 256 a.place) _ c.counted.ensures c.in_ok-action_sets.was λ es es! e.
    told_goes (λ (x : List StateSet × ℕ). x.1) _ (section_at a.file.now (StateSets a.facts (number_at 2 a.file.now a.place) a.limits.states) 512 es.1) _
    (c.counted-2.ensures
    ∙ (λ j. told (λ (x : List StateSet × ℕ). x.1) (section_at a.file.now (StateSets a.facts (c.u16_at.ensures j) a.limits.states) 512 (sym e j))))
    c.in_ok-state_sets.was λ ss ss! e'.
    told_goes (λ _. tt) _ (steps_at a.file.now a.limits.steps ss.1) _
    (c.steps.ensures ∙ ap (λ (p : ℕ). fault (steps_at a.file.now a.limits.steps p)) (sym e'))
    c.in_ok-steps.was λ ks ks! _.
    ap₂ (λ (x y : ℕ). Ok (x, y)) (sym e) (sym e')

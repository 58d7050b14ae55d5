-- `layout::read_layout` meets its contract.
-- Assumes nothing.
use mathlib.Core.Path.{refl}
use native.Mathlib.Omega.{arith}
use borrow.Author.Rules.{rules}
use Rattle.layout.specs.Sections.{rest_at}
use Rattle.layout.proofs.ToldLaws.{told_is}
use Rattle.layout.proofs.HeadLaws.{head_goal, head_actions}
use Rattle.layout.proofs.LayoutLaws.{rest_ends, length_bad, length_most, length_over, task_bad, rest_bad, lawful}
use borrow.Author.Tests.{le-leb, lt-leb}
use Rattle.layout.proofs.read_layout.Goals as goal

pub returns-then-not-whole : goal.returns-then-not-whole
returns-then-not-whole c = length_bad c.args.limits c.args.file.now c.is_whole-whole.ensures c.if-not-whole.true

pub returns-then-not-allowed : goal.returns-then-not-allowed
returns-then-not-allowed c =
    let a = c.args in
    length_over a.limits a.file.now c.is_whole-whole.ensures c.if-not-whole.false refl (lt-leb _ _ c.if-not-allowed.true)

pub task-requires : goal.task-requires
task-requires c = length_most c.args.limits c.args.file.now c.is_whole-whole.ensures c.if-not-whole.false

pub returns-in_err-task : goal.returns-in_err-task
returns-in_err-task c =
    let a = c.args in
    task_bad a.limits a.file.now c.is_whole-whole.ensures c.if-not-whole.false refl (le-leb _ _ c.if-not-allowed.false)
    c.task.ensures c.in_err-task.was (search rules)

pub after_task-requires : goal.after_task-requires
after_task-requires c = length_most c.args.limits c.args.file.now c.is_whole-whole.ensures c.if-not-whole.false

pub returns-in_err-action_sets : goal.returns-in_err-action_sets
returns-in_err-action_sets c =
    let a = c.args in
    let h = c.task_head-head in
    let actions_are = head_actions a.file.now c.byte_at-version.result _ _ c.goal_span.ensures c.off_size.ensures h.ensures in
    rest_bad a.limits a.file.now c.is_whole-whole.ensures c.if-not-whole.false refl (le-leb _ _ c.if-not-allowed.false)
    c.task.ensures c.in_ok-task.was c.byte_at-version.ensures (λ i. (h.ensures i).facts) actions_are c.after_actions-first.ensures
    c.after_task.ensures c.in_err-action_sets.was (search rules)

pub overflow_add-result : goal.overflow_add-result
overflow_add-result c =
    let a = c.args in
    let h = c.task_head-head in
    let s = length_most a.limits a.file.now c.is_whole-whole.ensures c.if-not-whole.false in
    let i = told_is (rest_at a.file.now a.limits h.result.facts h.result.actions c.after_actions-first.result) c.after_task.ensures
    c.in_ok-action_sets.was in
    let r = rest_ends a.limits a.file.now h.result.facts h.result.actions _ i in
    record { fits = omega (arith, s, r.0) }

pub overflow_add-result-2 : goal.overflow_add-result-2
overflow_add-result-2 c =
    let a = c.args in
    let h = c.task_head-head in
    let s = length_most a.limits a.file.now c.is_whole-whole.ensures c.if-not-whole.false in
    let i = told_is (rest_at a.file.now a.limits h.result.facts h.result.actions c.after_actions-first.result) c.after_task.ensures
    c.in_ok-action_sets.was in
    let r = rest_ends a.limits a.file.now h.result.facts h.result.actions _ i in
    record { fits = omega (arith, s, r.1) }

pub overflow_add-result-3 : goal.overflow_add-result-3
overflow_add-result-3 c =
    let a = c.args in
    let h = c.task_head-head in
    let s = length_most a.limits a.file.now c.is_whole-whole.ensures c.if-not-whole.false in
    let i = told_is (rest_at a.file.now a.limits h.result.facts h.result.actions c.after_actions-first.result) c.after_task.ensures
    c.in_ok-action_sets.was in
    let r = rest_ends a.limits a.file.now h.result.facts h.result.actions _ i in
    record { fits = omega (arith, s, r.2) }

pub returns : goal.returns
returns c =
    let a = c.args in
    let h = c.task_head-head in
    let actions_are = head_actions a.file.now c.byte_at-version.result _ _ c.goal_span.ensures c.off_size.ensures h.ensures in
    let goal_is = head_goal a.file.now c.byte_at-version.result _ _ c.goal_span.ensures c.off_size.ensures h.ensures in
    lawful a.limits a.file.now c.is_whole-whole.ensures c.if-not-whole.false refl (le-leb _ _ c.if-not-allowed.false)
    c.task.ensures c.in_ok-task.was c.byte_at-version.ensures (λ i. (h.ensures i).facts) actions_are c.after_actions-first.ensures
    (λ i. (h.ensures i).init) goal_is c.ends.ensures c.u16_at.ensures c.u16_at-2.ensures c.u16_at-3.ensures
    (told_is (rest_at a.file.now a.limits h.result.facts h.result.actions c.after_actions-first.result) c.after_task.ensures
    c.in_ok-action_sets.was)

-- `layout::task` meets its contract: each test passes what is left to read on to the next one.
-- Assumes nothing.
use mathlib.Core.Path.{ap, ap₂, ◌∙◌}
use Prim.Native.Nat.{ℕ, ◌+◌, ◌*◌, ◌/◌, ◌≤◌}
use native.Mathlib.Nat.{mul-le-mul_right}
use native.Mathlib.Omega.{arith}
use borrow.Author.Rules.{rules}
use Rattle.meaning.specs.Told.{told}
use Rattle.meaning.specs.Layout.{items, count, mask, action_size}
use Rattle.meaning.proofs.Places.{places}
use Rattle.bodies.specs.Faults.{fault}
use Rattle.layout.proofs.ToldLaws.{told_is}
use Rattle.layout.proofs.SectionChecks.{count_is, count_few}
use Rattle.layout.proofs.TaskLaws.{opening_bad, opened_well, started_well, aimed_well}
use Rattle.layout.proofs.TaskLaws.{start_refused, goal_refused, count_refused, actions_say}
use Rattle.layout.proofs.task.Goals as goal

pub returns-in_err-version : goal.returns-in_err-version
returns-in_err-version c = opening_bad c.args.file.now c.opening.ensures c.in_err-version.was (search rules)

pub start-requires : goal.start-requires
start-requires c =
    let bytes = c.args.file.now in
    let opened = (opened_well bytes c.opening.ensures c.in_ok-version.was (λ i. (c.task_head-head.ensures i).facts)).0 in
    (opened.ends, c.requires)

pub returns-in_err-start : goal.returns-in_err-start
returns-in_err-start c =
    let bytes = c.args.file.now in
    let opened = (opened_well bytes c.opening.ensures c.in_ok-version.was (λ i. (c.task_head-head.ensures i).facts)).0 in
    start_refused bytes opened c.start.ensures c.in_err-start.was (search rules)

pub masks-requires : goal.masks-requires
masks-requires c =
    let bytes = c.args.file.now in
    let opened = (opened_well bytes c.opening.ensures c.in_ok-version.was (λ i. (c.task_head-head.ensures i).facts)).0 in
    let started = started_well bytes opened c.start.ensures c.in_ok-start.was in
    (rw c.goal_at.ensures started.ends, c.requires)

pub returns-in_err-masks : goal.returns-in_err-masks
returns-in_err-masks c =
    let bytes = c.args.file.now in
    let facts = c.task_head-head.result.facts in
    let opened = (opened_well bytes c.opening.ensures c.in_ok-version.was (λ i. (c.task_head-head.ensures i).facts)).0 in
    let started = started_well bytes opened c.start.ensures c.in_ok-start.was in
    let goal_said =
    c.masks.ensures ∙ ap₂ (λ (p o : ℕ). fault (items (mask bytes facts) 8 p (1 + o / 8))) c.goal_at.ensures c.off_size-off.ensures in
    goal_refused bytes started goal_said c.in_err-masks.was (search rules)

pub returns-in_err-actions : goal.returns-in_err-actions
returns-in_err-actions c =
    let bytes = c.args.file.now in
    let facts = c.task_head-head.result.facts in
    let opened = (opened_well bytes c.opening.ensures c.in_ok-version.was (λ i. (c.task_head-head.ensures i).facts)).0 in
    let started = started_well bytes opened c.start.ensures c.in_ok-start.was in
    let goal_said =
    c.masks.ensures ∙ ap₂ (λ (p o : ℕ). fault (items (mask bytes facts) 8 p (1 + o / 8))) c.goal_at.ensures c.off_size-off.ensures in
    let aimed = aimed_well bytes started goal_said c.in_ok-masks.was in
    let count_said = c.count.ensures ∙ ap (λ (p : ℕ). told (λ (c : ℕ). c) (count bytes 0 256 p)) c.action_count_at-counted.ensures in
    count_refused bytes aimed count_said c.in_err-actions.was (search rules)

pub returns : goal.returns
returns c =
    let bytes = c.args.file.now in
    let facts = c.task_head-head.result.facts in
    let actions = c.in_ok-actions.actions in
    let opened = (opened_well bytes c.opening.ensures c.in_ok-version.was (λ i. (c.task_head-head.ensures i).facts)).0 in
    let started = started_well bytes opened c.start.ensures c.in_ok-start.was in
    let goal_said =
    c.masks.ensures ∙ ap₂ (λ (p o : ℕ). fault (items (mask bytes facts) 8 p (1 + o / 8))) c.goal_at.ensures c.off_size-off.ensures in
    let aimed = aimed_well bytes started goal_said c.in_ok-masks.was in
    let count_said = c.count.ensures ∙ ap (λ (p : ℕ). told (λ (c : ℕ). c) (count bytes 0 256 p)) c.action_count_at-counted.ensures in
    let masks_are = ap (λ (k : ℕ). k / 8 * actions) c.action_size.ensures in
    actions_say bytes aimed (told_is (count bytes 0 256 _) count_said c.in_ok-actions.was)
    (c.masks-2.ensures
    ∙ ap₂ (λ (p m : ℕ). fault (items (mask bytes facts) 8 (p + 2) m)) c.action_count_at-counted.ensures masks_are)

-- a file with at most 256 actions has at most 1,024 masks of them
pub overflow_mul-masks : goal.overflow_mul-masks
overflow_mul-masks c =
    let bytes = c.args.file.now in
    let version = c.in_ok-version.version in
    let actions = c.in_ok-actions.actions in
    let l = count_few bytes 0 256 _ _ (told_is (count bytes 0 256 c.action_count_at-counted.result) c.count.ensures c.in_ok-actions.was) in
    let masks_are = ap (λ (k : ℕ). k / 8 * actions) c.action_size.ensures in
    let o = places version in
    let few : action_size version / 8 ≤ 4 = omega arith in
    let m = mul-le-mul_right actions few in
    record { fits = omega arith }

pub overflow_add-counted : goal.overflow_add-counted
overflow_add-counted c =
    let o = places c.in_ok-version.version in record { fits = omega (arith, c.action_count_at-counted.ensures) }

-- they start within the file
pub masks-requires-2 : goal.masks-requires-2
masks-requires-2 c =
    let bytes = c.args.file.now in
    ((count_is bytes 0 256 _ _ (told_is (count bytes 0 256 c.action_count_at-counted.result) c.count.ensures c.in_ok-actions.was)).1, c.requires)

-- `actions::look`: an entry that is wanted is found, or the two entries that it names are wanted.
-- Assumes nothing.
use mathlib.Core.Path.{sym, ap, ◌∙◌, subst}
use mathlib.Core.Bool.{Bool, ◌||◌}
use Prim.Native.Nat.{ℕ, ◌≤◌}
use native.Mathlib.Omega.{arith}
use lib.Dec.{ltb}
use Rattle.task.proofs.Tests.{holds}
use Rattle.certificate.specs.Views.{actions_in}
use Rattle.certificate.proofs.KnownLaws.{read_file_lem}
use Rattle.actions.specs.Marks.{marked}
use Rattle.actions.proofs.SearchLaws.{looking_found, looking_either}
use Rattle.actions.proofs.EntryActions.{small, all_in, listed_in_lem, either_in, either_below, either_small}
use Rattle.actions.proofs.look.Goals as goal

pub is_marked-requires : goal.is_marked-requires
is_marked-requires c = small _ _ c.args.file.now.known c.args.e c.requires.0

pub first_marks-requires : goal.first_marks-requires
unfolding actions_in
first_marks-requires c =
    subst (λ (n : ℕ). n ≤ 256) (λ i. (sym c.actions.ensures i).count) (read_file_lem _ c.args.file.now.known.read).task.few_actions

pub with_mark-requires : goal.with_mark-requires
with_mark-requires c =
    let h = either_small _ _ c.args.file.now.known c.args.e c.requires.0 _ c.action_set.ensures _ _ c.in-Either.is in
    omega arith

pub with_mark-requires-in-Either : goal.with_mark-requires-in-Either
with_mark-requires-in-Either c =
    let h = either_small _ _ c.args.file.now.known c.args.e c.requires.0 _ c.action_set.ensures _ _ c.in-Either.is in
    omega arith

pub returns-in-All : goal.returns-in-All
unfolding actions_in
returns-in-All c =
    let g = all_in _ _ c.args.file.now.known c.args.e c.requires.0 _ c.action_set.ensures c.in-All.is in
    looking_found _ _ c.args.e _ _ c.requires.1 (holds (sym c.is_marked.ensures ∙ c.if-not-is_marked.false)) _ (λ i l.
    let first = c.first_marks.ensures i l ∙ ap (ltb i) (λ j. (c.actions.ensures j).count) ∙ sym (g i) in
    c.united.ensures i l ∙ ap (λ (x : Bool). marked c.args.search.found i || x) first)

pub returns-in-Listed : goal.returns-in-Listed
returns-in-Listed c =
    let g = listed_in_lem _ _ c.args.file.now.known c.args.e c.requires.0 _ c.action_set.ensures _ c.in-Listed.is in
    looking_found _ _ c.args.e _ _ c.requires.1 (holds (sym c.is_marked.ensures ∙ c.if-not-is_marked.false)) _
    (λ i l. c.with_listed.ensures i l ∙ ap (λ (x : Bool). marked c.args.search.found i || x) (sym (g i)))

pub returns-in-Either : goal.returns-in-Either
returns-in-Either c =
    let k = c.args.file.now.known in
    let b = either_below _ _ k c.args.e c.requires.0 _ c.action_set.ensures _ _ c.in-Either.is in
    looking_either _ _ c.args.e _ _ c.requires.1 (holds (sym c.is_marked.ensures ∙ c.if-not-is_marked.false)) _ _ _ _
    (small _ _ k c.args.e c.requires.0) b.0 b.1
    (either_in _ _ k c.args.e c.requires.0 _ c.action_set.ensures _ _ c.in-Either.is) c.with_mark.ensures c.with_mark-in-Either.ensures

-- `inclusion::some_refutes`: the actions of the set are tried in turn; none of those tried so far makes the statement untrue.
-- Assumes nothing.
use mathlib.Core.Path.{◌≡◌, sym, ap, ◌∙◌, subst}
use Prim.Native.Nat.{◌<◌}
use native.Mathlib.Omega.{arith}
use lib.ListN.{length}
use lib.Dec.{T}
use Rattle.task.specs.Inner.{ends_of}
use Rattle.meaning.specs.File.{File}
use Rattle.meaning.specs.Sets.{in_actions}
use Rattle.certificate.specs.declared.Actions.{Actions}
use Rattle.certificate.specs.Views.{actions_in}
use Rattle.certificate.specs.Known.{decoded}
use Rattle.certificate.proofs.KnownLaws.{read_file_lem}
use Rattle.inclusion.proofs.Ready.{action_fits}
use Rattle.inclusion.proofs.TryLaws.{none_yet, none_tried, none_skipped, some_found, none_found}
use Rattle.inclusion.proofs.some_refutes.Goals as goal
use Rattle.inclusion.proofs.some_refutes.Goals.{then-is_marked+else-one_refutes, else-is_marked}

-- so many actions there are
count : (f : File) (x : Actions) → x ≡ actions_in f → x.count ≡ length f.task.actions
unfolding actions_in
count f x e = ap (λ (y : Actions). y.count) e

pub loop-i-init : goal.loop-i-init
loop-i-init c = none_yet

pub is_marked-requires : goal.is_marked-requires
is_marked-requires c =
    let n = (read_file_lem _ c.args.file.now.entries.known.read).task.few_actions in
    omega (arith, count _ _ c.actions-all.ensures)

pub action-a-requires : goal.action-a-requires
action-a-requires c = (c.args.file.now.entries.known.read, c.actions-all.ensures)

pub one_refutes-requires-clause-add_bound : goal.one_refutes-requires-clause-add_bound
unfolding ends_of
one_refutes-requires-clause-add_bound c =
    let l = rw (count _ _ c.actions-all.ensures) at c.loop-i-test.true in
    rw (c.action-a.ensures, c.args.file.now.ends_are) (action_fits _ _ c.args.file.now.entries.known c.loop-i.i l).add

pub returns-then-one_refutes : goal.returns-then-one_refutes
returns-then-one_refutes c =
    let f : File = decoded c.args.file.now.entries.bytes.now in
    let n = (read_file_lem _ c.args.file.now.entries.known.read).task.few_actions in
    let l : c.loop-i.i < length f.task.actions = omega (arith, count _ _ c.actions-all.ensures) in
    let t : T (in_actions f c.args.x.now.told.actions c.loop-i.i) =
    subst T (c.is_marked.ensures ∙ c.action_marks-marks.ensures c.loop-i.i (omega arith))
    (subst T (sym c.if-is_marked.true) tt) in (
      (λ _. some_found f c.args.x.now.told.actions _ c.loop-i.i _ _ l t c.action-a.ensures c.one_refutes.ensures c.if-one_refutes.true),
      λ _. tt,
    )

pub loop-i-preserved : goal.loop-i-preserved
loop-i-preserved c =
    let n = (read_file_lem _ c.args.file.now.entries.known.read).task.few_actions in
    elim c.if-is_marked.branch [
      | then-is_marked+else-one_refutes w ↦ none_tried _ _ _ c.loop-i.invariant w.action-a.ensures w.one_refutes.ensures w.if-one_refutes.false
      | else-is_marked w ↦ none_skipped _ _ _ c.loop-i.invariant c.is_marked.ensures
          (c.action_marks-marks.ensures _ (omega (arith, count _ _ c.actions-all.ensures))) w.if-is_marked.false
    ]

pub returns : goal.returns
returns c = ((λ w. absurd w), none_found _ (omega (arith, count _ _ c.actions-all.ensures)) c.loop-i.invariant)

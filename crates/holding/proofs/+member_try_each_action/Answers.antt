-- `holding::member` and `holding::try_each_action` meet their contracts. What an entry names comes earlier.
-- Assumes nothing.
use native.Mathlib.Omega.{arith}
use mathlib.Core.Path.{◌≡◌, sym, ap, ap₂, ◌∙◌}
use mathlib.Core.Bool.{not, ◌&&◌, ◌||◌}
use lib.ListN.{length}
use Rattle.certificate.specs.Views.{actions_in}
use Rattle.certificate.specs.Known.{decoded}
use Rattle.certificate.proofs.KnownLaws.{read_file_lem}
use Rattle.meaning.specs.Sets.{state_node, in_set, in_actions}
use Rattle.holding.proofs.AskLaws.{seen, set_orderly, set_in, clear_at, in_at, fits_at}
use Rattle.holding.proofs.TriedLaws.{none_first, none_more, none_leads, one_leads, tried}
use Rattle.holding.proofs.+member_try_each_action.Goals as goal
use Rattle.holding.proofs.+member_try_each_action.Goals.{try_each_action-else-is_marked-via-then-is_marked+then-applies+else-member, try_each_action-else-is_marked-via-then-is_marked+else-applies, try_each_action-else-is_marked-via-else-is_marked}

-- ---- member

pub member-set_holds-requires : goal.member-set_holds-requires
member-set_holds-requires t c = set_orderly _ _ c.args.file.now.entries.known c.args.e _ c.state_set.ensures _ c.in-Basic.is

pub member-member-requires : goal.member-member-requires
member-member-requires t c =
    let z = seen _ _ c.args.file.now.entries.known c.args.e _ c.state_set.ensures _ c.in-Complement.is in
    let p = clear_at _ _ c.args.file.now.entries.known c.args.e _ z c.requires in
    let l = fits_at _ _ c.args.file.now.entries.known c.args.e _ z in
    (omega (arith, l), p)

pub member-member-requires-in-Intersection : goal.member-member-requires-in-Intersection
member-member-requires-in-Intersection t c =
    let z = seen _ _ c.args.file.now.entries.known c.args.e _ c.state_set.ensures _ c.in-Intersection.is in
    let p = clear_at _ _ c.args.file.now.entries.known c.args.e _ z c.requires in
    let l = fits_at _ _ c.args.file.now.entries.known c.args.e _ z in
    (omega (arith, l.0), p.0)

pub member-member-requires-in-Intersection-2 : goal.member-member-requires-in-Intersection-2
member-member-requires-in-Intersection-2 t c =
    let z = seen _ _ c.args.file.now.entries.known c.args.e _ c.state_set.ensures _ c.in-Intersection.is in
    let p = clear_at _ _ c.args.file.now.entries.known c.args.e _ z c.requires in
    let l = fits_at _ _ c.args.file.now.entries.known c.args.e _ z in
    (omega (arith, l.1), p.1)

pub member-member-requires-in-Union : goal.member-member-requires-in-Union
member-member-requires-in-Union t c =
    let z = seen _ _ c.args.file.now.entries.known c.args.e _ c.state_set.ensures _ c.in-Union.is in
    let p = clear_at _ _ c.args.file.now.entries.known c.args.e _ z c.requires in
    let l = fits_at _ _ c.args.file.now.entries.known c.args.e _ z in
    (omega (arith, l.0), p.0)

pub member-member-requires-in-Union-2 : goal.member-member-requires-in-Union-2
member-member-requires-in-Union-2 t c =
    let z = seen _ _ c.args.file.now.entries.known c.args.e _ c.state_set.ensures _ c.in-Union.is in
    let p = clear_at _ _ c.args.file.now.entries.known c.args.e _ z c.requires in
    let l = fits_at _ _ c.args.file.now.entries.known c.args.e _ z in
    (omega (arith, l.1), p.1)

pub member-try_each_action-requires : goal.member-try_each_action-requires
member-try_each_action-requires t c =
    let z = seen _ _ c.args.file.now.entries.known c.args.e _ c.state_set.ensures _ c.in-Regression.is in
    let p = clear_at _ _ c.args.file.now.entries.known c.args.e _ z c.requires in
    let l = fits_at _ _ c.args.file.now.entries.known c.args.e _ z in
    (omega (arith, l.0), (p, l.1))

pub member-returns-in-Basic : goal.member-returns-in-Basic
member-returns-in-Basic t c =
    c.set_holds.ensures
    ∙ set_in _ _ c.args.file.now.entries.known c.args.e _ c.state_set.ensures _ c.in-Basic.is _ c.args.file.now.ends_are c.args.s

pub member-returns-in-Complement : goal.member-returns-in-Complement
unfolding state_node
member-returns-in-Complement t c =
    let z = seen _ _ c.args.file.now.entries.known c.args.e _ c.state_set.ensures _ c.in-Complement.is in
    ap not c.member.ensures ∙ sym (in_at _ _ c.args.file.now.entries.known c.args.e _ z c.args.s)

pub member-returns-in-Intersection : goal.member-returns-in-Intersection
unfolding state_node
member-returns-in-Intersection t c =
    let z = seen _ _ c.args.file.now.entries.known c.args.e _ c.state_set.ensures _ c.in-Intersection.is in
    ap₂ ◌&&◌ c.member-in-Intersection.ensures c.member-in-Intersection-2.ensures ∙ sym (in_at _ _ c.args.file.now.entries.known c.args.e _ z c.args.s)

pub member-returns-in-Union : goal.member-returns-in-Union
unfolding state_node
member-returns-in-Union t c =
    let z = seen _ _ c.args.file.now.entries.known c.args.e _ c.state_set.ensures _ c.in-Union.is in
    ap₂ ◌||◌ c.member-in-Union.ensures c.member-in-Union-2.ensures ∙ sym (in_at _ _ c.args.file.now.entries.known c.args.e _ z c.args.s)

pub member-returns-in-Progression : goal.member-returns-in-Progression
member-returns-in-Progression t c =
    let z = seen _ _ c.args.file.now.entries.known c.args.e _ c.state_set.ensures _ c.in-Progression.is in
    absurd (clear_at _ _ c.args.file.now.entries.known c.args.e _ z c.requires)

pub member-returns-in-Regression : goal.member-returns-in-Regression
unfolding state_node
member-returns-in-Regression t c =
    let z = seen _ _ c.args.file.now.entries.known c.args.e _ c.state_set.ensures _ c.in-Regression.is in
    c.try_each_action.ensures ∙ sym (in_at _ _ c.args.file.now.entries.known c.args.e _ z c.args.s)

-- ---- try_each_action

pub try_each_action-loop-i-init : goal.try_each_action-loop-i-init
try_each_action-loop-i-init t c = none_first _ _ _ _

-- an action's number fits the marks
pub try_each_action-is_marked-requires : goal.try_each_action-is_marked-requires
unfolding actions_in
try_each_action-is_marked-requires t c =
    let n : c.actions-all.result.count ≡ length (decoded c.args.file.now.entries.bytes.now).task.actions = λ i. (c.actions-all.ensures i).count in
    let h = (read_file_lem _ c.args.file.now.entries.known.read).task.few_actions in
    omega arith

pub try_each_action-returns-then-member : goal.try_each_action-returns-then-member
unfolding actions_in
try_each_action-returns-then-member t c =
    let n : c.actions-all.result.count ≡ length (decoded c.args.file.now.entries.bytes.now).task.actions = λ i. (c.actions-all.ensures i).count in
    let h = (read_file_lem _ c.args.file.now.entries.known.read).task.few_actions in
    let f = decoded c.args.file.now.entries.bytes.now in
    let v = tried f.task (in_set f c.args.e) (in_actions f c.args.a) c.args.s _ c.action_marks-marks.ensures c.loop-i.i (omega arith)
    _ c.action-act.ensures _ c.is_marked.ensures in
    one_leads _ _ _ _ c.loop-i.i _ n c.loop-i-test.true
    (v.led c.if-is_marked.true _ c.applies.ensures c.if-applies.true _ _ c.after.ensures c.member.ensures ∙ c.if-member.true)

pub try_each_action-loop-i-preserved : goal.try_each_action-loop-i-preserved
unfolding actions_in
try_each_action-loop-i-preserved t c =
    let n : c.actions-all.result.count ≡ length (decoded c.args.file.now.entries.bytes.now).task.actions = λ i. (c.actions-all.ensures i).count in
    let h = (read_file_lem _ c.args.file.now.entries.known.read).task.few_actions in
    let f = decoded c.args.file.now.entries.bytes.now in
    let v = tried f.task (in_set f c.args.e) (in_actions f c.args.a) c.args.s _ c.action_marks-marks.ensures c.loop-i.i (omega arith)
    _ c.action-act.ensures _ c.is_marked.ensures in
    none_more _ _ _ _ _ c.loop-i.invariant
    (elim c.else-is_marked.branch [
      | try_each_action-else-is_marked-via-then-is_marked+then-applies+else-member w ↦
          v.led w.if-is_marked.true _ w.applies.ensures w.if-applies.true _ _ w.after.ensures w.member.ensures ∙ w.if-member.false
      | try_each_action-else-is_marked-via-then-is_marked+else-applies w ↦ v.unmet w.if-is_marked.true _ w.applies.ensures w.if-applies.false
      | try_each_action-else-is_marked-via-else-is_marked w ↦ v.unmarked w.if-is_marked.false
    ])

pub try_each_action-returns : goal.try_each_action-returns
unfolding actions_in
try_each_action-returns t c =
    let e : c.loop-i.i ≡ c.actions-all.result.count = omega arith in
    none_leads _ _ _ _ c.loop-i.i (e ∙ λ i. (c.actions-all.ensures i).count) c.loop-i.invariant

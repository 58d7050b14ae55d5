-- `inclusion::decide`: the shape first, then the search for a counterexample.
-- Assumes nothing.
use mathlib.Core.Path.{◌≡◌, refl, sym, ap, ◌∙◌, subst}
use mathlib.Core.Logic.Iff
use Prim.Native.Nat.{ℕ, zero, suc, ◌<◌}
use native.Mathlib.Omega.{arith}
use lib.ListN.{length, replicate}
use Rattle.leaves.specs.Leaves.{no_leaf, leaf_in}
use Rattle.std.specs.Option.{is_some}
use Rattle.task.specs.Inner.{few_unknown}
use Rattle.task.proofs.Names.{few_ends}
use Rattle.meaning.specs.Shapes.{lists_init}
use Rattle.certificate.specs.Known.{decoded}
use Rattle.certificate.proofs.KnownLaws.{read_ordered, read_bounded}
use Rattle.inclusion.specs.Verdict.{verdict_of}
use Rattle.inclusion.proofs.Ready.{searchable}
use Rattle.inclusion.proofs.CounterLaws.{by_rule_lem, action_set}
use Rattle.inclusion.proofs.VerdictLaws.{verdict_actions, verdict_refused, verdict_decided, actions_in_file}
use Rattle.inclusion.proofs.decide.Goals as goal

pub returns-then-rule-eq5 : goal.returns-then-rule-eq5
returns-then-rule-eq5 c =
    c.verdict_on.ensures ∙ verdict_actions _ _ _ c.actions_within.result c.actions_within.ensures
    ∙ ap (λ (r : ℕ). verdict_of (decoded c.args.file.now.entries.bytes.now) r c.args.e c.args.d) (sym c.if-rule-eq5.true)

pub gather-requires-clause-few : goal.gather-requires-clause-few
unfolding lists_init
gather-requires-clause-few c = c.few_unknown-few.ensures ∙ ap few_unknown c.args.file.now.ends_are ∙ sym (few_ends _)

-- an array before leaves are put there
none_yet : (n i : ℕ) → leaf_in (replicate n no_leaf) i ≡ no_leaf
unfolding leaf_in
none_yet zero i = refl
none_yet (suc n) zero = refl
none_yet (suc n) (suc i) = none_yet n i

pub gather-requires-clause-zeros : goal.gather-requires-clause-zeros
gather-requires-clause-zeros c = none_yet 16

pub returns-in_default : goal.returns-in_default
returns-in_default c =
    let n = c.if-rule-eq5.false in
    verdict_refused _ _ _ _ c.requires.le_rule.0 (omega arith) (sym c.gather.ensures.shape ∙ ap is_some c.in_default.is)

pub is_countered-requires-clause-searchable : goal.is_countered-requires-clause-searchable
is_countered-requires-clause-searchable c =
    rw c.args.file.now.ends_are (searchable _ _ c.args.file.now.entries.known _ _ _ _ _ _ c.in-Some.ensures.leaves (omega (arith, c.gather.array_long2)))

pub is_countered-requires-clause-actions_in_bounds : goal.is_countered-requires-clause-actions_in_bounds
is_countered-requires-clause-actions_in_bounds c = λ q.
    subst (λ (x : ℕ). x < length (decoded c.args.file.now.entries.bytes.now).action_sets) (sym (action_set _ _ _ _ _ _ _ _ c.in-Some.ensures.leaves q))
    (actions_in_file _ c.args.file.now.entries.known.read _ _ _ q (sym c.in-Some.ensures.shape))

pub returns : goal.returns
returns c =
    let n = c.if-rule-eq5.false in
    let file = c.args.file.now in
    c.verdict_on-2.ensures
    ∙ verdict_decided _ (read_ordered _ file.entries.known.read) (read_bounded _ file.entries.known.read) _ _ _ c.requires.le_rule.0 (omega arith) (sym c.in-Some.ensures.shape)
    c.is_countered.result
    (Iff.trans c.is_countered.ensures (by_rule_lem _ _ file.entries.known _ _ _ _ _ _ c.in-Some.ensures.leaves _ c.args.file.now.ends_are))

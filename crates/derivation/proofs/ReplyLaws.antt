-- The reply to one step, from what the code finds.
-- Assumes nothing.
use mathlib.Core.Path.{◌≡◌, refl, sym, ap, ◌∙◌}
use mathlib.Core.Logic.{◌⊎◌, inl, inr}
use mathlib.Core.Option.{Option, some}
use Prim.Native.Nat.{ℕ, zero, suc, ◌-◌, ◌≤◌, ◌<◌}
use native.Mathlib.Omega.{arith}
use native.Mathlib.Decide.{dec_lt}
use mathlib.Core.Bool.{Bool, true, false, ◌&&◌}
use mathlib.Core.List.{List, map}
use lib.ListN.{length, get_elem?}
use lib.Dec.{T, ltb, ltb→lt}
use Rattle.task.proofs.Tests.{holds, and_left, and_right}
use Rattle.meaning.specs.Result.{◌>>=◌, need}
use Rattle.meaning.specs.File.{Step, File, step_at}
use Rattle.meaning.specs.Statements.{Statement, statements}
use Rattle.meaning.specs.Step.{statement, all_rules, rule_at, check_by, check_step}
use Rattle.meaning.specs.Numbering.{with_rule}
use Rattle.certificate.specs.declared.Places.{Places}
use Rattle.certificate.specs.declared.Step as code
use Rattle.certificate.specs.declared.Judgement.{Judgement}
use Rattle.certificate.specs.declared.Judgement.TheVariants.{Dead, Within, ActionsWithin, Unsolvable}
use Rattle.std.specs.Prelude.{Result, Err}
use Rattle.certificate.specs.declared.StepFault.{StepFault}
use Rattle.certificate.specs.declared.StepFault.TheVariants.{IllFormed}
use Rattle.certificate.specs.Faults.{number_of}
use Rattle.certificate.specs.Views.{judgement_of, judgement_at, step_of}
use Rattle.certificate.specs.Known.{decoded}
use Rattle.std.specs.Prelude.{Ok, Err}
use Rattle.inclusion.specs.declared.Failure.TheVariants.{Untrue, NotPermitted}
use Rattle.inclusion.specs.Verdict.{verdict_by, verdict_or, verdict_of, fault_of}
use Rattle.numbers.specs.Numbers.{rule_table, judgement_kind_of}
use Rattle.patterns.specs.Matched.{matched}
use Rattle.rules.specs.Derives.{rule_numbered, derives, kind_said, left_said, right_said, by_rule}
use Rattle.rules.proofs.Saying.{derives_follows}
use Rattle.formed.specs.Formed.{formed, entries_in, IsStep}
use Rattle.derivation.specs.StepReply.{outcome, verdict_reply, rule_reply}
use Rattle.formed.proofs.StepLaws.{step_unformed, step_formed, step_derived, rule_in_table, rule_some, kind_concluded}
use Rattle.formed.proofs.FormedLaws.{listing, three_premises, formed_says}

need_reply : (b : Bool) (i : ℕ) → outcome i (matched b) ≡ need b 9 i
unfolding matched need outcome number_of
need_reply true i = refl
need_reply false i = refl

-- ---- basic statements

-- rule n of 1 to 5 is a statement of the list
record Basic (f : File) (n : ℕ) : Type 0 where
  said : Statement
  numbered : rule_at f n ≡ some (statement said)
  listed : get_elem? (statements f) (n - 1) ≡ some said

basic_rule : (f : File) (n : ℕ) → 1 ≤ n → n ≤ 5 → Basic f n
unfolding rule_at all_rules statements
basic_rule f zero l h = absurd (omega arith)
basic_rule f (suc zero) l h = record { said = _; numbered = refl; listed = refl }
basic_rule f (suc (suc zero)) l h = record { said = _; numbered = refl; listed = refl }
basic_rule f (suc (suc (suc zero))) l h = record { said = _; numbered = refl; listed = refl }
basic_rule f (suc (suc (suc (suc zero)))) l h = record { said = _; numbered = refl; listed = refl }
basic_rule f (suc (suc (suc (suc (suc zero))))) l h = record { said = _; numbered = refl; listed = refl }
basic_rule f (suc (suc (suc (suc (suc (suc n)))))) l h = absurd (omega arith)

said_reply : (f : File) (i : ℕ) (s : Step) (b : Statement)
    → outcome i (verdict_reply (verdict_by b s.left s.right)) ≡ check_by f i s (statement b)
unfolding verdict_reply fault_of verdict_by outcome number_of check_by ◌>>=◌ need
said_reply f i s b = go (b.shape s.left s.right) (b.holds s.left s.right)
  where
    go : (x y : Bool)
        → outcome i (verdict_reply (elim x [ true ↦ elim y [ true ↦ Ok tt | false ↦ Err Untrue ] | false ↦ Err NotPermitted ]))
        ≡ (need x 10 i >>= (λ u. need y 11 i))
    go true true = refl
    go true false = refl
    go false y = refl

module _ (f : File) (i : ℕ) (s : Step) where
  pub basic_reply : 1 ≤ s.rule → s.rule ≤ 5 → formed f i s ≡ true
      → outcome i (verdict_reply (verdict_of f s.rule s.left s.right)) ≡ check_step f i s
  unfolding verdict_of verdict_or
  basic_reply l h e =
      let b = basic_rule f s.rule l h in
      ap (λ (o : Option Statement). outcome i (verdict_reply (verdict_or o s.left s.right))) b.listed ∙ said_reply f i s b.said
      ∙ sym (step_formed f i s (statement b.said) e b.numbered)

  pub unformed_reply : formed f i s ≡ false → outcome i (Err IllFormed) ≡ check_step f i s
  unfolding outcome number_of
  unformed_reply e = sym (step_unformed f i s e)

  -- a derivation, by what the step and its premises say
  pub derived_reply : T (formed f i s) → 5 < s.rule → s.premises ≡ listing s.premises
      → outcome i (rule_reply f s.rule (step_of s)) ≡ check_step f i s
  unfolding step_of
  derived_reply t l e =
      ap (outcome i)
      (ap (λ (ps : List ℕ). by_rule f s.rule (judgement_of s.kind s.left s.right) (map (judgement_at f) ps)) (sym e)
      ∙ ap matched (sym (derives_follows f s.rule s (kind_concluded f i s t l))))
      ∙ need_reply (derives f (rule_numbered s.rule) s) i ∙ sym (step_derived f i s t l)

-- B1 to B4 are about two state sets, B5 about two action sets
pub sets_kind : (n : ℕ) → (1 ≤ n) × (n ≤ 5) → (n ≡ 5 → ⊥) → judgement_kind_of n ≡ 1
unfolding judgement_kind_of rule_table
sets_kind zero (l, h) m = absurd (omega arith)
sets_kind (suc zero) l m = refl
sets_kind (suc (suc zero)) l m = refl
sets_kind (suc (suc (suc zero))) l m = refl
sets_kind (suc (suc (suc (suc zero)))) l m = refl
sets_kind (suc (suc (suc (suc (suc n))))) (l, h) m = absurd (m (omega arith))

pub actions_kind : (n : ℕ) → n ≡ 5 → judgement_kind_of n ≡ 2
unfolding judgement_kind_of rule_table
actions_kind n e = rw e refl

pub basic_kind_lem : (n : ℕ) → (1 ≤ n) × (n ≤ 5) → (1 ≤ judgement_kind_of n) × (judgement_kind_of n ≤ 2)
basic_kind_lem n (l, h) =
    elim (dec_lt n 5) [
      | yes m ↦ (let q = sets_kind n (l, h) (λ e. omega arith) in (omega arith, omega arith))
      | no m ↦ (let q = actions_kind n (omega arith) in (omega arith, omega arith))
    ]

-- a judgement of kind 1 or 2 is an inclusion
pub unsaid : {X : Type 0} (j : Judgement) → (1 ≤ kind_said j) × (kind_said j ≤ 2) → ((a b : ℕ) → j ≡ Within a b → ⊥)
    → ((a b : ℕ) → j ≡ ActionsWithin a b → ⊥) → X
unfolding kind_said
unsaid (Dead a) (l, h) m n = absurd (omega arith)
unsaid (Within a b) l m n = absurd (m a b refl)
unsaid (ActionsWithin a b) l m n = absurd (n a b refl)
unsaid Unsolvable (l, h) m n = absurd (omega arith)

-- one with entries a and b
pub entries_said : (j : Judgement) {a b : ℕ} → (j ≡ Within a b) ⊎ (j ≡ ActionsWithin a b) → (left_said j ≡ a) × (right_said j ≡ b)
unfolding left_said right_said
entries_said j (inl e) = rw e (refl, refl)
entries_said j (inr e) = rw e (refl, refl)

-- of kind 2, which are numbers of action sets
pub actions_below : (f : File) (j : Judgement) {a b : ℕ} → (j ≡ Within a b) ⊎ (j ≡ ActionsWithin a b) → kind_said j ≡ 2
    → T (entries_in f j) → (a < length f.action_sets) × (b < length f.action_sets)
unfolding entries_in kind_said
actions_below f j (inl e) k t = let o : ◌≡◌ {A = ℕ} 1 2 = (rw e at k) in absurd (omega arith)
actions_below f j {a} {b} (inr e) k t =
    let n = length f.action_sets in
    let both : T (ltb a n && ltb b n) = rw e at t in
    (ltb→lt a n (and_left (ltb a n) (ltb b n) both), ltb→lt b n (and_right (ltb a n) (ltb b n) both))

two_entries : (k a b : ℕ) {j : ℕ} → kind_said (judgement_of k a b) ≡ j → (1 ≤ j) × (j ≤ 2)
    → (left_said (judgement_of k a b) ≡ a) × (right_said (judgement_of k a b) ≡ b)
unfolding judgement_of kind_said left_said right_said
two_entries zero a b e (l, h) = absurd (omega arith)
two_entries (suc zero) a b e h = (refl, refl)
two_entries (suc (suc zero)) a b e h = (refl, refl)
two_entries (suc (suc (suc k))) a b e (l, h) = absurd (omega arith)

-- ---- from what the code found of step k by the rule that is handed in: it is well formed

module _ (bytes : List ℕ) (at : Places) (k rule : ℕ) (s : code.Step) (h : IsStep bytes at k s)
    {w : Bool} (fits : w ≡ true) (told : w ≡ formed (decoded bytes) k (with_rule rule (step_at (decoded bytes) k))) where
  abbrev f : File
  f = decoded bytes

  abbrev x : Step
  x = with_rule rule (step_at f k)

  passed : formed f k x ≡ true
  passed = sym told ∙ fits

  -- the rule is one of 1 to 28
  pub rule_bounds : (1 ≤ rule) × (rule ≤ 28)
  rule_bounds = (rule_some f k x (holds passed), rule_in_table f k x (holds passed))

  -- what `basic` asks for
  pub says : (kind_said s.judgement ≡ judgement_kind_of rule) × T (entries_in f s.judgement)
  says = formed_says f k rule (step_at f k) h.value (holds passed) rule_bounds.0 rule_bounds.1

  pub basic_told : {r : Result (Unit {0}) StepFault} → rule ≤ 5
      → r ≡ verdict_reply (verdict_of f rule (left_said s.judgement) (right_said s.judgement))
      → outcome k r ≡ check_step f k x
  unfolding step_of
  basic_told five q =
      let lo = rule_bounds.0 in
      let e : s.judgement ≡ judgement_of x.kind x.left x.right = ap (λ (y : code.Step). y.judgement) h.value in
      let two = two_entries x.kind x.left x.right (rw e at says.0) (basic_kind_lem rule (lo, five)) in
      ap (outcome k) (q ∙ rw (e, two.0, two.1)) ∙ basic_reply f k x lo five passed

  pub derived_told : {r : Result (Unit {0}) StepFault} → 5 < rule → r ≡ rule_reply f rule s → outcome k r ≡ check_step f k x
  unfolding step_of
  derived_told more q = ap (outcome k) q ∙ rw h.value (derived_reply f k x (holds passed) more (three_premises bytes at k s h))

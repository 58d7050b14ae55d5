-- Some steps in turn, each by the rule that its number stands for, and what the last one says, from the code's walk over them.
-- Assumes nothing.
use mathlib.Core.Path.{◌≡◌, refl, sym, ap, ◌∙◌, subst}
use Prim.Native.Nat.{ℕ, zero, suc, ◌+◌, ◌-◌, ◌≤◌, ◌<◌}
use native.Mathlib.Omega.{arith}
use mathlib.Core.List.{List}
use lib.ListN.{length, drop, get_or}
use lib.Dec.{eqb}
use borrow.Author.Tests.{ne_eqb}
use Rattle.certificate.specs.declared.Places.{Places}
use Rattle.certificate.specs.declared.Judgement.{Judgement}
use Rattle.certificate.specs.declared.Judgement.TheVariants.{Unsolvable}
use Rattle.std.specs.Prelude.{Result, Ok, Err}
use Rattle.certificate.specs.declared.StepFault.{StepFault}
use Rattle.certificate.specs.Faults.{number_of}
use Rattle.meaning.specs.Result.{◌>>=◌, need}
use Rattle.meaning.specs.File.{Step, File, step_at}
use Rattle.certificate.specs.Views.{judgement_of, judgement_at}
use Rattle.certificate.specs.Known.{Placed}
use Rattle.certificate.proofs.KnownLaws.{read_file_lem, placed_steps}
use Rattle.formed.proofs.StepLaws.{passed_kind}
use Rattle.meaning.specs.Step.{check_step}
use Rattle.derivation.specs.StepReply.{outcome}
use Rattle.meaning.specs.declared.Reply.{Reply}
use Rattle.meaning.specs.declared.Reply.TheVariants.{Accepted, Refused}
use Rattle.meaning.specs.Reply.{check_steps, check_last, check_from, reply_to}
use Rattle.meaning.specs.Rounds.{check_some}
use Rattle.meaning.specs.Numbering.{with_rule, rewritten}
use Rattle.numbering.specs.Table.{Stands}
use Rattle.meaning.proofs.Rounds.{first_step, each_passes, all_left, rest_passed}
use Rattle.meaning.proofs.Results.{bind_found, bind_refused}
use Rattle.meaning.proofs.Refusals.{accepted_out, reply_refused}
use Rattle.meaning.proofs.RuleBytes.{count_stays, step_stays, step_renamed, checked_same}

-- ---- some steps in turn

succ_is : (k : ℕ) → suc k ≡ k + 1
succ_is k = omega arith

module _ (f : File) (from count : ℕ) where
  -- the steps before step k passed: what is left of them says what all of them say
  pub Passing : ℕ → Type 0
  Passing k = check_some f k (from + count - k) ≡ check_some f from count

  pub passing_start : Passing from
  unfolding Passing
  passing_start = let z : from + count - from ≡ count = omega arith in ap (check_some f from) z

  next : (k : ℕ) → k < from + count → k < length f.steps → Passing k
      → (check_step f k (step_at f k) >>= (λ _. check_some f (suc k) (from + count - suc k))) ≡ check_some f from count
  unfolding Passing
  next k m l h =
      let z : suc (from + count - suc k) ≡ from + count - k = omega arith in
      sym (first_step f (from + count - suc k) k l) ∙ ap (check_some f k) z ∙ h

  pub step_passed : (k : ℕ) → k < from + count → k < length f.steps → Passing k
      → outcome k (Ok tt) ≡ check_step f k (step_at f k) → Passing (k + 1)
  unfolding Passing outcome
  step_passed k m l h e =
      subst Passing (succ_is k) (sym (bind_found (λ _. check_some f (suc k) (from + count - suc k)) (sym e)) ∙ next k m l h)

  pub step_refused : (k : ℕ) (fault : StepFault) → k < from + count → k < length f.steps → Passing k
      → outcome k (Err fault) ≡ check_step f k (step_at f k) → Refused (number_of fault) k ≡ reply_to (check_some f from count)
  unfolding outcome reply_to
  step_refused k fault m l h e =
      ap reply_to (sym (bind_refused (λ _. check_some f (suc k) (from + count - suc k)) (sym e)) ∙ next k m l h)

  -- none is left
  pub steps_passed : (k : ℕ) → from + count ≤ k → Passing k → Accepted ≡ reply_to (check_some f from count)
  unfolding Passing check_steps reply_to
  steps_passed k all h =
      let z : from + count - k ≡ 0 = omega arith in
      ap reply_to (sym (ap (check_some f k) z) ∙ h)

-- ---- the rules that numbers stand for

module _ (g : ℕ → ℕ) (f : File) where
  as_many_steps : length (rewritten g f).steps ≡ length f.steps
  unfolding rewritten
  as_many_steps = count_stays g f.steps

  -- step k by the rule that its number stands for, as a table has it, is the rewritten file's step
  module _ (from count k : ℕ) (rules : List ℕ) (rule : ℕ) (r : Result (Unit {0}) StepFault) (stands : Stands rules g) (m : k < from + count)
      (l : k < length f.steps) (looked-up : (rule ≡ get_or rules (step_at f k).rule 0) × ((step_at f k).rule < 256))
      (e : outcome k r ≡ check_step f k (with_rule rule (step_at f k))) where
    rule_meant_lem : rule ≡ g (step_at f k).rule
    rule_meant_lem = looked-up.0 ∙ stands (step_at f k).rule looked-up.1

    told : outcome k r ≡ check_step (rewritten g f) k (step_at (rewritten g f) k)
    told =
        e ∙ ap (λ (x : ℕ). check_step f k (with_rule x (step_at f k))) rule_meant_lem ∙ ap (check_step f k) (sym (step_renamed g f k l))
        ∙ sym (checked_same g f k (step_at (rewritten g f) k))

    inside : k < length (rewritten g f).steps
    inside = let n = as_many_steps in omega arith

    pub refused_as : (fault : StepFault) → Passing (rewritten g f) from count k → r ≡ Err fault
        → Refused (number_of fault) k ≡ reply_to (check_some (rewritten g f) from count)
    refused_as fault h t = step_refused (rewritten g f) from count k fault m inside h (ap (outcome k) (sym t) ∙ told)

    pub passed_as : Passing (rewritten g f) from count k → r ≡ Ok tt → Passing (rewritten g f) from count (k + 1)
    passed_as h t = step_passed (rewritten g f) from count k m inside h (ap (outcome k) (sym t) ∙ told)

-- ---- all steps from one on, and the last one's judgement

-- the reply to the steps from one on, from the reply x to `count` of them, which are all that are left, and from what the last one says
module _ (f : File) (from count : ℕ) {x : Reply} (all : from + count ≡ length f.steps) (e : x ≡ reply_to (check_some f from count)) where
  left : x ≡ reply_to (check_steps f from (drop from f.steps))
  left =
      let m : count ≡ length f.steps - from = omega arith in
      e ∙ ap (λ (n : ℕ). reply_to (check_some f from n)) m ∙ ap reply_to (all_left f from)

  from_refused : (r p : ℕ) → x ≡ Refused r p → Refused r p ≡ reply_to (check_from f from)
  unfolding check_from reply_to
  from_refused r p t = ap reply_to (sym (bind_refused (λ _. check_last f) (reply_refused _ r p (sym left ∙ t))))

  from_passed : from < length f.steps → x ≡ Accepted
      → ((step_at f (length f.steps - 1)).kind < 4) × (reply_to (check_last f) ≡ reply_to (check_from f from))
  from_passed one t =
      let last : ℕ = length f.steps - 1 in
      let passed = each_passes f count from (omega arith) (accepted_out (check_some f from count) (sym e ∙ t)) in (
        passed_kind f last (step_at f last) (passed last (omega arith) (omega arith)),
        ap reply_to (sym (rest_passed f from (accepted_out _ (sym left ∙ t)))),
      )

-- the same of a file of n steps with its rules rewritten; they do not matter to the last step's judgement
module _ (g : ℕ → ℕ) (f : File) (n from : ℕ) (x : Reply) (count : n ≡ length f.steps) (below : from < n)
    (e : x ≡ reply_to (check_some (rewritten g f) from (n - from))) where
  all : from + (n - from) ≡ length (rewritten g f).steps
  all = let m = as_many_steps g f in omega arith

  pub refused_from : (x ≡ Accepted → ⊥) → x ≡ reply_to (check_from (rewritten g f) from)
  refused_from = go x refl
    where
      go : (y : Reply) → x ≡ y → (x ≡ Accepted → ⊥) → x ≡ reply_to (check_from (rewritten g f) from)
      go Accepted t not = absurd (not t)
      go (Refused r p) t not = t ∙ from_refused (rewritten g f) from (n - from) all e r p t

  last_same : check_last (rewritten g f) ≡ check_last f
  last_same =
      ap (λ (m : ℕ). need (eqb (step_at (rewritten g f) (m - 1)).kind 3) 12 (m - 1)) (as_many_steps g f)
      ∙ ap (λ (s : Step). need (eqb s.kind 3) 12 (length f.steps - 1)) (step_stays g f (length f.steps - 1))

  kind_same : (step_at (rewritten g f) (length (rewritten g f).steps - 1)).kind ≡ (step_at f (n - 1)).kind
  kind_same =
      ap (λ (m : ℕ). (step_at (rewritten g f) (m - 1)).kind) (as_many_steps g f ∙ sym count)
      ∙ ap (λ (s : Step). s.kind) (step_stays g f (n - 1))

  pub passed_from : {y : Reply} → x ≡ Accepted → ((step_at f (n - 1)).kind < 4 → y ≡ reply_to (check_last f))
      → y ≡ reply_to (check_from (rewritten g f) from)
  passed_from t q =
      let p = from_passed (rewritten g f) from (n - from) all e (let m = as_many_steps g f in omega arith) t in
      q (subst (λ (k : ℕ). k < 4) kind_same p.0) ∙ ap reply_to (sym last_same) ∙ p.1

-- ---- the last step

pub step_count_lem : (bytes : List ℕ) (at : Places) → Placed bytes at → (0 < at.steps) × (at.steps ≤ 2048)
step_count_lem bytes at k =
    let l = (read_file_lem bytes k.read).some_steps in
    let m = (read_file_lem bytes k.read).few_steps in
    let e = placed_steps bytes at k in
    (omega (arith, l, e), omega (arith, m, e))

-- of the four kinds only the last is shown as "unsolvable"
unsolvable_kind : (k a b : ℕ) → k < 4 → judgement_of k a b ≡ Unsolvable → k ≡ 3
unfolding judgement_of
unsolvable_kind zero a b l e = let y : ◌≡◌ {A = ℕ} 0 1 = cc in absurd (omega arith)
unsolvable_kind (suc zero) a b l e = let y : ◌≡◌ {A = ℕ} 0 1 = cc in absurd (omega arith)
unsolvable_kind (suc (suc zero)) a b l e = let y : ◌≡◌ {A = ℕ} 0 1 = cc in absurd (omega arith)
unsolvable_kind (suc (suc (suc k))) a b l e = omega arith

-- of a file with n steps
module _ (f : File) (n : ℕ) {j : Judgement} (count : n ≡ length f.steps) (said : j ≡ judgement_at f (n - 1)) where
  last : reply_to (need (eqb (step_at f (n - 1)).kind 3) 12 (n - 1)) ≡ reply_to (check_last f)
  last = ap (λ (m : ℕ). reply_to (need (eqb (step_at f (m - 1)).kind 3) 12 (m - 1))) count

  pub last_says : (step_at f (n - 1)).kind < 4 → j ≡ Unsolvable → Accepted ≡ reply_to (check_last f)
  unfolding reply_to need judgement_at
  last_says l h = rw (unsolvable_kind (step_at f (n - 1)).kind (step_at f (n - 1)).left (step_at f (n - 1)).right l (sym said ∙ h)) at last

  pub last_says_not : (j ≡ Unsolvable → ⊥) → Refused 12 (n - 1) ≡ reply_to (check_last f)
  unfolding reply_to need judgement_at judgement_of
  last_says_not h =
      rw (ne_eqb (step_at f (n - 1)).kind 3 (λ q. h (said ∙ ap (λ (k : ℕ). judgement_of k (step_at f (n - 1)).left (step_at f (n - 1)).right) q))) at last

-- What a code tells: 0 is accepted, ended or out, 1 is in, a step's number is to go on from it, and every refusal has a greater one; and
-- which judgements are true by it.
-- Assumes nothing.
use mathlib.Core.Path.{◌≡◌, refl, sym, ap, ◌∙◌, subst}
use Prim.Native.Nat.{ℕ, ◌/◌, ◌%◌, ◌≤◌, ◌<◌, min}
use native.Mathlib.Omega.{arith}
use mathlib.Core.Logic.{◌⊎◌, inl, inr}
use mathlib.Core.List.{List}
use Rattle.task.specs.Reach.{Safe}
use Rattle.meaning.specs.Result.{found}
use Rattle.meaning.specs.File.{File}
use Rattle.meaning.specs.Limits.{small}
use Rattle.meaning.specs.Layout.{read_file}
use Rattle.meaning.specs.declared.Reply.{Reply}
use Rattle.meaning.specs.declared.Reply.TheVariants.{Accepted, Refused}
use Rattle.meaning.specs.declared.Answer.{Answer}
use Rattle.meaning.specs.declared.Answer.TheVariants as answer
use Rattle.meaning.specs.Reply.{reply_of}
use Rattle.meaning.specs.Judged.{TrueUpTo, JudgedBy}
use Rattle.meaning.specs.Numbering.{reply_numbered}
use Rattle.meaning.specs.declared.Round.{Round}
use Rattle.meaning.specs.declared.Round.TheVariants as round
use Rattle.meaning.specs.Rounds.{round_of}
use Rattle.meaning.specs.Small.{reply_small}
use Rattle.meaning.specs.Question.{answer_of}
use Rattle.meaning.proofs.Reading.{file_read}
use Rattle.meaning.proofs.Rounds.{goes_further}
use Rattle.meaning.proofs.Points.{an_accepted_file_is_safe, a_refused_file_has_its_number, a_refused_question_has_its_number}
use Rattle.meaning.proofs.Points.{a_file_accepted_with_a_list_is_safe, a_refusal_with_a_list_has_its_number}
use Rattle.meaning.proofs.Points.{a_refused_round_has_its_number, a_file_that_the_small_check_accepts_is_safe}
use Rattle.meaning.proofs.Points.{a_refusal_with_limits_has_its_number, judgements_are_true_by_the_reply, judgements_are_true_with_a_list}
use Rattle.meaning.proofs.Points.{judgements_are_true_under_limits}
use Rattle.link.specs.Code.{refusal_code, code_of, round_code_of, answer_code_of, JudgedByCode}

refusal_above : (r p : ℕ) → 1 ≤ r → 4294967296 ≤ refusal_code r p
unfolding refusal_code
refusal_above r p h = omega (arith, h)

accepted : (x : Reply) → ((r p : ℕ) → x ≡ Refused r p → 1 ≤ r) → code_of x ≡ 0 → x ≡ Accepted
unfolding code_of
accepted Accepted h e = refl
accepted (Refused r p) h e = absurd (omega (arith, e, refusal_above r p (h r p refl)))

-- the layout's and the steps' numbers are not 0
some_number : {r m : ℕ} → ((1 ≤ r) × (r ≤ m)) ⊎ (r ≡ 16) → 1 ≤ r
some_number (inl h) = h.0
some_number (inr e) = omega (arith, e)

pub safe_by_code : (bytes : List ℕ) {c : ℕ} → c ≡ code_of (reply_of bytes) → c ≡ 0 → (f : File) × (read_file bytes ≡ found f) × Safe f.task
safe_by_code bytes e z =
    an_accepted_file_is_safe bytes (accepted (reply_of bytes) (λ r p q. some_number (a_refused_file_has_its_number bytes r p q)) (sym e ∙ z))

-- one of these, or another that is not 0
least : {r m : ℕ} {X : Type 0} → (X → 1 ≤ r) → (((1 ≤ r) × (r ≤ m)) ⊎ (r ≡ 16)) ⊎ X → 1 ≤ r
least other (inl h) = some_number h
least other (inr x) = other x

pub safe_by_list : (bytes numbers : List ℕ) {c : ℕ} → c ≡ code_of (reply_numbered bytes numbers) → c ≡ 0
    → (f : File) × (read_file bytes ≡ found f) × Safe f.task
safe_by_list bytes numbers e z =
    a_file_accepted_with_a_list_is_safe bytes numbers
    (accepted (reply_numbered bytes numbers)
    (λ r p q. least (λ n. omega (arith, n)) (a_refusal_with_a_list_has_its_number bytes numbers r p q)) (sym e ∙ z))

pub safe_by_limits : (bytes : List ℕ) {c : ℕ} → c ≡ code_of (reply_small bytes) → c ≡ 0
    → (f : File) × (read_file bytes ≡ found f) × Safe f.task
unfolding reply_small
safe_by_limits bytes e z =
    a_file_that_the_small_check_accepts_is_safe bytes
    (accepted (reply_small bytes) (λ r p q. least (λ n. omega (arith, n)) (a_refusal_with_limits_has_its_number small bytes r p q))
    (sym e ∙ z))

-- ---- the judgements, by the code of a reply

refusal_parts : (r p : ℕ) → (refusal_code r p / 4294967296 ≡ r) × (refusal_code r p % 4294967296 ≡ min p 4294967295)
unfolding refusal_code
refusal_parts r p = (omega arith, omega arith)

judged_code : (bytes : List ℕ) (x : Reply) {c : ℕ} → JudgedBy bytes x → ((r p : ℕ) → x ≡ Refused r p → 1 ≤ r) → c ≡ code_of x
    → JudgedByCode bytes c
unfolding code_of
judged_code bytes Accepted {c} j h e = (
  (λ z. j.0 refl),
  (λ z. absurd (omega arith)),
  (λ low high. absurd (omega arith)),
)
judged_code bytes (Refused r p) {c} j h e =
    let (n, q) = refusal_parts r p in
    let n' : c / 4294967296 ≡ r = ap (λ (x : ℕ). x / 4294967296) e ∙ n in (
      (λ z. absurd (omega (arith, e, refusal_above r p (h r p refl)))),
      (λ z. j.1 p (ap (λ (x : ℕ). Refused x p) (sym n' ∙ z))),
      (λ low high.
          let t = j.2 r p (omega arith) (omega arith) refl in
          let few = (file_read bytes t.0 t.1).few_steps in
          let l = t.2 in
          subst (TrueUpTo bytes) (let m : p ≡ min p 4294967295 = omega arith in m ∙ sym q ∙ ap (λ (x : ℕ). x % 4294967296) (sym e)) t),
    )

pub judged_by_code : (bytes : List ℕ) {c : ℕ} → c ≡ code_of (reply_of bytes) → JudgedByCode bytes c
judged_by_code bytes =
    judged_code bytes (reply_of bytes) (judgements_are_true_by_the_reply bytes) (λ r p q. some_number (a_refused_file_has_its_number bytes r p q))

pub judged_by_list : (bytes numbers : List ℕ) {c : ℕ} → c ≡ code_of (reply_numbered bytes numbers) → JudgedByCode bytes c
judged_by_list bytes numbers =
    judged_code bytes (reply_numbered bytes numbers) (judgements_are_true_with_a_list bytes numbers)
    (λ r p q. least (λ n. omega (arith, n)) (a_refusal_with_a_list_has_its_number bytes numbers r p q))

pub judged_by_limits : (bytes : List ℕ) {c : ℕ} → c ≡ code_of (reply_small bytes) → JudgedByCode bytes c
unfolding reply_small
judged_by_limits bytes =
    judged_code bytes (reply_small bytes) (judgements_are_true_under_limits small bytes)
    (λ r p q. least (λ n. omega (arith, n)) (a_refusal_with_limits_has_its_number small bytes r p q))

-- ---- answers and rounds

told_in : (x : Answer) → ((r p : ℕ) → x ≡ answer.Refused r p → 1 ≤ r) → answer_code_of x ≡ 1 → x ≡ answer.In
unfolding answer_code_of
told_in answer.In h e = refl
told_in answer.Out h e = absurd (omega (arith, e))
told_in (answer.Refused r p) h e = absurd (omega (arith, e, refusal_above r p (h r p refl)))

told_out : (x : Answer) → ((r p : ℕ) → x ≡ answer.Refused r p → 1 ≤ r) → answer_code_of x ≡ 0 → x ≡ answer.Out
unfolding answer_code_of
told_out answer.In h e = absurd (omega (arith, e))
told_out answer.Out h e = refl
told_out (answer.Refused r p) h e = absurd (omega (arith, e, refusal_above r p (h r p refl)))

pub told : (bytes : List ℕ) (e s : ℕ) {c : ℕ} → c ≡ answer_code_of (answer_of bytes e s)
    → (c ≡ 1 → answer_of bytes e s ≡ answer.In) × (c ≡ 0 → answer_of bytes e s ≡ answer.Out)
told bytes e s q =
    let h : (r p : ℕ) → answer_of bytes e s ≡ answer.Refused r p
    → 1 ≤ r = λ r p w. least (λ n. omega (arith, n)) (a_refused_question_has_its_number bytes e s r p w) in
    ((λ z. told_in (answer_of bytes e s) h (sym q ∙ z)), (λ z. told_out (answer_of bytes e s) h (sym q ∙ z)))

told_ended : (x : Round) → ((n : ℕ) → x ≡ round.GoOn n → 0 < n) → ((r p : ℕ) → x ≡ round.Refused r p → 1 ≤ r) → round_code_of x ≡ 0
    → x ≡ round.Ended
unfolding round_code_of
told_ended round.Ended g h e = refl
told_ended (round.GoOn n) g h e = absurd (omega (arith, e, g n refl))
told_ended (round.Refused r p) g h e = absurd (omega (arith, e, refusal_above r p (h r p refl)))

told_on : (x : Round) (c : ℕ) → ((r p : ℕ) → x ≡ round.Refused r p → 1 ≤ r) → c ≡ round_code_of x → 0 < c → c < 4294967296
    → x ≡ round.GoOn c
unfolding round_code_of
told_on round.Ended c h e low high = absurd (omega (arith, e, low))
told_on (round.GoOn n) c h e low high = ap round.GoOn (sym e)
told_on (round.Refused r p) c h e low high = absurd (omega (arith, e, high, refusal_above r p (h r p refl)))

pub round_told : (bytes : List ℕ) (from count : ℕ) {c : ℕ} → c ≡ round_code_of (round_of bytes from count)
    → (c ≡ 0 → round_of bytes from count ≡ round.Ended)
    × (0 < c → c < 4294967296 → (round_of bytes from count ≡ round.GoOn c) × (c < 2048))
round_told bytes from count {c} q =
    let x = round_of bytes from count in
    let h : (r p : ℕ) → x ≡ round.Refused r p → 1 ≤ r =
    λ r p w. least (λ n. omega (arith, n.0)) (a_refused_round_has_its_number bytes from count r p w) in (
      (λ z. told_ended x (λ n e. let l = goes_further bytes from count n e in omega (arith, l.0)) h (sym q ∙ z)),
      (λ low high. let e = told_on x c h q low high in (e, (goes_further bytes from count c e).1)),
    )

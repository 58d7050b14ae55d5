-- The numbers of refusals: 1 to 12 or 16 from the checker, 17 of a round's numbers, and 18 of a caller's list; 1 to 7, 16 or 13 from the
-- question.
-- Assumes nothing.
use mathlib.Core.Path.{◌≡◌, refl}
use Prim.Native.Nat.{ℕ, ◌+◌}
use mathlib.Core.Bool.{Bool, true, false}
use mathlib.Core.Logic.{◌⊎◌, inl, inr}
use mathlib.Core.Option.{Option, none, some}
use mathlib.Core.List.{List}
use native.Mathlib.Omega.{arith}
use Rattle.meaning.specs.Result.{Result, refuse, found}
use Rattle.meaning.specs.Layout.{read_file}
use Rattle.meaning.specs.declared.Reply.TheVariants.{Accepted, Refused}
use Rattle.meaning.specs.Reply.{reply_to, reply_of}
use Rattle.meaning.specs.declared.Answer.TheVariants as answer
use Rattle.meaning.specs.Question.{answer_to, answer_of}
use Rattle.meaning.specs.Numbering.{check_numbers, check_rewritten, reply_numbered}
use Rattle.meaning.specs.declared.Round.TheVariants as round
use Rattle.meaning.specs.Rounds.{check_round, round_to, round_of}
use Rattle.meaning.specs.Points.{OfFile, OfLayout, RefusalNumbers, NumberedRefusals, RoundRefusals, AnswerNumbers}
use Rattle.meaning.proofs.Numbered.{given, Numbered, number_of, then_ok, need_ok, widen}
use Rattle.meaning.proofs.StepRefusals.{OfSteps, steps_ok, check_ok, hand_back_ok, numbers_ok}
use Rattle.meaning.proofs.Breaches.{read_number}

-- ---- replies

abbrev OfCheck : ℕ → ℕ → Type 0
OfCheck r p = OfFile r

-- the layout and the steps, where these numbers are among others
module _ (ok : ℕ → ℕ → Type 0) (among : (r p : ℕ) → OfCheck r p → ok r p) where
  layout_among : (bytes : List ℕ) → Numbered ok (read_file bytes)
  layout_among bytes =
      widen (λ r p h. among r p (elim h [ inl a ↦ inl (a.0, omega (arith, a.1)) | inr e ↦ inr e ])) (read_number bytes)

  steps_among : {A : Type 0} {x : Result A} → Numbered OfSteps x → Numbered ok x
  steps_among = widen (λ r p h. among r p (inl (omega (arith, h.0), h.1)))

-- the result, by the reply
pub accepted_out : (r : Result (Unit {0})) → reply_to r ≡ Accepted → r ≡ found tt
unfolding reply_to
accepted_out (refuse n p) e = let z : ◌≡◌ {A = ℕ} 0 1 = cc in absurd (omega arith)
accepted_out (found tt) e = refl

pub reply_refused : (x : Result (Unit {0})) (r p : ℕ) → reply_to x ≡ Refused r p → x ≡ refuse r p
unfolding reply_to
reply_refused (refuse n q) r p e = cc
reply_refused (found u) r p e = let z : ◌≡◌ {A = ℕ} 0 1 = cc in absurd (omega arith)

pub reply_number : {ok : ℕ → ℕ → Type 0} {x : Result (Unit {0})} → Numbered ok x → (r p : ℕ) → reply_to x ≡ Refused r p → ok r p
reply_number h r p e = number_of h (reply_refused _ r p e)

pub refusal_numbers : RefusalNumbers
unfolding reply_of
refusal_numbers bytes =
    reply_number (then_ok (layout_among OfCheck (λ r p h. h) bytes) (λ f _. steps_among OfCheck (λ r p h. h) (check_ok f)))

-- ---- with a caller's list: those, or 18

pub list_number : (numbers : List ℕ) (r p : ℕ) → check_numbers numbers ≡ refuse r p → r ≡ 18
list_number numbers r p e = number_of (numbers_ok (λ r p. r ≡ 18) (λ p. refl) numbers) e

abbrev OfNumbered : ℕ → ℕ → Type 0
OfNumbered r p = OfCheck r p ⊎ (r ≡ 18)

pub numbered_refusals : NumberedRefusals
unfolding reply_numbered check_rewritten
numbered_refusals bytes numbers =
    reply_number
    (then_ok (numbers_ok OfNumbered (λ p. inr refl) numbers) (λ _ _.
    then_ok (layout_among OfNumbered (λ r p. inl) bytes) (λ f _. steps_among OfNumbered (λ r p. inl) (check_ok _))))

-- ---- in rounds: those, or 17 at 0

abbrev OfRound : ℕ → ℕ → Type 0
OfRound r p = OfCheck r p ⊎ ((r ≡ 17) × (p ≡ 0))

round_refused : (x : Result (Option ℕ)) (r p : ℕ) → round_to x ≡ round.Refused r p → x ≡ refuse r p
unfolding round_to
round_refused (refuse n q) r p e = cc
round_refused (found none) r p e = let z : ◌≡◌ {A = ℕ} 0 1 = cc in absurd (omega arith)
round_refused (found (some n)) r p e = let z : ◌≡◌ {A = ℕ} 0 1 = cc in absurd (omega arith)

pub round_refusals : RoundRefusals
unfolding round_of check_round
round_refusals bytes from count r p e =
    number_of
    (then_ok (layout_among OfRound (λ r p. inl) bytes) (λ f _.
    then_ok (need_ok _ 17 0 (inr (refl, refl))) (λ _ _.
    then_ok (steps_among OfRound (λ r p. inl) (steps_ok f from _)) (λ _ _.
    steps_among OfRound (λ r p. inl) (hand_back_ok f (from + count))))))
    (round_refused _ r p e)

-- ---- answers

abbrev OfQuestion : ℕ → ℕ → Type 0
OfQuestion r p = OfLayout r ⊎ (r ≡ 13)

answer_refused : (x : Result Bool) (r p : ℕ) → answer_to x ≡ answer.Refused r p → x ≡ refuse r p
unfolding answer_to
answer_refused (refuse n q) r p e = cc
answer_refused (found true) r p e = let z : ◌≡◌ {A = ℕ} 0 1 = cc in absurd (omega arith)
answer_refused (found false) r p e = let z : ◌≡◌ {A = ℕ} 0 1 = cc in absurd (omega arith)

pub answer_numbers : AnswerNumbers
unfolding answer_of
answer_numbers bytes e s r p q =
    number_of {ok = OfQuestion}
    (then_ok (widen (λ r p. inl) (read_number bytes)) (λ f _. then_ok (need_ok _ 13 0 (inr refl)) (λ _ _. given tt)))
    (answer_refused _ r p q)

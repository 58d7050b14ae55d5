-- A run of rounds (document 02, f): it ends with the reply of one whole check, in as few rounds as cover its steps, whatever is asked
-- between them.
-- Assumes nothing.
use mathlib.Core.Path.{◌≡◌, refl, sym, ap, ◌∙◌, subst}
use mathlib.Core.Logic.{◌⊎◌, inl, inr}
use Prim.Native.Nat.{ℕ, zero, suc, ◌+◌, ◌-◌, ◌*◌, ◌≤◌, ◌<◌}
use native.Mathlib.Nat.{le-div_iff_mul-le, div-lt_iff_lt-mul}
use native.Mathlib.Omega.{arith}
use native.Mathlib.Decide.{dec_lt}
use mathlib.Core.List.{List, [], ◌∷◌}
use lib.ListN.{length, replicate}
use lib.Dec.{T}
use Rattle.task.specs.Reach.{every}
use Rattle.meaning.specs.Result.{found}
use Rattle.meaning.specs.File.{File, step_at}
use Rattle.meaning.specs.Layout.{read_file}
use Rattle.meaning.specs.declared.Reply.{Reply}
use Rattle.meaning.specs.declared.Reply.TheVariants as reply
use Rattle.meaning.specs.declared.Round.{Round}
use Rattle.meaning.specs.declared.Round.TheVariants.{Ended, GoOn, Refused}
use Rattle.meaning.specs.Reply.{check_last, reply_to, reply_of}
use Rattle.meaning.specs.Step.{check_step}
use Rattle.meaning.specs.Question.{answer_of}
use Rattle.meaning.specs.Rounds.{lawful_count, go_on, round_of, run_from, run, at_end, rounds_for, Call, round, question, session, counts_of}
use Rattle.meaning.specs.Rounds.{answers_of}
use Rattle.meaning.specs.Judged.{JudgedBy}
use Rattle.meaning.specs.Points.{RunIsCheck, RunEnds, FewestRounds, RunIsSafe, QuestionsBetween, Pass, RunJudged}
use Rattle.meaning.proofs.Results.{found_same, and_out}
use Rattle.meaning.proofs.Judgements.{true_before, no_judgement, own_passed, reply_judges, accepted_is_safe}
use Rattle.meaning.proofs.Rounds.{some_steps, ended_out, Left, left_parts, rest_passed, goes_on, at_last, rest_of, rest_reply}
use Rattle.meaning.proofs.Rounds.{Inside, inside_start, round_leaves, round_handed}

-- ---- what a run says at its end

not_on : {Y : Type 0} (r : Reply) (n : ℕ) → at_end r ≡ GoOn n → Y
unfolding at_end
not_on reply.Accepted n e = let z : ◌≡◌ {A = ℕ} 0 1 = cc in absurd (omega arith)
not_on (reply.Refused r p) n e = let z : ◌≡◌ {A = ℕ} 0 1 = cc in absurd (omega arith)

same_reply : (r s : Reply) → at_end r ≡ at_end s → r ≡ s
unfolding at_end
same_reply reply.Accepted s e = sym (ended_out s (sym e))
same_reply (reply.Refused r p) reply.Accepted e = ended_out (reply.Refused r p) e
same_reply (reply.Refused r p) (reply.Refused r' p') e = cc

module _ (bytes : List ℕ) where
  -- no round follows the end
  stays : (r : Reply) (counts : List ℕ) → run_from bytes (at_end r) counts ≡ at_end r
  unfolding run_from go_on at_end
  stays r [] = refl
  stays reply.Accepted (count ∷ counts) = stays reply.Accepted counts
  stays (reply.Refused n p) (count ∷ counts) = stays (reply.Refused n p) counts

  -- with `left` of `total` rounds still to come a run is at a step, one further for each round done, or it has said the reply
  abbrev Standing : ℕ → ℕ → Round → Type 0
  Standing total left at =
      ((n : ℕ) × (at ≡ GoOn n) × (total ≤ n + left) × (n < 2048) × Inside bytes n × (rest_of bytes n ≡ rest_of bytes 0))
      ⊎ (at ≡ at_end (reply_of bytes))

  -- after rounds of these counts it stands so, or one of the counts was refused
  abbrev Stands : ℕ → List ℕ → Round → Type 0
  Stands total counts at = Standing total 0 at ⊎ ((at ≡ Refused 17 0) × (T (every lawful_count counts) → ⊥))

  -- the counts refused among some are so among more
  later : (total count : ℕ) (counts : List ℕ) (at : Round) → Stands total counts at → Stands total (count ∷ counts) at
  unfolding every
  later total count counts at (inl s) = inl s
  later total count counts at (inr s) = inr (s.0, λ t. s.1 (and_out (lawful_count count) (every lawful_count counts) t).1)

  runs : (total : ℕ) (counts : List ℕ) (at : Round) → Standing total (length counts) at → Stands total counts (run_from bytes at counts)
  unfolding run_from go_on every at_end
  runs total [] at s = inl s
  runs total (count ∷ counts) at (inr e) =
      inl (inr (ap (λ (x : Round). run_from bytes x (count ∷ counts)) e ∙ stays (reply_of bytes) (count ∷ counts)))
  runs total (count ∷ counts) at (inl s) =
      let n : ℕ = s.0 in
      let e : go_on bytes at count ≡ round_of bytes n count = ap (λ (x : Round). go_on bytes x count) s.1 in
      elim (round_leaves bytes n count s.4) [
        | inl h ↦ later total count counts _
            (runs total counts (go_on bytes at count)
            (inl (n + count, e ∙ h.0, (let l = s.2 in let m = h.1 in omega arith), h.2, h.3, h.4 ∙ s.5)))
        | inr (inl h) ↦ later total count counts _
            (runs total counts (go_on bytes at count)
            (inr (e ∙ h ∙ ap (λ x. at_end (reply_to x)) s.5 ∙ ap at_end (rest_reply bytes))))
        | inr (inr h) ↦ inr (
          ap (λ (x : Round). run_from bytes x counts) (e ∙ h.0) ∙ stays (reply.Refused 17 0) counts,
          λ t. h.1 (and_out (lawful_count count) (every lawful_count counts) t).0,
        )
      ]

  begun : (counts : List ℕ) → Stands (length counts) counts (run bytes counts)
  unfolding run
  begun counts = runs (length counts) counts (GoOn 0) (inl (0, refl, omega arith, omega arith, inside_start bytes, refl))

pub run_is_check : RunIsCheck
run_is_check bytes counts lawful r e =
    elim (begun bytes counts) [
      | inl (inl s) ↦ not_on r s.0 (sym e ∙ s.1)
      | inl (inr s) ↦ same_reply r (reply_of bytes) (sym e ∙ s)
      | inr s ↦ absurd (s.1 lawful)
    ]

pub run_ends : RunEnds
run_ends bytes counts lawful l =
    elim (begun bytes counts) [
      | inl (inl s) ↦ absurd (let a = s.2 in let b = s.3 in omega arith)
      | inl (inr s) ↦ s
      | inr s ↦ absurd (s.1 lawful)
    ]

pub run_is_safe : RunIsSafe
unfolding at_end
run_is_safe bytes counts e =
    elim (begun bytes counts) [
      | inl (inl s) ↦ not_on reply.Accepted s.0 (sym e ∙ s.1)
      | inl (inr s) ↦ accepted_is_safe bytes (ended_out (reply_of bytes) (sym s ∙ e))
      | inr s ↦ (let q : Ended ≡ Refused 17 0 = sym e ∙ s.0 in let z : ◌≡◌ {A = ℕ} 0 1 = cc in absurd (omega arith))
    ]

-- ---- what a run says of the judgements

module _ (bytes : List ℕ) where
  -- a run has come to step n: each step before it passes, and unless it is the first there is such a step
  abbrev CameTo : ℕ → Type 0
  CameTo n =
      ((f : File) → read_file bytes ≡ found f → Pass f 0 n)
      × (0 < n → (f : File) × (read_file bytes ≡ found f) × (n < length f.steps))

  comes_to : (counts : List ℕ) (from n : ℕ) → CameTo from → run_from bytes (GoOn from) counts ≡ GoOn n → CameTo n
  unfolding run_from go_on at_end
  comes_to [] from n h e = let q : from ≡ n = cc in subst CameTo q h
  comes_to (count ∷ counts) from n h e = go (round_of bytes from count) refl (λ m. comes_to counts m n)
    where
      go : (x : Round) → round_of bytes from count ≡ x → ((m : ℕ) → CameTo m → run_from bytes (GoOn m) counts ≡ GoOn n → CameTo n) → CameTo n
      go Ended q later =
          not_on reply.Accepted n (sym (stays bytes reply.Accepted counts) ∙ ap (λ (x : Round). run_from bytes x counts) (sym q) ∙ e)
      go (Refused r p) q later =
          not_on (reply.Refused r p) n
          (sym (stays bytes (reply.Refused r p) counts) ∙ ap (λ (x : Round). run_from bytes x counts) (sym q) ∙ e)
      go (GoOn m) q later =
          let d = round_handed bytes from count m q in
          later m (
            (λ f read k low high. elim (dec_lt k from) [
              | yes l ↦ h.0 f read k low l
              | no l ↦ subst (λ (g : File). check_step g k (step_at g k) ≡ found tt) (found_same (sym d.read ∙ read))
                  (d.passed k (omega arith) high)
            ]),
            (λ _. (d.file, d.read, d.inside)),
          )
          (ap (λ (x : Round). run_from bytes x counts) (sym q) ∙ e)

pub run_judged : RunJudged
unfolding run at_end
run_judged bytes counts = (
  (λ r e. elim (begun bytes counts) [
    | inl (inl s) ↦ not_on r s.0 (sym e ∙ s.1)
    | inl (inr s) ↦ subst (JudgedBy bytes) (same_reply (reply_of bytes) r (sym s ∙ e)) (reply_judges bytes)
    | inr s ↦ subst (JudgedBy bytes) (same_reply (reply.Refused 17 0) r (sym s.0 ∙ e))
        (no_judgement bytes 17 0 (λ low high. omega arith))
  ]),
  (λ n e some.
      let c = comes_to bytes counts 0 n ((λ f read k low high. absurd (omega arith)), (λ l. absurd (omega arith))) e in
      let (f, read, inside) = c.1 some in
      (f, read, inside, true_before bytes f read n (own_passed f n (c.0 f read)))),
)

-- ---- as few rounds as cover the steps

-- the smallest number of rounds of k steps covers r of them, and no smaller one does
covered : (r k : ℕ) → 1 ≤ r → 1 ≤ k → (r ≤ rounds_for r k * k) × ((n : ℕ) → n < rounds_for r k → n * k < r)
unfolding rounds_for
covered r k some lawful = (
  (let l : r + k - 1 < suc (rounds_for r k) * k = (div-lt_iff_lt-mul lawful).0 (omega arith) in omega arith),
  (λ n m. let l : suc n * k ≤ r + k - 1 = (le-div_iff_mul-le lawful).0 m in omega arith),
)

-- one more round of the same count is one more after the others
pub last_round : (bytes : List ℕ) (n k : ℕ) (at : Round)
    → run_from bytes at (replicate (suc n) k) ≡ go_on bytes (run_from bytes at (replicate n k)) k
unfolding run_from
last_round bytes zero k at = refl
last_round bytes (suc n) k at = last_round bytes n k (go_on bytes at k)

module _ (bytes : List ℕ) (f : File) (k : ℕ) (read : read_file bytes ≡ found f) (lawful : T (lawful_count k)) where
  go_on_for : (n from : ℕ) → from + n * k < length f.steps → Left f from
      → run_from bytes (GoOn from) (replicate n k) ≡ GoOn (from + n * k)
  unfolding run_from go_on
  go_on_for zero from l h = let e : from ≡ from + 0 * k = omega arith in ap GoOn e
  go_on_for (suc n) from l h =
      let e : from + k + n * k ≡ from + suc n * k = omega arith in
      let p = left_parts f from k h in
      ap (λ (x : Round). run_from bytes x (replicate n k)) (goes_on f bytes read from k (omega arith) lawful (omega arith) p.0)
      ∙ go_on_for n (from + k) (omega arith) p.1
      ∙ ap GoOn e

  ends_after : (n from : ℕ) → from < length f.steps → length f.steps ≤ from + n * k
      → ((m : ℕ) → m < n → from + m * k < length f.steps) → Left f from
      → run_from bytes (GoOn from) (replicate n k) ≡ at_end (reply_to (check_last f))
  unfolding go_on
  ends_after zero from l all fewer h = absurd (omega arith)
  ends_after (suc n) from l all fewer h =
      let m : from + n * k < length f.steps = fewer n (omega arith) in
      last_round bytes n k (GoOn from)
      ∙ ap (λ (x : Round). go_on bytes x k) (go_on_for n from m h)
      ∙ at_last f bytes read (from + n * k) k m lawful (omega arith)
      ∙ ap (λ x. at_end (reply_to x)) (rest_passed f (from + n * k) (left_parts f from (n * k) h).1)

pub fewest_rounds : FewestRounds
fewest_rounds bytes f from k read inside lawful h =
    let c = covered (length f.steps - from) k (omega arith) (some_steps k lawful) in
    let fewer : (n : ℕ) → n < rounds_for (length f.steps - from) k → from + n * k < length f.steps =
    λ n m. let l = c.1 n m in omega arith in (
      ends_after bytes f k read lawful (rounds_for (length f.steps - from) k) from inside (let l = c.0 in omega arith) fewer h,
      λ n m. go_on_for bytes f k read lawful n from (fewer n m) h,
    )

-- ---- questions between rounds

between : (bytes : List ℕ) (calls : List Call) (at : Round)
    → ((session bytes at calls).0 ≡ run_from bytes at (counts_of calls)) × ((session bytes at calls).1 ≡ answers_of bytes calls)
unfolding session run_from counts_of answers_of
between bytes [] at = (refl, refl)
between bytes (round count ∷ calls) at = between bytes calls (go_on bytes at count)
between bytes (question e s ∷ calls) at =
    let h = between bytes calls at in (h.0, ap (λ rest. answer_of bytes e s ∷ rest) h.1)

pub questions_between : QuestionsBetween
unfolding run
questions_between bytes calls = between bytes calls (GoOn 0)

-- One round of a check (document 02, f): its steps and those behind them, and what it says of each of its own.
-- Assumes nothing.
use mathlib.Core.Path.{◌≡◌, refl, sym, ap, ◌∙◌, subst}
use mathlib.Core.Logic.{◌↔◌, ◌⊎◌, inl, inr}
use Prim.Native.Nat.{ℕ, zero, suc, ◌+◌, ◌-◌, ◌≤◌, ◌<◌}
use native.Mathlib.Nat.{eq-or-lt_of_le}
use native.Mathlib.Omega.{arith}
use native.Mathlib.Decide.{dec_lt}
use mathlib.Core.Bool.{Bool, true, false, ◌&&◌}
use mathlib.Core.Option.{Option, none, some}
use mathlib.Core.List.{List, [], ◌∷◌}
use lib.ListN.{length, take, drop, length-drop, drop_of_length-le}
use lib.Seq.{take_all, drop-cons, drop-drop}
use lib.Dec.{T, leb, ltb, leb→le, lt→ltb}
use borrow.Author.Tests.{lt-ltb, le-ltb}
use Rattle.task.proofs.Tests.{holds}
use Rattle.meaning.specs.Result.{Result, refuse, found, ◌>>=◌, need}
use Rattle.meaning.specs.File.{Step, File, step_at}
use Rattle.meaning.specs.Layout.{read_file}
use Rattle.meaning.specs.Step.{check_step}
use Rattle.meaning.specs.declared.Reply.{Reply}
use Rattle.meaning.specs.declared.Reply.TheVariants as reply
use Rattle.meaning.specs.declared.Round.{Round}
use Rattle.meaning.specs.declared.Round.TheVariants.{Ended, GoOn, Refused}
use Rattle.meaning.specs.Reply.{check_steps, check_last, check_from, check_file, reply_to, reply_of}
use Rattle.meaning.specs.Rounds.{lawful_count, hand_back, check_some, check_round, round_to, round_of, at_end}
use Rattle.meaning.specs.Points.{OneRound, HandsBack, Pass, RoundSays}
use Rattle.meaning.proofs.Numbered.{number_of}
use Rattle.meaning.proofs.StepRefusals.{step_ok}
use Rattle.meaning.proofs.Results.{no_found, found_same, bind_out, need_case, bind_found, bind_in, bind_refused, need_in, bind_same}
use Rattle.meaning.proofs.Results.{bind_assoc, and_out, and_in}
use Rattle.meaning.proofs.Reading.{file_read}
use Rattle.meaning.proofs.Refusals.{accepted_out}

-- a round takes at least one step
pub some_steps : (count : ℕ) → T (lawful_count count) → 1 ≤ count
unfolding lawful_count
some_steps count t = leb→le 1 count (and_out (leb 1 count) (leb count 2048) t).0

-- ---- what a round says, by its result

-- it goes on only from a step that it found
handed : (x : Result (Option ℕ)) (n : ℕ) → round_to x ≡ GoOn n → x ≡ found (some n)
unfolding round_to
handed (refuse r p) n e = let z : ◌≡◌ {A = ℕ} 0 1 = cc in absurd (omega arith)
handed (found none) n e = let z : ◌≡◌ {A = ℕ} 0 1 = cc in absurd (omega arith)
handed (found (some m)) n e = let q : m ≡ n = cc in ap (λ (k : ℕ). found (some k)) q

-- at the end it says what the reply is
says_reply : (x : Result (Unit {0})) → round_to (x >>= λ _. found none) ≡ at_end (reply_to x)
unfolding round_to reply_to at_end ◌>>=◌
says_reply (refuse r p) = refl
says_reply (found u) = refl

pub ended_out : (r : Reply) → at_end r ≡ Ended → r ≡ reply.Accepted
unfolding at_end
ended_out reply.Accepted e = refl
ended_out (reply.Refused r p) e = let z : ◌≡◌ {A = ℕ} 0 1 = cc in absurd (omega arith)

-- ---- steps in two parts

module _ (f : File) where
  -- the first k steps of a list, and then the others
  split_steps : (k i : ℕ) (ss : List Step) → check_steps f i ss ≡ (check_steps f i (take k ss) >>= λ _. check_steps f (i + k) (drop k ss))
  unfolding check_steps ◌>>=◌
  split_steps zero i ss = let n : i ≡ i + 0 = omega arith in ap (λ (j : ℕ). check_steps f j ss) n
  split_steps (suc k) i [] = refl
  split_steps (suc k) i (s ∷ ss) =
      let n : suc i + k ≡ i + suc k = omega arith in
      ap (λ (x : Result (Unit {0})). check_step f i s >>= λ _. x)
      (split_steps k (suc i) ss ∙ ap (λ (j : ℕ). check_steps f (suc i) (take k ss) >>= λ _. check_steps f j (drop k ss)) n)
      ∙ sym (bind_assoc (check_step f i s) (λ _. check_steps f (suc i) (take k ss)) (λ _. check_steps f (i + suc k) (drop k ss)))

  -- the same of the file's steps from step i on
  steps_after : (i k : ℕ) → check_steps f i (drop i f.steps) ≡ (check_some f i k >>= λ _. check_steps f (i + k) (drop (i + k) f.steps))
  steps_after i k =
      split_steps k i (drop i f.steps)
      ∙ ap (λ (ss : List Step). check_some f i k >>= λ _. check_steps f (i + k) ss) (drop-drop k i f.steps)

  -- the steps from step i on pass
  abbrev pub Left : ℕ → Type 0
  Left i = check_steps f i (drop i f.steps) ≡ found tt

  -- the first k of them do, and so do the others
  pub left_parts : (i k : ℕ) → Left i → (check_some f i k ≡ found tt) × Left (i + k)
  left_parts i k h = let c = bind_out (check_some f i k) _ tt (sym (steps_after i k) ∙ h) in (c.1, c.2)

  -- what is left of the check: all of it, nothing but the last step's judgement, or some steps and then the rest
  rest_start : check_from f 0 ≡ check_file f
  unfolding check_from check_file
  rest_start = refl

  rest_end : (n : ℕ) → length f.steps ≤ n → check_from f n ≡ check_last f
  unfolding check_from check_steps ◌>>=◌
  rest_end n l = rw (drop_of_length-le f.steps l) refl

  rest_after : (i k : ℕ) → check_from f i ≡ (check_some f i k >>= λ _. check_from f (i + k))
  unfolding check_from
  rest_after i k =
      ap (λ (x : Result (Unit {0})). x >>= λ _. check_last f) (steps_after i k)
      ∙ bind_assoc (check_some f i k) (λ _. check_steps f (i + k) (drop (i + k) f.steps)) (λ _. check_last f)

  pub rest_passed : (i : ℕ) → Left i → check_from f i ≡ check_last f
  unfolding check_from
  rest_passed i h = bind_found (λ _. check_last f) h

  -- the steps from i on are the first length - i of them
  pub all_left : (i : ℕ) → check_some f i (length f.steps - i) ≡ check_steps f i (drop i f.steps)
  all_left i =
      let n : length (drop i f.steps) ≤ length f.steps - i = (let e = length-drop i f.steps in omega arith) in
      ap (check_steps f i) (take_all (length f.steps - i) (drop i f.steps) n)

  -- ---- each step of a round passes

  pub first_step : (n i : ℕ) → i < length f.steps → check_some f i (suc n) ≡ (check_step f i (step_at f i) >>= λ _. check_some f (suc i) n)
  unfolding check_steps step_at
  first_step n i l = ap (λ (ss : List Step). check_steps f i (take (suc n) ss)) (drop-cons f.steps i _ l)

  pub each_passes : (n i : ℕ) → i + n ≤ length f.steps → check_some f i n ≡ found tt → Pass f i (i + n)
  each_passes zero i l e k low high = absurd (omega arith)
  each_passes (suc n) i l e k low high =
      let c = bind_out (check_step f i (step_at f i)) _ tt (sym (first_step n i (omega arith)) ∙ e) in
      elim (eq-or-lt_of_le low) [
        | inl q ↦ subst (λ (j : ℕ). check_step f j (step_at f j) ≡ found tt) q c.1
        | inr q ↦ each_passes n (suc i) (omega arith) c.2 k q (omega arith)
      ]

  pub all_pass : (n i : ℕ) → i + n ≤ length f.steps → Pass f i (i + n) → check_some f i n ≡ found tt
  unfolding check_steps
  all_pass zero i l h = refl
  all_pass (suc n) i l h =
      first_step n i (omega arith)
      ∙ bind_in _ (h i (omega arith) (omega arith))
      (all_pass n (suc i) (omega arith) (λ k low high. h k (omega arith) (omega arith)))

  -- the first step that fails is refused at its number, and each before it passes
  pub record Failing (i n r p : ℕ) : Type 0 where
    pub number : (8 ≤ r) × (r ≤ 11)
    pub place : (i ≤ p) × (p < i + n)
    pub passed : Pass f i p
    pub refused : check_step f p (step_at f p) ≡ refuse r p

  pub first_failing : (n i r p : ℕ) → i + n ≤ length f.steps → check_some f i n ≡ refuse r p → Failing i n r p
  unfolding check_steps
  first_failing zero i r p l e = no_found r p tt (sym e)
  first_failing (suc n) i r p l e = go (check_step f i (step_at f i)) refl (first_failing n (suc i) r p (omega arith))
    where
      whole : (check_step f i (step_at f i) >>= λ _. check_some f (suc i) n) ≡ refuse r p
      whole = sym (first_step n i (omega arith)) ∙ e

      go : (x : Result (Unit {0})) → check_step f i (step_at f i) ≡ x → (check_some f (suc i) n ≡ refuse r p → Failing (suc i) n r p)
          → Failing i (suc n) r p
      go (refuse r' p') q later =
          let w = number_of (step_ok f i (step_at f i)) q in
          let z : refuse r' p' ≡ refuse r p = sym (bind_refused (λ _. check_some f (suc i) n) q) ∙ whole in
          let a : r' ≡ r = cc in
          let b : p' ≡ p = cc in
          let c : p ≡ i = sym b ∙ w.2 in
          record {
            number = subst (λ (x : ℕ). (8 ≤ x) × (x ≤ 11)) a (w.0, w.1);
            place = (omega arith, omega arith);
            passed = λ k low high. absurd (omega arith);
            refused = ap (λ (j : ℕ). check_step f j (step_at f j)) c ∙ q ∙ z;
          }
      go (found u) q later =
          let h = later (sym (bind_found (λ _. check_some f (suc i) n) q) ∙ whole) in
          let (low, high) = h.place in
          record {
            number = h.number;
            place = (omega arith, omega arith);
            passed = λ k low high.
                elim (eq-or-lt_of_le low) [
                  | inl c ↦ subst (λ (j : ℕ). check_step f j (step_at f j) ≡ found tt) c q
                  | inr c ↦ h.passed k c high
                ];
            refused = h.refused;
          }

  -- ---- where a round leaves the check

  hands_on : (n : ℕ) → n < length f.steps → hand_back f n ≡ found (some n)
  unfolding hand_back
  hands_on n l = rw (lt-ltb n (length f.steps) l, hand_back) refl

  hands_none : (n : ℕ) → length f.steps ≤ n → hand_back f n ≡ (check_last f >>= λ _. found none)
  unfolding hand_back
  hands_none n l = rw (le-ltb n (length f.steps) l, hand_back) refl

  handed_place : (n m : ℕ) → hand_back f n ≡ found (some m) → (m < length f.steps) × (m ≡ n)
  handed_place n m e =
      elim (dec_lt n (length f.steps)) [
        | yes l ↦ (let q : found (some n) ≡ found (some m) = sym (hands_on n l) ∙ e in let p : m ≡ n = cc in (omega arith, p))
        | no l ↦ (
            let c = bind_out (check_last f) (λ _. found none) (some m) (sym (hands_none n (omega arith)) ∙ e) in
            let q : found none ≡ found (some m) = c.2 in
            let z : ◌≡◌ {A = ℕ} 0 1 = cc in
            absurd (omega arith)
            )
      ]

  -- ---- a round of so many steps as are allowed, from a step of the file on

  module _ (bytes : List ℕ) (read : read_file bytes ≡ found f) (from count : ℕ) (inside : from < length f.steps)
      (lawful : T (lawful_count count)) where
    walked : round_of bytes from count ≡ round_to (check_some f from count >>= λ _. hand_back f (from + count))
    unfolding round_of check_round
    walked =
        ap round_to (bind_found (λ g. check_round g from count) read
        ∙ bind_found _ (need_in (lawful_count count && ltb from (length f.steps)) 17 0
        (and_in (lawful_count count) (ltb from (length f.steps)) lawful (lt→ltb from (length f.steps) inside))))

    -- with steps behind it
    pub between : from + count < length f.steps
        → round_of bytes from count ≡ round_to (check_some f from count >>= λ _. found (some (from + count)))
    between l = walked ∙ ap (λ (x : Result (Option ℕ)). round_to (check_some f from count >>= λ _. x)) (hands_on (from + count) l)

    -- where its own pass, it goes on
    pub goes_on : from + count < length f.steps → check_some f from count ≡ found tt → round_of bytes from count ≡ GoOn (from + count)
    unfolding round_to
    goes_on l e = between l ∙ ap round_to (bind_found (λ _. found (some (from + count))) e)

    -- to the last step
    pub at_last : length f.steps ≤ from + count → round_of bytes from count ≡ at_end (reply_to (check_from f from))
    at_last l =
        walked
        ∙ ap (λ (x : Result (Option ℕ)). round_to (check_some f from count >>= λ _. x)) (hands_none (from + count) l)
        ∙ ap round_to (sym (bind_assoc (check_some f from count) (λ _. check_last f) (λ _. found none)))
        ∙ says_reply (check_some f from count >>= λ _. check_last f)
        ∙ ap (λ (x : Result (Unit {0})). at_end (reply_to x))
        (sym (rest_after from count ∙ ap (λ (x : Result (Unit {0})). check_some f from count >>= λ _. x) (rest_end (from + count) l)))

    -- it goes on, with as much left to check as before, or ends with the reply
    abbrev OnOrEnd : Type 0
    OnOrEnd =
        ((round_of bytes from count ≡ GoOn (from + count)) × (from + count < length f.steps)
        × (check_from f (from + count) ≡ check_from f from))
        ⊎ (round_of bytes from count ≡ at_end (reply_to (check_from f from)))

    on_or_end : OnOrEnd
    unfolding round_to reply_to at_end ◌>>=◌
    on_or_end =
        elim (dec_lt (from + count) (length f.steps)) [
          | yes l ↦ go l (check_some f from count) refl
          | no l ↦ inr (at_last (omega arith))
        ]
      where
        go : from + count < length f.steps → (x : Result (Unit {0})) → check_some f from count ≡ x → OnOrEnd
        go l (refuse r p) e =
            inr (between l ∙ ap round_to (bind_refused (λ _. found (some (from + count))) e)
            ∙ ap (λ (x : Result (Unit {0})). at_end (reply_to x))
            (sym (rest_after from count ∙ bind_refused (λ _. check_from f (from + count)) e)))
        go l (found u) e = inl (
          goes_on l e,
          l,
          sym (rest_after from count ∙ bind_found (λ _. check_from f (from + count)) e),
        )

    says_on : from + count < length f.steps → (round_of bytes from count ≡ GoOn (from + count)) ↔ Pass f from (from + count)
    says_on l = (
      (λ e. each_passes count from (omega arith) (bind_out (check_some f from count) _ _ (handed _ _ (sym (between l) ∙ e))).1),
      (λ h. goes_on l (all_pass count from (omega arith) h)),
    )

    says_end : length f.steps ≤ from + count
        → (round_of bytes from count ≡ Ended) ↔ (Pass f from (length f.steps) × (check_last f ≡ found tt))
    unfolding check_from reply_to at_end
    says_end l =
        let n : from + (length f.steps - from) ≡ length f.steps = omega arith in (
          (λ e.
              let c = bind_out (check_steps f from (drop from f.steps)) (λ _. check_last f) tt
              (accepted_out (check_from f from) (ended_out (reply_to (check_from f from)) (sym (at_last l) ∙ e))) in
              (subst (Pass f from) n (each_passes (length f.steps - from) from (omega arith) (all_left from ∙ c.1)), c.2)),
          (λ h.
              let p = all_pass (length f.steps - from) from (omega arith) (subst (Pass f from) (sym n) h.0) in
              at_last l ∙ ap (λ (x : Result (Unit {0})). at_end (reply_to x)) (rest_passed from (sym (all_left from) ∙ p) ∙ h.1)),
        )

pub round_says : RoundSays
round_says bytes f from count read inside lawful = (
  says_on f bytes read from count inside lawful,
  says_end f bytes read from count inside lawful,
)

-- a round that goes on has done its own steps, and they pass
pub record Handed (bytes : List ℕ) (from count next : ℕ) : Type 0 where
  pub file : File
  pub read : read_file bytes ≡ found file
  pub further : from < next
  pub inside : next < length file.steps
  pub behind : next ≡ from + count
  pub passed : Pass file from next

pub round_handed : (bytes : List ℕ) (from count next : ℕ) → round_of bytes from count ≡ GoOn next → Handed bytes from count next
unfolding round_of check_round
round_handed bytes from count next e =
    let c = bind_out (read_file bytes) _ (some next) (handed _ next e) in
    let f : File = c.0 in
    need_case (lawful_count count && ltb from (length f.steps)) 17 0 _ (some next) c.2 λ t e₁.
    let d = bind_out (check_some f from count) _ (some next) e₁ in
    let h = handed_place f (from + count) next d.2 in
    let q = h.1 in
    let l = h.0 in
    record {
      file = f;
      read = c.1;
      further = (let m = some_steps count (and_out (lawful_count count) _ t).0 in omega arith);
      inside = l;
      behind = q;
      passed = subst (Pass f from) (sym q) (each_passes f count from (omega arith) d.1);
    }

pub hands_back : HandsBack
hands_back bytes from count next e =
    let h = round_handed bytes from count next e in (h.file, h.read, h.further, h.inside, h.behind)

-- so a run comes to its end: what is handed back grows, and is below 2,048
pub goes_further : (bytes : List ℕ) (from count next : ℕ) → round_of bytes from count ≡ GoOn next → (from < next) × (next < 2048)
goes_further bytes from count next e =
    let h = hands_back bytes from count next e in
    let few = (file_read bytes h.0 h.1).few_steps in
    let l = h.3 in
    (h.2, omega arith)

-- ---- a round over any bytes

module _ (bytes : List ℕ) where
  -- what is left of the check of the bytes from step i on
  unfoldable pub rest_of : ℕ → Result (Unit {0})
  rest_of i = read_file bytes >>= λ f. check_from f i

  pub rest_reply : reply_to (rest_of 0) ≡ reply_of bytes
  unfolding rest_of reply_of
  rest_reply = ap reply_to (bind_same refl rest_start)

  -- where the bytes are a file, it has a step i
  abbrev pub Inside : ℕ → Type 0
  Inside i = (f : File) → read_file bytes ≡ found f → i < length f.steps

  pub inside_start : Inside 0
  inside_start f read = (file_read bytes f read).some_steps

  -- a round goes on, with as much left to check as before, or it ends with the reply; 17 only by its count
  abbrev pub RoundLeaves : ℕ → ℕ → Round → Type 0
  RoundLeaves from count at =
      ((at ≡ GoOn (from + count)) × (1 ≤ count) × (from + count < 2048) × Inside (from + count) × (rest_of (from + count) ≡ rest_of from))
      ⊎ (at ≡ at_end (reply_to (rest_of from)))
      ⊎ ((at ≡ Refused 17 0) × (T (lawful_count count) → ⊥))

  pub round_leaves : (from count : ℕ) → Inside from → RoundLeaves from count (round_of bytes from count)
  unfolding rest_of round_of check_round round_to reply_to at_end need ◌>>=◌
  round_leaves from count inside = go (read_file bytes) refl (lawful_count count) refl
    where
      go : (x : Result File) → read_file bytes ≡ x → (b : Bool) → lawful_count count ≡ b → RoundLeaves from count (round_of bytes from count)
      go (refuse r p) e b q = inr (inl (rw (e, round_of, rest_of) refl))
      go (found f) e false q = inr (inr (rw (e, q, round_of, check_round) refl, λ t. rw q at t))
      go (found f) e true q =
          let t : T (lawful_count count) = holds q in
          elim (on_or_end f bytes e from count (inside f e) t) [
            | inl h ↦ inl (
              h.0,
              some_steps count t,
              (let l = h.1 in let m = (file_read bytes f e).few_steps in omega arith),
              (λ g e'. subst (λ (x : File). from + count < length x.steps) (found_same (sym e ∙ e')) h.1),
              bind_found (λ x. check_from x (from + count)) e ∙ h.2 ∙ sym (bind_found (λ x. check_from x from) e),
            )
            | inr h ↦ inr (inl (h ∙ ap (λ (x : Result (Unit {0})). at_end (reply_to x)) (sym (bind_found (λ x. check_from x from) e))))
          ]

pub one_round : OneRound
unfolding lawful_count
one_round bytes =
    elim (round_leaves bytes 0 2048 (inside_start bytes)) [
      | inl h ↦ absurd (let l : 0 + 2048 < 2048 = h.2 in omega arith)
      | inr (inl h) ↦ h ∙ ap at_end (rest_reply bytes)
      | inr (inr h) ↦ absurd (h.1 tt)
    ]

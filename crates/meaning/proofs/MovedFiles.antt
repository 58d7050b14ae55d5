-- A version 1 file and its twin (document 02, d): they are read alike, and the same is said of them, byte places from 14 on moved by 8.
-- Assumes nothing.
use mathlib.Core.Path.{◌≡◌, refl, sym, ap, ◌∙◌}
use mathlib.Core.Logic.{inl, inr}
use mathlib.Core.Option.{Option, none, some}
use Prim.Native.Nat.{ℕ, ◌+◌, ◌*◌, ◌^◌, ◌≤◌}
use native.Mathlib.Omega.{arith}
use mathlib.Core.Bool.{Bool, true, false, not, ◌&&◌, ◌||◌}
use mathlib.Core.List.{List}
use lib.ListN.{length}
use lib.Dec.{T, leb, ltb, eqb, le→leb, leb→le, lt→ltb, eqb→eq}
use lib.Pow.{pow_pos}
use lib.Bits.{and_zero_r}
use Rattle.task.proofs.Tests.{or_cases, not_of, is_true}
use Rattle.meaning.specs.Result.{Result, refuse, found, ◌>>=◌, need}
use Rattle.meaning.specs.Bytes.{number, inside, AreBytes}
use Rattle.meaning.specs.declared.Limits.{Limits}
use Rattle.meaning.specs.Limits.{full}
use Rattle.meaning.specs.File.{File}
use Rattle.meaning.specs.Layout.{goal_at, action_count_at, action_size, after_actions, field, mask, off_size, unknown_mask, off_mask}
use Rattle.meaning.specs.Layout.{read_task, read_within, read_file}
use Rattle.meaning.specs.Writing.{FitsSize}
use Rattle.meaning.specs.Sets.{in_set}
use Rattle.meaning.specs.declared.Reply.TheVariants.{Refused}
use Rattle.meaning.specs.Reply.{check_file, reply_to, reply_of}
use Rattle.meaning.specs.Small.{reply_within}
use Rattle.meaning.specs.Numbering.{rule_meant, rewritten, check_rewritten, reply_numbered}
use Rattle.meaning.specs.Rounds.{check_round, round_to, round_of}
use Rattle.meaning.specs.Question.{askable, answer_to, answer_of}
use Rattle.meaning.specs.Versions.{twin, of_bytes, moved_place, moved_reply, moved_round, moved_answer}
use Rattle.meaning.specs.Points.{SameAsTwin, TwinReplies, TwinChecks}
use Rattle.meaning.proofs.Results.{bind_in, need_in}
use Rattle.meaning.proofs.Numbered.{refused, given, Numbered, then_ok, need_ok, widen}
use Rattle.meaning.proofs.StepRefusals.{OfSteps, steps_ok, check_ok, hand_back_ok, numbers_ok}
use Rattle.meaning.proofs.Moved.{leb_moved, twin_length, version_two, unknown_zero, number_kept, length_says}
use Rattle.meaning.proofs.MovedReads.{unmoved, Moved, moved, both, Same, bind, bind_same, need_moved, need_later, Ends}
use Rattle.meaning.proofs.MovedReads.{items_moved, count_moved, mask_moved, action_moved, step_moved, entries_moved}
use Rattle.meaning.proofs.MovedReads.{action_kinds_moved, state_kinds_moved}
use Rattle.meaning.proofs.Alike.{Alike}
use Rattle.meaning.proofs.AlikeSteps.{all_same}
use Rattle.meaning.proofs.AlikeChecks.{alike_check, alike_round, alike_askable, alike_holds, alike_rewritten}

-- ---- what is read

-- a number that is inside
field_found : (bytes : List ℕ) (k p x : ℕ) → p + k ≤ length bytes → number k bytes p ≡ x → field bytes k p ≡ found x
unfolding field inside
field_found bytes k p x l e = bind_in _ (need_in (inside k bytes p) 3 p (le→leb (p + k) (length bytes) l)) (ap found e)

module _ (a : List ℕ) (long : 14 ≤ length a) where
  abbrev b : List ℕ
  b = twin a

  -- the start
  start_kept : (n : ℕ) → Same (mask a n 6) (mask b n 6)
  unfolding mask moved_place of_bytes
  start_kept n =
      let t : length b ≡ length a + 8 = twin_length a long in
      rw (
        field_found a 8 6 (number 8 a 6) (omega arith) refl,
        field_found b 8 6 (number 8 a 6) (omega arith) (number_kept a long 8 6 (omega arith) (omega arith)),
      )
      (bind_same (both refl) λ m. bind_same (need_moved 5 6 6 refl refl) λ _. both refl)

  -- no fact is unknown
  unknown_none : (n s : ℕ) → unknown_mask b 2 n s ≡ found 0
  unfolding unknown_mask mask need ◌>>=◌
  unknown_none n s =
      let t : length b ≡ length a + 8 = twin_length a long in
      rw (field_found b 8 14 0 (omega arith) (unknown_zero a long), is_true (ltb 0 (2 ^ n)) (lt→ltb 0 (2 ^ n) (pow_pos n)), and_zero_r s)

  -- both are long enough, and within limits that the longer one keeps
  few : (m : ℕ) → length a + 8 ≤ m → leb (length b) m ≡ leb (length a) m
  few m h =
      let t : length b ≡ length a + 8 = twin_length a long in
      is_true (leb (length b) m) (le→leb (length b) m (omega arith)) ∙ sym (is_true (leb (length a) m) (le→leb (length a) m (omega arith)))

  sizes : (m : ℕ) → length a + 8 ≤ m → leb 4 (length b) && leb (length b) m ≡ leb 4 (length a) && leb (length a) m
  sizes m h =
      let t : length b ≡ length a + 8 = twin_length a long in
      rw (
        few m h,
        is_true (leb 4 (length b)) (le→leb 4 (length b) (omega arith)),
        is_true (leb 4 (length a)) (le→leb 4 (length a) (omega arith)),
      )

  module _ (one : number 1 a 4 ≡ 1) where
    -- the task, and the file
    task_moved : Moved Ends (read_task a) (read_task b)
    unfolding read_task unknown_mask off_mask goal_at off_size action_count_at action_size after_actions moved_place of_bytes ◌>>=◌
    task_moved =
        let t : length b ≡ length a + 8 = twin_length a long in
        let n : ℕ = number 1 a 5 in
        rw (
          field_found a 1 4 1 (omega arith) one,
          field_found b 1 4 2 (omega arith) (version_two a long),
          field_found a 1 5 n (omega arith) refl,
          field_found b 1 5 n (omega arith) (number_kept a long 1 5 (omega arith) (omega arith)),
        )
        (bind_same (need_moved 2 4 4 refl refl) λ _.
        bind_same (need_moved 4 5 5 refl refl) λ _.
        bind_same (start_kept n) λ s. rw (unknown_none n s)
        (bind_same (mask_moved a long n 14 22 (omega arith) refl) λ g.
        bind_same (count_moved a long 0 256 22 30 (omega arith) refl) λ m.
        bind_same (items_moved a long 24 (action_moved a long n) m 24 32 (omega arith) refl) λ acts.
        both (record { value = refl; from = omega arith; end = omega arith })))

    module _ (bytes : AreBytes a) (l : Limits) (fits : FitsSize l (length a + 8)) where
      pub file_moved : Moved Alike (read_within l a) (read_within l b)
      unfolding read_within moved_place of_bytes
      file_moved =
          let t : length b ≡ length a + 8 = twin_length a long in
          let u : length a + 8 ≤ 65536 = fits.0 in
          let v : length a + 8 ≤ l.size = fits.1 in
          bind_same (need_moved 1 0 0 (sizes 65536 (omega arith)) refl) λ _.
          bind_same (need_moved 1 0 0 (length_says a long bytes u) refl) λ _.
          bind_same (need_moved 19 0 0 (few l.size (omega arith)) refl) λ _.
          bind task_moved λ x x' h. rw (← h.value)
          (bind_same (count_moved a long 0 256 x.1 x'.1 h.from h.end) λ ac.
          bind (entries_moved a long (action_kinds_moved a long (length x.0.actions)) ac 0 (x.1 + 2) (x'.1 + 2)
          (omega arith) (omega arith)) λ es es' i. rw (← i.value)
          (bind_same (count_moved a long 0 512 es.1 es'.1 i.from i.end) λ sc.
          bind (entries_moved a long (state_kinds_moved a long l.states x.0.facts ac) sc 0 (es.1 + 2) (es'.1 + 2)
          (omega arith) (omega arith)) λ ss ss' j. rw (← j.value)
          (bind_same (count_moved a long 1 2048 ss.1 ss'.1 j.from j.end) λ kc.
          bind_same (need_later 19 refl tt j.from j.end) λ _.
          bind_same (items_moved a long 12 (step_moved a long) kc (ss.1 + 2) (ss'.1 + 2) (omega arith) (omega arith)) λ ks.
          let o : 14 ≤ ss.1 + 2 + 12 * kc = omega arith in
          let w : ss.1 + 2 + 12 * kc + 8 ≡ ss'.1 + 2 + 12 * kc = omega arith in
          bind_same (need_later 3 (rw (t, ← w) (leb_moved (length a) (ss.1 + 2 + 12 * kc) 8)) tt o w) λ _.
          both (record { task = refl; action_sets_hold = refl; state_sets_hold = all_same ss.0; steps = refl }))))

-- ---- what is said of them

-- a refusal whose place is no byte
abbrev Own : ℕ → ℕ → Type 0
Own r p = T (not (of_bytes r))

own_step : (r p : ℕ) → OfSteps r p → Own r p
unfolding of_bytes
own_step r p h =
    not_of (of_bytes r) λ t.
    elim (or_cases (leb r 7 || eqb r 16) (eqb r 19) t) [
      | inl t ↦ elim (or_cases (leb r 7) (eqb r 16) t) [
        | inl t ↦ let i = leb→le r 7 t in let j = h.0 in omega arith
        | inr t ↦ let i = eqb→eq r 16 t in let j = h.1 in omega arith
      ]
      | inr t ↦ let i = eqb→eq r 19 t in let j = h.1 in omega arith
    ]

-- what is said after a check that is the same of files that are alike, and that refuses no byte
module _ {A R : Type 0} (shift : R → R) (finish : Result A → R)
    (refusals : (r p : ℕ) → finish (refuse r (moved_place r p)) ≡ shift (finish (refuse r p)))
    (values : (x : A) → finish (found x) ≡ shift (finish (found x)))
    (check : File → Result A) (checks : (f g : File) → Alike f g → check f ≡ check g) (own : (f : File) → Numbered Own (check f)) where
  stays : {x : Result A} → Numbered Own x → finish x ≡ shift (finish x)
  stays (refused {r = r} {p = p} h) = ap (λ (q : ℕ). finish (refuse r q)) (sym (unmoved r p h)) ∙ refusals r p
  stays (given {a = x} h) = values x

  said : {x y : Result File} → Moved Alike x y → finish (y >>= check) ≡ shift (finish (x >>= check))
  unfolding ◌>>=◌
  said (moved {r = r} {p = p} e) = ap (λ (q : ℕ). finish (refuse r q)) (sym e) ∙ refusals r p
  said (both {x = f} {y = g} h) = ap finish (sym (checks f g h)) ∙ stays (own f)

  twin_said : (l : Limits) → SameAsTwin l shift (λ bytes. finish (read_within l bytes >>= check))
  twin_said l a bytes long one fits = said (file_moved a long one bytes l fits)

pub twin_replies : TwinReplies
unfolding reply_within reply_to moved_reply
twin_replies = twin_said moved_reply reply_to (λ r p. refl) (λ _. refl) check_file alike_check (λ f. widen own_step (check_ok f))

twin_reply : SameAsTwin full moved_reply reply_of
unfolding reply_of reply_within read_file
twin_reply = twin_replies full

-- a list's own fault is the same of all files
numbered : (to : ℕ → ℕ) {x : Result (Unit {0})} → Numbered Own x
    → SameAsTwin full moved_reply (λ bytes. reply_to (x >>= λ _. check_rewritten to bytes))
unfolding reply_to moved_reply check_rewritten read_file ◌>>=◌
numbered to (refused {r = r} {p = p} h) = λ _ _ _ _ _. ap (Refused r) (sym (unmoved r p h))
numbered to (given h) =
    twin_said moved_reply reply_to (λ r p. refl) (λ _. refl) (λ f. check_file (rewritten to f))
    (λ f g h. alike_check (rewritten to f) (rewritten to g) (alike_rewritten to f g h))
    (λ f. widen own_step (check_ok (rewritten to f))) full

twin_numbered : (numbers : List ℕ) → SameAsTwin full moved_reply (λ bytes. reply_numbered bytes numbers)
unfolding reply_numbered of_bytes
twin_numbered numbers = numbered (rule_meant numbers) (numbers_ok Own (λ p. tt) numbers)

own_round : (f : File) (from count : ℕ) → Numbered Own (check_round f from count)
unfolding check_round of_bytes
own_round f from count =
    then_ok (need_ok _ 17 0 tt) λ _ _.
    then_ok (widen own_step (steps_ok f from _)) λ _ _. widen own_step (hand_back_ok f (from + count))

round_values : (x : Option ℕ) → round_to (found x) ≡ moved_round (round_to (found x))
unfolding round_to moved_round
round_values none = refl
round_values (some n) = refl

twin_round : (from count : ℕ) → SameAsTwin full moved_round (λ bytes. round_of bytes from count)
unfolding round_of round_to moved_round read_file
twin_round from count =
    twin_said moved_round round_to (λ r p. refl) round_values (λ f. check_round f from count) (λ f g h. alike_round f g h from count)
    (λ f. own_round f from count) full

answer_values : (x : Bool) → answer_to (found x) ≡ moved_answer (answer_to (found x))
unfolding answer_to moved_answer
answer_values true = refl
answer_values false = refl

twin_answer : (e s : ℕ) → SameAsTwin full moved_answer (λ bytes. answer_of bytes e s)
unfolding answer_of answer_to moved_answer read_file of_bytes
twin_answer e s =
    twin_said moved_answer answer_to (λ r p. refl) answer_values (λ f. need (askable f e s) 13 0 >>= λ _. found (in_set f e s))
    (λ f g h. rw (alike_askable f g h e s, alike_holds f g h e s)) (λ f. then_ok (need_ok (askable f e s) 13 0 tt) λ _ _. given tt) full

pub twin_checks : TwinChecks
twin_checks = (twin_reply, twin_numbered, twin_round, twin_answer)

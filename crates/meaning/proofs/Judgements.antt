-- The steps that pass say what is true: so each judgement before the first step that fails is true, each of a file whose steps pass, and
-- an accepted file's task is safe.
-- Assumes nothing.
use mathlib.Core.Path.{◌≡◌, refl, sym, ap, subst, ◌∙◌}
use mathlib.Core.Logic.{◌⊎◌, inl, inr}
use Prim.Native.Nat.{ℕ, zero, suc, ◌-◌, ◌<◌, ◌≤◌}
use native.Mathlib.Nat.{le_of_suc-le-suc, eq-or-lt_of_le, not-suc-le-zero}
use native.Mathlib.Omega.{arith}
use mathlib.Core.List.{List}
use lib.ListN.{length}
use lib.Dec.{eqb, eqb→eq}
use Rattle.task.specs.Reach.{Safe}
use Rattle.task.proofs.Moves.{Bounded, unsolvable, safe_unsolvable, unsolvable_safe, dead}
use Rattle.meaning.specs.Result.{Result, refuse, found, ◌>>=◌}
use Rattle.meaning.specs.File.{File, step_at}
use Rattle.meaning.specs.Layout.{read_file}
use Rattle.meaning.specs.Sets.{in_set}
use Rattle.meaning.specs.Step.{check_step}
use Rattle.meaning.specs.Numbering.{with_rule}
use Rattle.meaning.specs.declared.Reply.TheVariants.{Accepted, Refused}
use Rattle.meaning.specs.Reply.{check_steps, check_last, check_from, check_file, reply_to, reply_of}
use Rattle.meaning.specs.Judged.{Judged, TrueBefore, TrueUpTo, JudgedBy}
use Rattle.meaning.specs.Rounds.{check_some}
use Rattle.meaning.specs.Points.{Pass, JudgementsTrue, ReplyJudges, AcceptedIsSafe, RefusedIsUntrue}
use Rattle.meaning.proofs.Results.{no_found, bind_out, need_out, bind_fails, need_fails, bind_found, bind_refused}
use Rattle.meaning.proofs.Numbered.{number_of, need_ok, forget}
use Rattle.meaning.proofs.Reading.{file_read}
use Rattle.meaning.proofs.Order.{Ordered, ordered}
use Rattle.meaning.proofs.Sets.{within, within_actions}
use Rattle.meaning.proofs.TaskBounds.{fits_bounded}
use Rattle.meaning.proofs.Holds.{HoldsAs, Holds, step_holds, untrue}
use Rattle.meaning.proofs.Breaches.{read_number}
use Rattle.meaning.proofs.Refusals.{accepted_out, reply_refused}
use Rattle.meaning.proofs.Rounds.{all_left, each_passes, first_failing}

-- ---- the judgements of steps that pass

-- each step before step n passes, by its own rule or another one: what it says does not hang on that
abbrev pub Passed : File → ℕ → Type 0
Passed f n = (k : ℕ) → k < n → (r : ℕ) × (check_step f k (with_rule r (step_at f k)) ≡ found tt)

module _ (f : File) (o : Ordered f) (b : Bounded f.task) where
  hold_before : (n : ℕ) → Passed f n → (k : ℕ) → k < n → Holds f (step_at f k)
  hold_before zero h k l = absurd (not-suc-le-zero l)
  hold_before (suc n) h k l =
      let earlier = hold_before n (λ j m. h j (omega arith)) in
      let (r, e) = h n (omega arith) in
      elim (eq-or-lt_of_le (le_of_suc-le-suc l)) [
        | inl p ↦ subst (λ (j : ℕ). Holds f (step_at f j)) (sym p) (step_holds f o b n (with_rule r (step_at f n)) e earlier)
        | inr p ↦ earlier k p
      ]

  -- a judgement that holds along paths is true as document 01 says it
  judged : (j x y : ℕ) → HoldsAs f j x y → Judged f j x y
  judged zero x y h = dead f.task b (in_set f x) h
  judged (suc zero) x y h = (within f x y).1 h
  judged (suc (suc zero)) x y h = (within_actions f x y).1 h
  judged (suc (suc (suc j))) x y h = safe_unsolvable f.task (unsolvable f.task b h)

pub true_before : (bytes : List ℕ) (f : File) → read_file bytes ≡ found f → (n : ℕ) → Passed f n → TrueBefore f n
true_before bytes f r n h k l =
    let w = file_read bytes f r in
    let o = ordered bytes f w in
    let b = fits_bounded f.task w.task in
    judged f o b (step_at f k).kind (step_at f k).left (step_at f k).right (hold_before f o b n h k l)

-- ---- what a check's result tells of the steps

-- where `good n` says something of the steps before step n
abbrev pub Told : File → (ℕ → Type 0) → Result (Unit {0}) → Type 0
Told f good (found u) = good (length f.steps) × ((step_at f (length f.steps - 1)).kind ≡ 3)
Told f good (refuse r p) = ((r ≡ 12) × good (length f.steps)) ⊎ ((8 ≤ r) × (r ≤ 11) × (p < length f.steps) × good p)

module _ (f : File) where
  abbrev count : ℕ
  count = length f.steps

  last_told : (x : Result (Unit {0})) → check_last f ≡ x → Pass f 0 count → Told f (Pass f 0) x
  last_told (found u) e h = (h, eqb→eq (step_at f (count - 1)).kind 3 (need_out (eqb (step_at f (count - 1)).kind 3) 12 (count - 1) u e))
  last_told (refuse r p) e h =
      inl (number_of {ok = λ r p. r ≡ 12} (forget (need_ok (eqb (step_at f (count - 1)).kind 3) 12 (count - 1) refl)) e, h)

  all : check_steps f 0 f.steps ≡ check_some f 0 count
  all = let z : count - 0 ≡ count = omega arith in sym (all_left f 0) ∙ ap (check_some f 0) z

  pub check_told : Told f (Pass f 0) (check_file f)
  unfolding check_file check_from
  check_told = go (check_some f 0 count) refl
    where
      go : (x : Result (Unit {0})) → check_some f 0 count ≡ x → Told f (Pass f 0) (check_file f)
      go (found u) e =
          subst (Told f (Pass f 0)) (sym (bind_found (λ _. check_last f) (all ∙ e)))
          (last_told (check_last f) refl (λ k low high. each_passes f count 0 (omega arith) e k low (omega arith)))
      go (refuse r p) e =
          let h = first_failing f count 0 r p (omega arith) e in
          subst (Told f (Pass f 0)) (sym (bind_refused (λ _. check_last f) (all ∙ e)))
          (inr (h.number.0, h.number.1, (let l = h.place.1 in omega arith), h.passed))

-- the same of a better property, and of a file with as many steps that say the same
pub told_as : (f g : File) {good better : ℕ → Type 0} → length g.steps ≡ length f.steps
    → ((k : ℕ) → (step_at g k).kind ≡ (step_at f k).kind) → ((n : ℕ) → n ≤ length f.steps → good n → better n)
    → (x : Result (Unit {0})) → Told g good x → Told f better x
told_as f g {good} c k h (found u) t =
    (h (length f.steps) (omega arith) (subst good c t.0), ap (λ (n : ℕ). (step_at f (n - 1)).kind) (sym c) ∙ sym (k _) ∙ t.1)
told_as f g {good} c k h (refuse r p) (inl t) = inl (t.0, h (length f.steps) (omega arith) (subst good c t.1))
told_as f g c k h (refuse r p) (inr t) =
    let l : p < length f.steps = (let m = t.2 in omega arith) in inr (t.0, t.1, l, h p (omega arith) t.3)

-- ---- the reply

-- a refusal of another number says nothing
pub no_judgement : (bytes : List ℕ) (r p : ℕ) → (8 ≤ r → r ≤ 12 → ⊥) → JudgedBy bytes (Refused r p)
no_judgement bytes r p h = (
  (λ e. let z : ◌≡◌ {A = ℕ} 0 1 = cc in absurd (omega arith)),
  (λ q e. let z : r ≡ 12 = cc in absurd (h (omega arith) (omega arith))),
  (λ n q low high e. let z : r ≡ n = cc in absurd (h (omega arith) (omega arith))),
)

module _ (bytes : List ℕ) (f : File) (read : read_file bytes ≡ found f) where
  judged_by : (x : Result (Unit {0})) → Told f (Passed f) x → JudgedBy bytes (reply_to x)
  unfolding reply_to
  judged_by (found u) t = (
    (λ e. (f, read, true_before bytes f read (length f.steps) t.0)),
    (λ p e. let z : ◌≡◌ {A = ℕ} 0 1 = cc in absurd (omega arith)),
    (λ r p low high e. let z : ◌≡◌ {A = ℕ} 0 1 = cc in absurd (omega arith)),
  )
  judged_by (refuse r p) (inl t) = (
    (λ e. let z : ◌≡◌ {A = ℕ} 0 1 = cc in absurd (omega arith)),
    (λ q e. (f, read, true_before bytes f read (length f.steps) t.1)),
    (λ n q low high e. let z : r ≡ n = cc in let c = t.0 in absurd (omega arith)),
  )
  judged_by (refuse r p) (inr t) = (
    (λ e. let z : ◌≡◌ {A = ℕ} 0 1 = cc in absurd (omega arith)),
    (λ q e. let z : r ≡ 12 = cc in let l = t.1 in absurd (omega arith)),
    (λ n q low high e.
        let z : p ≡ q = cc in
        subst (λ (x : ℕ). TrueUpTo bytes x) z (f, read, t.2, true_before bytes f read p t.3)),
  )

  -- the last judgement of an accepted file is "unsolvable"
  safe_by : (x : Result (Unit {0})) → Told f (Passed f) x → x ≡ found tt → Safe f.task
  safe_by (refuse r p) t e = no_found r p tt e
  safe_by (found u) t e =
      let n : ℕ = length f.steps - 1 in
      let some = (file_read bytes f read).some_steps in
      unsolvable_safe f.task
      (subst (λ (j : ℕ). Judged f j (step_at f n).left (step_at f n).right) t.1
      (true_before bytes f read (length f.steps) t.0 n (omega arith)))

-- ---- of bytes, and a check that tells of the steps of the file that they are

module _ (bytes : List ℕ) (check : File → Result (Unit {0})) (told : (f : File) → Told f (Passed f) (check f)) where
  pub reply_judged : JudgedBy bytes (reply_to (read_file bytes >>= check))
  unfolding reply_to
  reply_judged = go (read_file bytes) refl
    where
      go : (x : Result File) → read_file bytes ≡ x → JudgedBy bytes (reply_to (read_file bytes >>= check))
      go (refuse r p) e =
          subst (λ (x : Result (Unit {0})). JudgedBy bytes (reply_to x)) (sym (bind_refused check e))
          (no_judgement bytes r p (λ low high.
          elim (number_of (read_number bytes) e) [ inl h ↦ omega (arith, h.1) | inr h ↦ omega arith ]))
      go (found f) e =
          subst (λ (x : Result (Unit {0})). JudgedBy bytes (reply_to x)) (sym (bind_found check e)) (judged_by bytes f e (check f) (told f))

  pub reply_safe : reply_to (read_file bytes >>= check) ≡ Accepted → (f : File) × (read_file bytes ≡ found f) × Safe f.task
  reply_safe e =
      let (f, read, c) = bind_out (read_file bytes) check tt (accepted_out (read_file bytes >>= check) e) in
      (f, read, safe_by bytes f read (check f) (told f) c)

-- ---- the plain check

pub own_passed : (f : File) (n : ℕ) → Pass f 0 n → Passed f n
own_passed f n h k l = ((step_at f k).rule, h k (omega arith) l)

told : (f : File) → Told f (Passed f) (check_file f)
told f = told_as f f refl (λ k. refl) (λ n _. own_passed f n) (check_file f) (check_told f)

-- the last step of a file that passes is "unsolvable", and it holds
pub file_safe : (f : File) → Ordered f → Bounded f.task → 0 < length f.steps → check_file f ≡ found tt → Safe f.task
file_safe f o b p e =
    let n : ℕ = length f.steps - 1 in
    let t : Told f (Passed f) (found tt) = subst (Told f (Passed f)) e (told f) in
    unsolvable f.task b
    (subst (λ (j : ℕ). HoldsAs f j (step_at f n).left (step_at f n).right) t.1
    (hold_before f o b (length f.steps) t.0 n (omega arith)))

pub judgements_true : JudgementsTrue
judgements_true bytes f r e =
    true_before bytes f r (length f.steps)
    (own_passed f (length f.steps)
    (λ k low high. each_passes f (length f.steps) 0 (omega arith) (sym (all f) ∙ e) k low (omega arith)))

pub reply_judges : ReplyJudges
unfolding reply_of
reply_judges bytes = reply_judged bytes check_file told

pub accepted_is_safe : AcceptedIsSafe
unfolding reply_of
accepted_is_safe bytes = reply_safe bytes check_file told

-- ---- a step that is refused with 11

pub refused_is_untrue : RefusedIsUntrue
unfolding reply_of check_file check_from
refused_is_untrue bytes p e =
    elim (bind_fails (read_file bytes) check_file 11 p (reply_refused _ 11 p e)) [
      | inl q ↦ absurd (elim (number_of (read_number bytes) q) [ inl h ↦ omega (arith, h.1) | inr h ↦ omega arith ])
      | inr (f, read, q) ↦ elim (bind_fails (check_steps f 0 f.steps) (λ _. check_last f) 11 p q) [
        | inl m ↦ (f, read, untrue f p (step_at f p) p (first_failing f (count f) 0 11 p (omega arith) (sym (all f) ∙ m)).refused)
        | inr m ↦ absurd (let z = (need_fails _ 12 _ 11 p m.2).1 in omega arith)
      ]
    ]

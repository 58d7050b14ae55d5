-- The field of the unknown facts: it is there or not, as the version says. All that the proofs know of it.
-- Assumes nothing.
use mathlib.Core.Path.{◌≡◌, refl, sym, subst}
use mathlib.Core.Logic.{inl, inr}
use Prim.Native.Nat.{ℕ, ◌^◌, ◌<◌}
use native.Mathlib.Omega.{arith}
use native.Mathlib.Decide.{dec_lt}
use mathlib.Core.Bool.{true, false, ◌&&◌, true≢false}
use mathlib.Core.List.{List, [], ◌++◌}
use lib.Bits.{bit_and, and_zero_r}
use lib.Pow.{pow_pos}
use lib.Dec.{T, leb, eqb, eqb→eq, leb→le}
use Rattle.task.specs.Task.{Task}
use Rattle.task.proofs.Tests.{same}
use Rattle.meaning.specs.Result.{found}
use Rattle.meaning.specs.Bytes.{bytes_of, AreBytes}
use Rattle.meaning.specs.Layout.{mask, goal_at, unknown_mask}
use Rattle.meaning.specs.Writing.{write_unknown, FitsTask, FitsVersion, NoneOff}
use Rattle.meaning.proofs.Results.{found_same, bind_case, bind_in, need_case, need_in, and_out}
use Rattle.meaning.proofs.Places.{by_test, goal_first, goal_later}
use Rattle.meaning.proofs.Given.{mask_gives}
use Rattle.meaning.proofs.Suffix.{At, after_number}
use Rattle.meaning.proofs.Back.{mask_back}
use Rattle.meaning.proofs.Again.{Spans, spans_none, mask_again}

-- what is read of it: none in version 1; else a mask, with no fact of the start s
pub data Unknown (bytes : List ℕ) (v n s u : ℕ) : Type 0 where
  none : eqb v 1 ≡ true → u ≡ 0 → Unknown bytes v n s u
  some : eqb v 1 ≡ false → mask bytes n 14 ≡ found u → bit_and s u ≡ 0 → Unknown bytes v n s u

module _ (bytes : List ℕ) (v n s : ℕ) where
  pub unknown_out : (u : ℕ) → unknown_mask bytes v n s ≡ found u → Unknown bytes v n s u
  unfolding unknown_mask
  unknown_out u e =
      by_test (eqb v 1)
      (λ t. none t (sym (found_same (rw (unknown_mask, t) at e))))
      (λ t.
      bind_case (mask bytes n 14) _ u (rw (unknown_mask, t) at e) λ x x! e₁.
      need_case (eqb (bit_and s x) 0) 16 14 _ u e₁ λ h q.
      let i : x ≡ u = found_same q in
      some t (rw (← i) x!) (rw (← i) (eqb→eq (bit_and s x) 0 h)))

  pub unknown_in : {u : ℕ} → Unknown bytes v n s u → unknown_mask bytes v n s ≡ found u
  unfolding unknown_mask
  unknown_in (none e z) = rw (unknown_mask, e, z) refl
  unknown_in (some e u! a) = rw (unknown_mask, e) (bind_in _ u! (bind_in _ (need_in _ 16 14 (same a)) refl))

  -- it fits the format
  pub unknown_fits : {u : ℕ} → Unknown bytes v n s u → (u < 2 ^ n) × (bit_and s u ≡ 0)
  unknown_fits (none e z) = rw z (omega (arith, pow_pos n), and_zero_r s)
  unknown_fits (some e u! a) = (mask_gives bytes n 14 _ u!, a)

-- ---- where it is written

written_none : (v : ℕ) (t : Task) → eqb v 1 ≡ true → write_unknown v t ≡ []
unfolding write_unknown
written_none v t e = rw (write_unknown, e) refl

written_some : (v : ℕ) (t : Task) → eqb v 1 ≡ false → write_unknown v t ≡ bytes_of 8 t.unknown
unfolding write_unknown
written_some v t e = rw (write_unknown, e) refl

-- the version is 1, 2 or 3, and version 1 has no unknown facts
pub version_known : (v : ℕ) (t : Task) → FitsVersion v t → T (leb 1 v && leb v 3)
version_known v t (inl h) = rw h.0 tt
version_known v t (inr (inl h)) = rw h.0 tt
version_known v t (inr (inr h)) = rw h tt

start_known : (v : ℕ) (t : Task) → FitsVersion v t → eqb v 1 ≡ true → t.unknown ≡ 0
start_known v t (inl h) e = h.1
start_known v t (inr (inl h)) e = absurd (true≢false (sym (rw h.0 at e)))
start_known v t (inr (inr h)) e = absurd (true≢false (sym (rw h at e)))

-- neither 1 nor 3
second : (v : ℕ) → T (leb 1 v && leb v 3) → eqb v 1 ≡ false → eqb v 3 ≡ false → v ≡ 2
second v k e f =
    let b = and_out (leb 1 v) (leb v 3) k in
    elim (dec_lt v 2) [
      | yes l ↦ absurd (subst T e (same {m = v} {n = 1} (omega (arith, leb→le 1 v b.0))))
      | no l ↦ elim (dec_lt v 3) [
        | yes m ↦ omega arith
        | no m ↦ absurd (subst T f (same {m = v} {n = 3} (omega (arith, leb→le v 3 b.1))))
      ]
    ]

pub version_fits : (bytes : List ℕ) (v n s : ℕ) (t : Task) → T (leb 1 v && leb v 3) → Unknown bytes v n s t.unknown
    → (eqb v 3 ≡ false → NoneOff t) → FitsVersion v t
version_fits bytes v n s t k (none e z) h =
    let i : v ≡ 1 = eqb→eq v 1 (subst T (sym e) tt) in inl (i, z, h (rw i refl))
version_fits bytes v n s t k (some e u! a) h =
    by_test (eqb v 3) (λ i. inr (inr (eqb→eq v 3 (subst T (sym i) tt)))) (λ i. inr (inl (second v k e i, h i)))

-- written, it is read, and the goal's mask stands behind it
pub unknown_back : (b rest : List ℕ) (v : ℕ) (t : Task) → FitsTask t → FitsVersion v t → At b 14 (write_unknown v t ++ rest)
    → (unknown_mask b v t.facts t.init ≡ found t.unknown) × At b (goal_at v) rest
unknown_back b rest v t f h w =
    by_test (eqb v 1)
    (λ e.
    let a : At b 14 rest = subst (λ (x : List ℕ). At b 14 (x ++ rest)) (written_none v t e) w in
    (unknown_in b v t.facts t.init (none e (start_known v t h e)), rw (goal_first v e) a))
    (λ e.
    let a : At b 14 (bytes_of 8 t.unknown ++ rest) = subst (λ (x : List ℕ). At b 14 (x ++ rest)) (written_some v t e) w in
    let m = mask_back b t.facts f.few_facts t.unknown f.unknown 14 rest a in (
      unknown_in b v t.facts t.init (some e m f.apart),
      rw (goal_later v e) (after_number b 14 8 t.unknown rest a 22 refl),
    ))

-- what was read is what stands there
pub unknown_again : (bytes : List ℕ) → AreBytes bytes → (v n s : ℕ) (t : Task) → Unknown bytes v n s t.unknown
    → Spans bytes 14 (goal_at v) (write_unknown v t)
unknown_again bytes h v n s t (none e z) = rw (written_none v t e, goal_first v e) (spans_none 14 14 refl)
unknown_again bytes h v n s t (some e u! a) = rw (written_some v t e, goal_later v e) (mask_again bytes h n 14 22 refl t.unknown u!)

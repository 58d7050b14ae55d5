-- Marks in words: a fact of a mask is a mark in a word.
-- Assumes nothing.
use mathlib.Core.Path.{◌≡◌, refl, sym, ap, ap₂, ◌∙◌, subst}
use Prim.Native.Nat.{ℕ, zero, suc, ◌+◌, ◌*◌, ◌/◌, ◌%◌, ◌^◌, ◌≤◌, ◌<◌, max}
use native.Mathlib.Nat.{pow-suc, mod-eq_of_lt, one-mul}
use native.Mathlib.Omega.{arith}
use native.Mathlib.Decide.{ℕ_discrete, dec_lt}
use mathlib.Core.Bool.{Bool, false, not, ◌||◌, or-false}
use mathlib.Core.List.{List, [], ◌∷◌}
use lib.ListN.{length, get_or, set}
use lib.Seq.{get_or-set_same, get_or-set_other}
use lib.Bits.{bit_or}
use lib.Pow.{pow-lt}
use lib.Dec.{T, eqb, eqb_refl, eqb→eq}
use borrow.Author.Tests.{eq-eqb, ne_eqb}
use Rattle.task.proofs.Tests.{both_ways, and_left, and_right, and_both, or_left, implied}
use Rattle.task.proofs.Bits.{same_bits, bit_le, bit_or_lem, bit_zero, bit_suc, bit_none, bit_high}
use Rattle.meaning.specs.Sets.{all_below}
use Rattle.task.specs.Inner.{bit, has}
use Rattle.std.specs.List.{list_all, zip}
use Rattle.std.proofs.lemmas.Slice.Zip.{length-zip, get_or-zip}
use Rattle.actions.specs.Marks.{marked, Marks}
use Rattle.meaning.proofs.Below.{all_at, all_of}
use Rattle.meaning.proofs.Sets.{implies_of}

-- ---- one word

has_bit : (m i : ℕ) → has m i ≡ eqb (bit i m) 1
unfolding has bit
has_bit m i = refl

pub has_or : (a b k : ℕ) → has (bit_or a b) k ≡ (has a k || has b k)
has_or a b k =
    has_bit (bit_or a b) k ∙ ap (λ (x : ℕ). eqb x 1) (bit_or_lem k a b) ∙ digits (bit k a) (bit k b) (bit_le k a) (bit_le k b)
    ∙ ap₂ ◌||◌ (sym (has_bit a k)) (sym (has_bit b k))
  where
    digits : (x y : ℕ) → x ≤ 1 → y ≤ 1 → eqb (max x y) 1 ≡ (eqb x 1 || eqb y 1)
    digits zero zero h l = refl
    digits zero (suc zero) h l = refl
    digits (suc zero) zero h l = refl
    digits (suc zero) (suc zero) h l = refl
    digits zero (suc (suc y)) h l = absurd (omega arith)
    digits (suc zero) (suc (suc y)) h l = absurd (omega arith)
    digits (suc (suc x)) y h l = absurd (omega arith)

pub has_none : (k : ℕ) → has 0 k ≡ false
has_none k = has_bit 0 k ∙ ap (λ (x : ℕ). eqb x 1) (bit_none k)

eqb_suc : (x y : ℕ) → eqb (suc x) (suc y) ≡ eqb x y
eqb_suc x y =
    elim (ℕ_discrete x y) [
      | yes q ↦ eq-eqb (suc x) (suc y) (ap suc q) ∙ sym (eq-eqb x y q)
      | no q ↦ ne_eqb (suc x) (suc y) (λ z. q (omega arith)) ∙ sym (ne_eqb x y q)
    ]

-- the mark of k is that of k alone
bit_pow : (m k : ℕ) → eqb (bit m (2 ^ k)) 1 ≡ eqb m k
bit_pow zero zero = ap (λ (x : ℕ). eqb x 1) (bit_zero (2 ^ 0))
bit_pow zero (suc k) =
    let e : bit 0 (2 ^ suc k) ≡ 0 = bit_zero (2 ^ suc k) ∙ omega (arith, pow-suc 2 k) in
    ap (λ (x : ℕ). eqb x 1) e ∙ sym (ne_eqb 0 (suc k) (λ z. omega arith))
bit_pow (suc m) zero =
    let e : bit (suc m) (2 ^ 0) ≡ 0 = bit_suc m (2 ^ 0) ∙ bit_none m in
    ap (λ (x : ℕ). eqb x 1) e ∙ sym (ne_eqb (suc m) 0 (λ z. omega arith))
bit_pow (suc m) (suc k) =
    let e : 2 ^ suc k / 2 ≡ 2 ^ k = omega (arith, pow-suc 2 k) in
    ap (λ (x : ℕ). eqb x 1) (bit_suc m (2 ^ suc k) ∙ ap (bit m) e) ∙ bit_pow m k ∙ sym (eqb_suc m k)

pub has_pow : (m k : ℕ) → has (2 ^ k) m ≡ eqb m k
has_pow m k = has_bit (2 ^ k) m ∙ bit_pow m k

-- ---- four words

pub mark_fits : (k : ℕ) → 1 * 2 ^ (k % 64) % 2 ^ 64 ≡ 2 ^ (k % 64)
mark_fits k = ap (λ (x : ℕ). x % 2 ^ 64) (one-mul (2 ^ (k % 64))) ∙ mod-eq_of_lt (let h : k % 64 < 64 = omega arith in pow-lt h)

abbrev pub zeros : List ℕ
zeros = 0 ∷ 0 ∷ 0 ∷ 0 ∷ []

none : (j : ℕ) → get_or zeros j 0 ≡ 0
none zero = refl
none (suc zero) = refl
none (suc (suc zero)) = refl
none (suc (suc (suc zero))) = refl
none (suc (suc (suc (suc j)))) = refl

pub more_marked : (words : List ℕ) (i w : ℕ) → length words ≡ 4 → i < 256 → w ≡ 2 ^ (i % 64)
    → Marks (set words (i / 64) (bit_or (get_or words (i / 64) 0) w)) (λ j. marked words j || eqb j i)
unfolding marked
more_marked words i w n h e j l =
    let u : ℕ = bit_or (get_or words (i / 64) 0) w in
    elim (ℕ_discrete (j / 64) (i / 64)) [
      | yes q ↦ rw (q, get_or-set_same words (i / 64) u 0 (omega arith), has_or, e)
          (ap (λ (b : Bool). has (get_or words (i / 64) 0) (j % 64) || b) (has_pow (j % 64) (i % 64) ∙ by_rest q))
      | no q ↦ rw (get_or-set_other words (i / 64) (j / 64) u 0 q, ne_eqb j i (λ z. q (ap (λ (x : ℕ). x / 64) z))) (sym (or-false _))
    ]
  where
    by_rest : j / 64 ≡ i / 64 → eqb (j % 64) (i % 64) ≡ eqb j i
    by_rest q =
        elim (ℕ_discrete j i) [
          | yes z ↦ eq-eqb (j % 64) (i % 64) (ap (λ (x : ℕ). x % 64) z) ∙ sym (eq-eqb j i z)
          | no z ↦ ne_eqb (j % 64) (i % 64) (λ r. z (omega arith)) ∙ sym (ne_eqb j i z)
        ]

-- a list of four, word by word
four : (P : ℕ → Type 0) → P 0 → P 1 → P 2 → P 3 → (k : ℕ) → k < 4 → P k
four P a b c d zero h = a
four P a b c d (suc zero) h = b
four P a b c d (suc (suc zero)) h = c
four P a b c d (suc (suc (suc zero))) h = d
four P a b c d (suc (suc (suc (suc k)))) h = absurd (omega arith)

pub united_marks : (a b words : List ℕ) → ((k : ℕ) → k < 4 → get_or words k 0 ≡ bit_or (get_or a k 0) (get_or b k 0))
    → Marks words (λ i. marked a i || marked b i)
unfolding marked
united_marks a b words h i l = rw (h (i / 64) (omega arith)) (has_or _ _ (i % 64))

-- ---- marked in one and in the other

-- every fact of a is one of b
within_has : (a b : ℕ) → T (eqb (bit_or a b) b) → (k : ℕ) → T (has a k) → T (has b k)
within_has a b t k h =
    subst T (sym (has_or a b k) ∙ ap (λ (x : ℕ). has x k) (eqb→eq (bit_or a b) b t)) (or_left (has a k) (has b k) h)

has_within : (a b : ℕ) → a < 2 ^ 64 → ((k : ℕ) → k < 64 → T (has a k) → T (has b k)) → T (eqb (bit_or a b) b)
has_within a b l h =
    let same : bit_or a b ≡ b =
    same_bits (bit_or a b) b (λ k. bit_or_lem k a b ∙ digit (bit k a) (bit k b) (bit_le k a) (bit_le k b) (λ e. on k e)) in
    subst (λ (x : ℕ). T (eqb x b)) (sym same) (eqb_refl b)
  where
    digit : (x y : ℕ) → x ≤ 1 → y ≤ 1 → (x ≡ 1 → y ≡ 1) → max x y ≡ y
    digit zero y l m f = omega arith
    digit (suc zero) y l m f = let e = f refl in omega arith
    digit (suc (suc x)) y l m f = absurd (omega arith)

    on : (k : ℕ) → bit k a ≡ 1 → bit k b ≡ 1
    on k e =
        elim (dec_lt k 64) [
          | yes s ↦ (
              let t : T (has a k) = subst T (sym (has_bit a k)) (subst (λ (x : ℕ). T (eqb x 1)) (sym e) tt) in
              eqb→eq (bit k b) 1 (subst T (has_bit b k) (h k s t)))
          | no s ↦ absurd (let z = bit_high 64 k a l (omega arith) in omega arith)
        ]

pub within_words : (a b : ℕ) → a < 2 ^ 64 → eqb (bit_or a b) b ≡ all_below 64 (λ k. not (has a k) || has b k)
within_words a b l =
    both_ways _ _
    (λ t. all_of 64 _ (λ k s. implies_of (has a k) (has b k) (within_has a b t k)))
    (λ t. has_within a b l (λ k s. implied (has a k) (has b k) (all_at 64 _ t k s)))

-- 256 marks are four times 64: word by word, the words of two lists
all_here : (p : ℕ × ℕ → Bool) (xs : List (ℕ × ℕ)) → T (list_all p xs) → (k : ℕ) → k < length xs → T (p (get_or xs k (0, 0)))
all_here p [] h k l = absurd (omega arith)
all_here p (x ∷ xs) h zero l = and_left (p x) (list_all p xs) h
all_here p (x ∷ xs) h (suc k) l = all_here p xs (and_right (p x) (list_all p xs) h) k (omega arith)

all_there : (p : ℕ × ℕ → Bool) (xs : List (ℕ × ℕ)) → ((k : ℕ) → k < length xs → T (p (get_or xs k (0, 0)))) → T (list_all p xs)
all_there p [] h = tt
all_there p (x ∷ xs) h = and_both (p x) (list_all p xs) (h 0 (omega arith)) (all_there p xs (λ k l. h (suc k) (omega arith)))

pub all_words : (t : ℕ → ℕ → ℕ → Bool) (a b : List ℕ) → length a ≡ 4 → length b ≡ 4
    → list_all (λ p. all_below 64 (t p.0 p.1)) (zip a b) ≡ all_below 256 (λ i. t (get_or a (i / 64) 0) (get_or b (i / 64) 0) (i % 64))
all_words t a b m n =
    let four : length (zip a b) ≡ 4 = omega (arith, length-zip a b) in
    both_ways _ _
    (λ h. all_of 256 _ (λ i l. all_at 64 _ (rw (here (i / 64) (omega arith)) at (all_here _ (zip a b) h (i / 64) (omega arith))) (i % 64) (omega arith)))
    (λ h. all_there _ (zip a b) (λ k l. rw (here k (omega arith)) (all_of 64 _ (part h k (omega arith)))))
  where
    here : (k : ℕ) → k < 4 → get_or (zip a b) k (0, 0) ≡ (get_or a k 0, get_or b k 0)
    here k l = get_or-zip a b k (0, 0) (omega arith) (omega arith)

    part : T (all_below 256 (λ i. t (get_or a (i / 64) 0) (get_or b (i / 64) 0) (i % 64))) → (k : ℕ) → k < 4 → (j : ℕ) → j < 64
        → T (t (get_or a k 0) (get_or b k 0) j)
    part h k l j z =
        let d : (64 * k + j) / 64 ≡ k = omega arith in
        let r : (64 * k + j) % 64 ≡ j = omega arith in
        rw (d, r) at (all_at 256 _ h (64 * k + j) (omega arith))

pub no_marks : (j : ℕ) → marked zeros j ≡ false
unfolding marked
no_marks j = rw (none (j / 64)) (has_none (j % 64))

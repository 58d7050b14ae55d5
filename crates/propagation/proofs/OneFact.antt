-- Masks with one fact or two: the mask of one fact, the test of x & (x - 1), and how many facts a mask has.
-- Assumes nothing.
use Prim.Native.Nat.{ℕ, zero, suc, ◌-◌, ◌*◌, ◌/◌, ◌%◌, ◌^◌, ◌<◌}
use mathlib.Core.Path.{◌≡◌, refl, sym, ap, ◌∙◌}
use native.Mathlib.Omega.{arith}
use native.Mathlib.Decide.{dec_lt}
use native.Mathlib.Nat.{pow-suc, pos_of_ne-zero}
use lib.Arith.{bin_ind}
use lib.Bits.{bit_and, and_step, and_self}
use Rattle.task.specs.Facts.{without, ones_in}
use Rattle.task.specs.Inner.{bit}
use Rattle.task.proofs.Bits.{bit_le, bit_none, bit_zero, bit_suc, bit_without, some_bit, same_bits}

-- a fact of an empty mask is off, and a mask that is not 0 has a fact
pub off_in_lem : {m : ℕ} → m ≡ 0 → (f : ℕ) → bit f m ≡ 0
off_in_lem e f = ap (bit f) e ∙ bit_none f

pub on_in : (m : ℕ) → (m ≡ 0 → ⊥) → (f : ℕ) × (bit f m ≡ 1)
on_in m h = some_bit m (pos_of_ne-zero h)

-- ---- the mask of one fact

pub bit_same : (f : ℕ) → bit f (2 ^ f) ≡ 1
bit_same zero = bit_zero (2 ^ 0)
bit_same (suc f) =
    let e : 2 ^ suc f / 2 ≡ 2 ^ f = omega (arith, pow-suc 2 f) in
    bit_suc f (2 ^ suc f) ∙ ap (bit f) e ∙ bit_same f

pub bit_only : (f i : ℕ) → bit f (2 ^ i) ≡ 1 → f ≡ i
bit_only zero zero e = refl
bit_only zero (suc i) e = absurd (omega (arith, bit_zero (2 ^ suc i), pow-suc 2 i))
bit_only (suc f) zero e =
    let z : 2 ^ 0 / 2 ≡ 0 = refl in
    absurd (omega (arith, bit_suc f (2 ^ 0), off_in_lem z f))
bit_only (suc f) (suc i) e =
    let z : 2 ^ suc i / 2 ≡ 2 ^ i = omega (arith, pow-suc 2 i) in
    ap suc (bit_only f i (sym (bit_suc f (2 ^ suc i) ∙ ap (bit f) z) ∙ e))

pub bit_other : (f i : ℕ) → (f ≡ i → ⊥) → bit f (2 ^ i) ≡ 0
bit_other f i h =
    elim (dec_lt (bit f (2 ^ i)) 1) [ yes l ↦ omega arith | no l ↦ absurd (h (bit_only f i (omega (arith, bit_le f (2 ^ i))))) ]

-- without the facts of m: the fact is left where m lacks it, and no other
pub bit_left : (i m : ℕ) → bit i m ≡ 0 → bit i (without (2 ^ i) m) ≡ 1
bit_left i m z = omega (arith, bit_without i (2 ^ i) m, bit_same i)

pub only_left : (f i m : ℕ) → bit f (without (2 ^ i) m) ≡ 1 → (f ≡ i) × (bit f m ≡ 0)
only_left f i m e =
    let w = sym (bit_without f (2 ^ i) m) ∙ e in (
      bit_only f i (omega (arith, w, bit_le f (2 ^ i))),
      omega (arith, w),
    )

-- ---- x & (x - 1) is 0: x has one fact at most

odd_one : (n : ℕ) → n % 2 ≡ 1 → bit_and n (n - 1) ≡ 0 → n / 2 ≡ 0
odd_one n o e =
    let s : (n - 1) / 2 ≡ n / 2 = omega arith in
    let r : bit_and (n / 2) ((n - 1) / 2) ≡ n / 2 = ap (bit_and (n / 2)) s ∙ and_self (n / 2) in
    omega (arith, and_step n (n - 1))

even_half : (n : ℕ) → 0 < n → n % 2 ≡ 0 → bit_and n (n - 1) ≡ bit_and (n / 2) (n / 2 - 1) * 2
even_half n h o =
    let s : n / 2 - 1 ≡ (n - 1) / 2 = omega arith in
    and_step n (n - 1) ∙ rw s (omega arith)

One : ℕ → Type 0
One n = 0 < n → bit_and n (n - 1) ≡ 0 → (f g : ℕ) → bit f n ≡ 1 → bit g n ≡ 1 → f ≡ g

low_alone : (n : ℕ) → bit_and n (n - 1) ≡ 0 → (g : ℕ) → n % 2 ≡ 1 → bit (suc g) n ≡ 1 → ⊥
low_alone n e g p q = omega (arith, bit_suc g n, off_in_lem (odd_one n p e) g)

one_step : (n : ℕ) → One (n / 2) → One n
unfolding One
one_step n ih h e zero zero p q = refl
one_step n ih h e zero (suc g) p q = absurd (low_alone n e g (omega (arith, bit_zero n)) q)
one_step n ih h e (suc f) zero p q = absurd (low_alone n e f (omega (arith, bit_zero n)) p)
one_step n ih h e (suc f) (suc g) p q =
    let o : n % 2 ≡ 0 = elim (dec_lt (n % 2) 1) [ yes l ↦ omega arith | no l ↦ absurd (low_alone n e f (omega arith) p) ] in
    ap suc (ih (omega arith) (omega (arith, even_half n h o)) f g (sym (bit_suc f n) ∙ p) (sym (bit_suc g n) ∙ q))

pub one_bit : (x : ℕ) → 0 < x → bit_and x (x - 1) ≡ 0 → (f g : ℕ) → bit f x ≡ 1 → bit g x ≡ 1 → f ≡ g
unfolding One
one_bit = bin_ind One (λ h. absurd (omega arith)) one_step

-- ---- x & (x - 1) is not 0: x has two facts

pub record Two (n : ℕ) : Type 0 where
  pub fact₁ : ℕ
  pub fact₂ : ℕ
  pub differ : fact₁ ≡ fact₂ → ⊥
  pub has₁ : bit fact₁ n ≡ 1
  pub has₂ : bit fact₂ n ≡ 1

pub two_bits : (x : ℕ) → 0 < x → (bit_and x (x - 1) ≡ 0 → ⊥) → Two x
two_bits =
    bin_ind (λ (n : ℕ). 0 < n → (bit_and n (n - 1) ≡ 0 → ⊥) → Two n) (λ h. absurd (omega arith))
    (λ n ih h e. elim (dec_lt (n % 2) 1) [
      | yes l ↦
          let o : n % 2 ≡ 0 = omega arith in
          let r = ih (omega arith) (λ z. e (omega (arith, even_half n h o))) in
          record {
            fact₁ = suc r.fact₁;
            fact₂ = suc r.fact₂;
            differ = λ q. r.differ (omega arith);
            has₁ = bit_suc r.fact₁ n ∙ r.has₁;
            has₂ = bit_suc r.fact₂ n ∙ r.has₂;
          }
      | no l ↦
          let s : (n - 1) / 2 ≡ n / 2 = omega arith in
          let k : bit_and n (n - 1) ≡ n / 2 * 2 = and_step n (n - 1) ∙ rw (s, and_self (n / 2)) (omega arith) in
          let r = on_in (n / 2) (λ z. e (omega arith)) in
          record {
            fact₁ = 0;
            fact₂ = suc r.0;
            differ = λ q. omega arith;
            has₁ = omega (arith, bit_zero n);
            has₂ = bit_suc r.0 n ∙ r.1;
          }
    ])

-- ---- how many facts a mask has

-- a fact less counts one less
pub ones_less : (k f m : ℕ) → f < k → bit f m ≡ 1 → ones_in k m ≡ suc (ones_in k (without m (2 ^ f)))
unfolding ones_in
ones_less zero f m l e = absurd (omega arith)
ones_less (suc k) zero m l e =
    let h : without m (2 ^ 0) / 2 ≡ m / 2 =
    same_bits _ _ (λ g. sym (bit_suc g (without m (2 ^ 0))) ∙ bit_without (suc g) m (2 ^ 0)
    ∙ omega (arith, bit_other (suc g) 0 (λ z. omega arith), bit_suc g m, bit_le (suc g) m)) in
    let d : without m (2 ^ 0) % 2 ≡ 0 = omega (arith, bit_zero (without m (2 ^ 0)), bit_without 0 m (2 ^ 0), bit_same 0) in
    let o : m % 2 ≡ 1 = omega (arith, bit_zero m) in
    rw (h, d, o) (omega arith)
ones_less (suc k) (suc f) m l e =
    let h : without m (2 ^ suc f) / 2 ≡ without (m / 2) (2 ^ f) =
    same_bits _ _ (λ g. sym (bit_suc g (without m (2 ^ suc f))) ∙ bit_without (suc g) m (2 ^ suc f)
    ∙ rw (bit_suc g m, bit_suc g (2 ^ suc f), half f) (sym (bit_without g (m / 2) (2 ^ f)))) in
    let d : without m (2 ^ suc f) % 2 ≡ m % 2 =
    omega (
      arith,
      bit_zero (without m (2 ^ suc f)),
      bit_without 0 m (2 ^ suc f),
      bit_other 0 (suc f) (λ z. omega arith),
      bit_zero m,
      bit_le 0 m,
    ) in
    rw (h, d, ones_less k f (m / 2) (omega arith) (sym (bit_suc f m) ∙ e)) (omega arith)
  where
    half : (f : ℕ) → 2 ^ suc f / 2 ≡ 2 ^ f
    half f = omega (arith, pow-suc 2 f)

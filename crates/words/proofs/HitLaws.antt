-- What the test of a clause against masks tells, of one clause and of several in a row.
-- Assumes nothing.
use Prim.Native.Nat.{ℕ, ◌+◌, ◌≤◌, ◌<◌, ◌^◌}
use mathlib.Core.Path.{◌≡◌, sym, ap₂, subst, ◌∙◌}
use mathlib.Core.Bool.{true, false, true≢false}
use mathlib.Core.Logic.{◌↔◌}
use native.Mathlib.Omega.{arith}
use native.Mathlib.Decide.{dec_lt}
use lib.Bits.{bit_and, bit_or, or_add_and, and_le_l, and_le_r}
use Rattle.words.specs.declared.Masks.{Masks}
use Rattle.words.specs.Words.{turned_masks, Misses}
use Rattle.turned.specs.Turned.{turned8}
use Rattle.turned.proofs.TurnLaws.{turned_clear, turned_twice}

-- two masks are empty where all their facts together are none
pub neither : (a b : ℕ) → bit_or a b ≡ 0 → (a ≡ 0) × (b ≡ 0)
neither a b e = (omega (arith, or_add_and a b, and_le_l a b, and_le_r a b), omega (arith, or_add_and a b, and_le_l a b, and_le_r a b))

-- of four in a row
pub four_zero : (M : ℕ → Type 0) (i a b c d : ℕ) → (a ≡ 0 → M i) → (b ≡ 0 → M (i + 1)) → (c ≡ 0 → M (i + 2)) → (d ≡ 0 → M (i + 3))
    → bit_or (bit_or (bit_or a b) c) d ≡ 0
    → (j : ℕ) → i ≤ j → j < i + 4 → M j
four_zero M i a b c d ha hb hc hd e j l h =
    let z = neither (bit_or (bit_or a b) c) d e in
    let y = neither (bit_or a b) c z.0 in
    let x = neither a b y.0 in
    elim (dec_lt j (i + 1)) [
      | yes p ↦ subst M (omega arith) (ha x.0)
      | no p ↦ elim (dec_lt j (i + 2)) [
        | yes q ↦ subst M (omega arith) (hb x.1)
        | no q ↦ elim (dec_lt j (i + 3)) [ yes r ↦ subst M (omega arith) (hc y.1) | no r ↦ subst M (omega arith) (hd z.1) ]
      ]
    ]

pub missed_one : (M : ℕ → Type 0) (i : ℕ) → M i → (j : ℕ) → i ≤ j → j < i + 1 → M j
missed_one M i m j l h = subst M (omega arith) m

-- up to k, and from there on
pub missed_more : {M : ℕ → Type 0} {i k n : ℕ} → ((j : ℕ) → i ≤ j → j < k → M j) → ((j : ℕ) → k ≤ j → j < n → M j) → (j : ℕ) → i ≤ j
    → j < n → M j
missed_more {M} {i} {k} {n} u v j l h = elim (dec_lt j k) [ yes p ↦ u j l p | no p ↦ v j (omega arith) h ]

-- what the bytes of a clause have in common with masks, both in the machine's order
pub hit_misses : (m : Masks) (p n : ℕ) → m.two ≡ true → p < 2 ^ 64 → n < 2 ^ 64 → m.off < 2 ^ 64 → m.on < 2 ^ 64
    → (bit_or (bit_and (turned8 p) m.off) (bit_and (turned8 n) m.on) ≡ 0)
    ↔ Misses (turned_masks m) (record { positive = p; negative = n })
unfolding turned_masks
hit_misses m p n s hp hn ho hi = (
  (λ e. let z = neither (bit_and (turned8 p) m.off) (bit_and (turned8 n) m.on) e in
      ((λ t. (turned_clear p m.off hp ho).0 z.0), (turned_clear n m.on hn hi).0 z.1)),
  (λ k. ap₂ bit_or ((turned_clear p m.off hp ho).1 (k.0 s)) ((turned_clear n m.on hn hi).1 k.1)),
)

pub hit_body : (m : Masks) (p n : ℕ) → m.two ≡ false → n < 2 ^ 64 → m.on < 2 ^ 64
    → (bit_and (turned8 n) m.on ≡ 0) ↔ Misses (turned_masks m) (record { positive = p; negative = n })
unfolding turned_masks
hit_body m p n s hn hi = (
  (λ e. ((λ t. absurd (true≢false (sym t ∙ s))), (turned_clear n m.on hn hi).0 e)),
  (λ k. (turned_clear n m.on hn hi).1 k.1),
)

-- masks turned twice are as they were
pub masks_twice : (m : Masks) → m.off < 2 ^ 64 → m.on < 2 ^ 64 → turned_masks (turned_masks m) ≡ m
unfolding turned_masks
masks_twice m ho hi = λ i. record { two = m.two; off = turned_twice m.off ho i; on = turned_twice m.on hi i }

-- What holds at each number, or at some number, below a bound.
-- Assumes nothing.
use mathlib.Core.Path.{◌≡◌, subst, sym}
use mathlib.Core.Logic.{◌⊎◌, inl, inr}
use Prim.Native.Nat.{ℕ, zero, suc, ◌<◌}
use native.Mathlib.Nat.{not-suc-le-zero, le_of_suc-le-suc, eq-or-lt_of_le, le_refl, le_trans, le-suc}
use mathlib.Core.Bool.{Bool, true, false}
use lib.Dec.{T}
use Rattle.meaning.specs.Sets.{all_below, some_below}

below_suc : {i k : ℕ} → i < suc k → (i ≡ k) ⊎ (i < k)
below_suc h = eq-or-lt_of_le (le_of_suc-le-suc h)

both : (b r : Bool) → T (elim b [ true ↦ r | false ↦ false ]) → T b × T r
both true r t = (tt, t)
both false r t = absurd t

both_of : (b r : Bool) → T b → T r → T (elim b [ true ↦ r | false ↦ false ])
both_of true r s t = t
both_of false r s t = absurd s

pub all_at : (k : ℕ) (t : ℕ → Bool) → T (all_below k t) → (i : ℕ) → i < k → T (t i)
unfolding all_below
all_at zero t a i h = absurd (not-suc-le-zero h)
all_at (suc k) t a i h =
    let w = both (t k) (all_below k t) a in
    elim (below_suc h) [ inl e ↦ subst (λ (j : ℕ). T (t j)) (sym e) w.0 | inr l ↦ all_at k t w.1 i l ]

pub all_of : (k : ℕ) (t : ℕ → Bool) → ((i : ℕ) → i < k → T (t i)) → T (all_below k t)
unfolding all_below
all_of zero t h = tt
all_of (suc k) t h = both_of (t k) (all_below k t) (h k (le_refl (suc k))) (all_of k t (λ i l. h i (le_trans l (le-suc k))))

one_of : (b r : Bool) → T (elim b [ true ↦ true | false ↦ r ]) → T b ⊎ T r
one_of true r t = inl tt
one_of false r t = inr t

of_first : (b r : Bool) → T b → T (elim b [ true ↦ true | false ↦ r ])
of_first true r t = tt
of_first false r t = absurd t

of_rest : (b r : Bool) → T r → T (elim b [ true ↦ true | false ↦ r ])
of_rest true r t = tt
of_rest false r t = t

pub some_at : (k : ℕ) (t : ℕ → Bool) → T (some_below k t) → (i : ℕ) × (i < k) × T (t i)
unfolding some_below
some_at zero t a = absurd a
some_at (suc k) t a =
    elim (one_of (t k) (some_below k t) a) [
      | inl b ↦ (k, le_refl (suc k), b)
      | inr r ↦ (let w = some_at k t r in (w.0, le_trans w.1 (le-suc k), w.2))
    ]

pub some_of : (k : ℕ) (t : ℕ → Bool) (i : ℕ) → i < k → T (t i) → T (some_below k t)
unfolding some_below
some_of zero t i h a = absurd (not-suc-le-zero h)
some_of (suc k) t i h a =
    elim (below_suc h) [
      | inl e ↦ of_first (t k) (some_below k t) (subst (λ (j : ℕ). T (t j)) e a)
      | inr l ↦ of_rest (t k) (some_below k t) (some_of k t i l a)
    ]

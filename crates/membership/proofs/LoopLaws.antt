-- Loops that stop at the first number that decides.
-- Assumes nothing.
use mathlib.Core.Path.{◌≡◌, refl, ap, subst, sym, ◌∙◌}
use Prim.Native.Nat.{ℕ, ◌+◌, ◌≤◌, ◌<◌}
use native.Mathlib.Nat.{le_antisymm}
use native.Mathlib.Numerals.{add-one}
use mathlib.Core.Bool.{Bool, true, false}
use lib.Dec.{T}
use Rattle.task.proofs.Tests.{is_true, is_false}
use Rattle.meaning.specs.Sets.{all_below, some_below}
use Rattle.meaning.proofs.Below.{all_at, some_of}

-- each number below k passes; some number does
module _ (t : ℕ → Bool) where
  pub all_none : all_below 0 t ≡ true
  unfolding all_below
  all_none = refl

  pub all_more : (i : ℕ) → all_below i t ≡ true → t i ≡ true → all_below (i + 1) t ≡ true
  unfolding all_below
  all_more i p e = rw (add-one, e, all_below) p

  pub all_fails : (k i : ℕ) → i < k → t i ≡ false → false ≡ all_below k t
  all_fails k i l e = sym (is_false (all_below k t) (λ a. subst T e (all_at k t a i l)))

  pub some_none : some_below 0 t ≡ false
  unfolding some_below
  some_none = refl

  pub some_more : (i : ℕ) → some_below i t ≡ false → t i ≡ false → some_below (i + 1) t ≡ false
  unfolding some_below
  some_more i p e = rw (add-one, e, some_below) p

  pub some_found : (k i : ℕ) → i < k → t i ≡ true → true ≡ some_below k t
  some_found k i l e = sym (is_true (some_below k t) (some_of k t i l (subst T (sym e) tt)))

  pub some_done : {k i : ℕ} → some_below i t ≡ false → i ≤ k → k ≤ i → false ≡ some_below k t
  some_done p l h = sym p ∙ ap (λ (n : ℕ). some_below n t) (le_antisymm l h)

-- Laws of tests on lists: that each element passes, and that some element does.
-- Assumes nothing.
use mathlib.Core.Path.{◌≡◌, refl, ap}
use mathlib.Core.Logic.{◌⊎◌, inl, inr}
use Prim.Native.Nat.{ℕ, zero, suc, ◌<◌}
use native.Mathlib.Nat.{not-suc-le-zero, le_of_suc-le-suc}
use native.Mathlib.Omega.{arith}
use mathlib.Core.Bool.{Bool}
use mathlib.Core.List.{List, [], ◌∷◌, ◌++◌}
use lib.ListN.{length, get_or}
use lib.Dec.{T}
use Rattle.task.specs.Reach.{every}
use Rattle.task.specs.Stricter.{any}
use Rattle.task.proofs.Tests.{and_left, and_right, and_both, or_cases, or_left, or_right}

module _ {A : Type 0} where
  pub every_place : (p : A → Bool) (d : A) (xs : List A) → T (every p xs) → (i : ℕ) → i < length xs → T (p (get_or xs i d))
  unfolding every
  every_place p d [] h i l = absurd (not-suc-le-zero l)
  every_place p d (x ∷ xs) h zero l = and_left (p x) (every p xs) h
  every_place p d (x ∷ xs) h (suc i) l = every_place p d xs (and_right (p x) (every p xs) h) i (le_of_suc-le-suc l)

  pub every_more : (p q : A → Bool) → ((x : A) → T (p x) → T (q x)) → (xs : List A) → T (every p xs) → T (every q xs)
  unfolding every
  every_more p q h [] e = tt
  every_more p q h (x ∷ xs) e =
      and_both (q x) (every q xs) (h x (and_left (p x) (every p xs) e)) (every_more p q h xs (and_right (p x) (every p xs) e))

  pub any_place : (p : A → Bool) (d : A) (xs : List A) → T (any p xs) → (i : ℕ) × (i < length xs) × T (p (get_or xs i d))
  unfolding any
  any_place p d [] h = absurd h
  any_place p d (x ∷ xs) h =
      elim (or_cases (p x) (any p xs) h) [
        | inl k ↦ (0, omega arith, k)
        | inr k ↦ (let r = any_place p d xs k in (suc r.0, (let l = r.1 in omega arith), r.2))
      ]

  pub any_more : (p q : A → Bool) → ((x : A) → T (p x) → T (q x)) → (xs : List A) → T (any p xs) → T (any q xs)
  unfolding any
  any_more p q h [] e = e
  any_more p q h (x ∷ xs) e =
      elim (or_cases (p x) (any p xs) e) [
        | inl k ↦ or_left (q x) (any q xs) (h x k)
        | inr k ↦ or_right (q x) (any q xs) (any_more p q h xs k)
      ]

  pub any_here : (p : A → Bool) (xs ys : List A) (x : A) → T (p x) → T (any p (xs ++ x ∷ ys))
  unfolding any
  any_here p [] ys x e = or_left (p x) (any p ys) e
  any_here p (v ∷ xs) ys x e = or_right (p v) (any p (xs ++ x ∷ ys)) (any_here p xs ys x e)

  -- what is in a list stays in it where an element is added, and all else is that element
  pub any_stays : (p : A → Bool) (xs ys : List A) (x : A) → T (any p (xs ++ ys)) → T (any p (xs ++ x ∷ ys))
  unfolding any
  any_stays p [] ys x e = or_right (p x) (any p ys) e
  any_stays p (v ∷ xs) ys x e =
      elim (or_cases (p v) (any p (xs ++ ys)) e) [
        | inl k ↦ or_left (p v) (any p (xs ++ x ∷ ys)) k
        | inr k ↦ or_right (p v) (any p (xs ++ x ∷ ys)) (any_stays p xs ys x k)
      ]

  pub any_added : (p : A → Bool) (xs ys : List A) (x : A) → T (any p (xs ++ x ∷ ys)) → T (p x) ⊎ T (any p (xs ++ ys))
  unfolding any
  any_added p [] ys x e = or_cases (p x) (any p ys) e
  any_added p (v ∷ xs) ys x e =
      elim (or_cases (p v) (any p (xs ++ x ∷ ys)) e) [
        | inl k ↦ inr (or_left (p v) (any p (xs ++ ys)) k)
        | inr k ↦ elim (any_added p xs ys x k) [ inl m ↦ inl m | inr m ↦ inr (or_right (p v) (any p (xs ++ ys)) m) ]
      ]

  -- the element and those around it
  pub any_split : (p : A → Bool) (xs : List A) → T (any p xs)
      → (vs : List A) × (x : A) × (ws : List A) × (xs ≡ vs ++ x ∷ ws) × T (p x)
  unfolding any
  any_split p [] e = absurd e
  any_split p (x ∷ xs) e =
      elim (or_cases (p x) (any p xs) e) [
        | inl k ↦ ([], x, xs, refl, k)
        | inr k ↦ (let r = any_split p xs k in (x ∷ r.0, r.1, r.2, ap (λ (zs : List A). x ∷ zs) r.3, r.4))
      ]

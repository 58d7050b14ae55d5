-- Tests of the elements of a list: over joined, mapped and filtered lists, and by index.
-- Assumes nothing.
use mathlib.Core.Path.{◌≡◌, refl, ap, ap₂, subst, sym, ◌∙◌}
use mathlib.Core.Logic.Iff
use mathlib.Core.Logic.{◌↔◌}
use Prim.Native.Nat.{ℕ, zero, suc, ◌<◌}
use native.Mathlib.Nat.{not-suc-le-zero, le_of_suc-le-suc}
use native.Mathlib.Omega.{arith}
use mathlib.Core.Bool.{Bool, true, false, not, ◌&&◌, ◌||◌, and_assoc, or_assoc, and-true, or-false}
use mathlib.Core.List.{List, [], ◌∷◌, ◌++◌, map}
use lib.ListN.{length, get_or}
use lib.Dec.{T}
use Rattle.task.specs.Reach.{every}
use Rattle.task.proofs.Tests.{and_left, and_right, and_both}
use Rattle.meaning.specs.Shapes.{keep}

-- some element of the list passes the test
unfoldable pub any : {A : Type 0} → (A → Bool) → List A → Bool
any t [] = false
any t (x ∷ xs) = t x || any t xs

module _ {A : Type 0} (t : A → Bool) where
  pub every_one : (x : A) → every t (x ∷ []) ≡ t x
  unfolding every
  every_one x = and-true (t x)

  pub any_one : (x : A) → any t (x ∷ []) ≡ t x
  unfolding any
  any_one x = or-false (t x)

  pub every_append : (xs ys : List A) → every t (xs ++ ys) ≡ (every t xs && every t ys)
  unfolding every
  every_append [] ys = refl
  every_append (x ∷ xs) ys = ap (λ (b : Bool). t x && b) (every_append xs ys) ∙ sym (and_assoc (t x) (every t xs) (every t ys))

  pub any_append : (xs ys : List A) → any t (xs ++ ys) ≡ (any t xs || any t ys)
  unfolding any
  any_append [] ys = refl
  any_append (x ∷ xs) ys = ap (λ (b : Bool). t x || b) (any_append xs ys) ∙ sym (or_assoc (t x) (any t xs) (any t ys))

  -- none passes: each fails
  pub not_any : (xs : List A) → every (λ x. not (t x)) xs ≡ not (any t xs)
  unfolding every any
  not_any [] = refl
  not_any (x ∷ xs) = ap (λ (b : Bool). not (t x) && b) (not_any xs) ∙ neither (t x) (any t xs)
    where
      neither : (a b : Bool) → (not a && not b) ≡ not (a || b)
      neither true b = refl
      neither false b = refl

  pub every_map : {B : Type 0} (g : B → A) (xs : List B) → every t (map g xs) ≡ every (λ x. t (g x)) xs
  unfolding every
  every_map g [] = refl
  every_map g (x ∷ xs) = ap (λ (b : Bool). t (g x) && b) (every_map g xs)

  -- by index, with any value past the end
  pub every_index : (d : A) (xs : List A) → T (every t xs) ↔ ((i : ℕ) → i < length xs → T (t (get_or xs i d)))
  unfolding every
  every_index d [] = ((λ h i l. absurd (not-suc-le-zero l)), (λ h. tt))
  every_index d (x ∷ xs) = (
    (λ h. elim [
      | zero ↦ (λ l. and_left (t x) (every t xs) h)
      | suc i ↦ (λ l. (every_index d xs).0 (and_right (t x) (every t xs) h) i (le_of_suc-le-suc l))
    ]),
    (λ h. and_both (t x) (every t xs) (h 0 (omega arith)) ((every_index d xs).1 (λ i l. h (suc i) (omega arith)))),
  )

-- ---- the elements that pass another test

swap : (a b c : Bool) → (a && (b && c)) ≡ (b && (a && c))
swap true b c = refl
swap false true c = refl
swap false false c = refl

module _ (q : ℕ → Bool) where
  -- those that pass it and those that fail it are all
  pub every_split : (t : ℕ → Bool) (xs : List ℕ) → every t xs ≡ (every t (keep q xs) && every t (keep (λ x. not (q x)) xs))
  unfolding every keep
  every_split t [] = refl
  every_split t (x ∷ xs) = ap (λ (b : Bool). t x && b) (every_split t xs) ∙ go (q x)
    where
      with_if : Bool → List ℕ → List ℕ
      with_if b ys = elim b [ true ↦ x ∷ ys | false ↦ ys ]

      go : (b : Bool)
          → (t x && (every t (keep q xs) && every t (keep (λ y. not (q y)) xs)))
          ≡ (every t (with_if b (keep q xs)) && every t (with_if (not b) (keep (λ y. not (q y)) xs)))
      go true = sym (and_assoc (t x) (every t (keep q xs)) (every t (keep (λ y. not (q y)) xs)))
      go false = swap (t x) (every t (keep q xs)) (every t (keep (λ y. not (q y)) xs))

  -- one more element: it is kept where it passes
  pub keep_cases : (P : List ℕ → Type 0) (x : ℕ) (xs : List ℕ)
      → (T (q x) → P (x ∷ keep q xs)) → (T (not (q x)) → P (keep q xs)) → P (keep q (x ∷ xs))
  unfolding keep
  keep_cases P x xs = go (q x)
    where
      go : (b : Bool) → (T b → P (x ∷ keep q xs)) → (T (not b) → P (keep q xs)) → P (elim b [ true ↦ x ∷ keep q xs | false ↦ keep q xs ])
      go true y n = y tt
      go false y n = n tt

  -- tests that agree where it passes agree on what is kept
  pub kept_same : (t u : ℕ → Bool) → ((x : ℕ) → T (q x) → t x ≡ u x) → (xs : List ℕ) → every t (keep q xs) ≡ every u (keep q xs)
  unfolding every keep
  kept_same t u h [] = refl
  kept_same t u h (x ∷ xs) =
      keep_cases (λ ys. every t ys ≡ every u ys) x xs (λ y. ap₂ ◌&&◌ (h x y) (kept_same t u h xs)) (λ _. kept_same t u h xs)

  pub kept_passes : (xs : List ℕ) → T (every q (keep q xs))
  unfolding every keep
  kept_passes [] = tt
  kept_passes (x ∷ xs) = keep_cases (λ ys. T (every q ys)) x xs (λ y. and_both (q x) _ y (kept_passes xs)) (λ _. kept_passes xs)

-- ---- a statement about lists that says no more than a test of each element

pub tests_agree : {a b : Bool} → a ≡ b → T a ↔ T b
tests_agree e = (subst T e, subst T (sym e))

module _ {A : Type 0} (t : A → Bool) (P : List A → Type 0) (law : (xs : List A) → P xs ↔ T (every t xs)) where
  pub of_append : (xs ys : List A) → P (xs ++ ys) ↔ (P xs × P ys)
  of_append xs ys = (
    (λ p. let b : T (every t xs && every t ys) = subst T (every_append t xs ys) ((law (xs ++ ys)).0 p) in
        ((law xs).1 (and_left (every t xs) (every t ys) b), (law ys).1 (and_right (every t xs) (every t ys) b))),
    (λ p. (law (xs ++ ys)).1 (subst T (sym (every_append t xs ys))
        (and_both (every t xs) (every t ys) ((law xs).0 p.0) ((law ys).0 p.1)))),
  )

  pub of_map : {B : Type 0} (g : B → A) (xs : List B) → P (map g xs) ↔ T (every (λ x. t (g x)) xs)
  of_map g xs = Iff.trans (law (map g xs)) (tests_agree (every_map t g xs))

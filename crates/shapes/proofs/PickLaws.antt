-- The leaves that the code writes are the statement's, complements moved, those of kind 0 left out on the right.
-- Assumes nothing.
use mathlib.Core.Path.{◌≡◌, refl, sym, ap, ap₂, ◌∙◌, subst}
use mathlib.Core.Logic.{inl, inr}
use Prim.Native.Nat.{ℕ}
use mathlib.Core.Bool.{Bool, true, false, not, ◌||◌, and-true}
use mathlib.Core.List.{List, [], ◌∷◌, ◌++◌, map}
use lib.Dec.{T, eqb, eqb→eq, leb}
use Rattle.task.specs.Reach.{every}
use Rattle.task.proofs.Tests.{and_left, and_right, and_both, excluded, never, not_of}
use Rattle.meaning.specs.File.{File}
use Rattle.meaning.specs.Shapes.{keep, Sides, kind_at, is_basic, is_complement}
use Rattle.counterexample.specs.Counter.{Asked, left_leaves, right_leaves}
use Rattle.shapes.specs.Gathered.{not_empty}
use Rattle.shapes.specs.Arrays.{entry_of, on_side, wants, picked}
use Rattle.shapes.specs.Arrays.{picked_outside, picked_left, picked_right}
use Rattle.counterexample.proofs.Lists.{keep_cases}
use Rattle.counterexample.proofs.Moved.{leaf, under, plain, turned}
use Rattle.shapes.proofs.LeafKinds.{outside_leaves}
use Rattle.shapes.proofs.Filled.{kind_asked, filled_cases, filled_append}

-- ---- what is kept

module _ (t : ℕ → Bool) (e : ℕ) (es : List ℕ) where
  keep_in : T (t e) → keep t (e ∷ es) ≡ e ∷ keep t es
  keep_in y = keep_cases t (λ ys. ys ≡ e ∷ keep t es) e es (λ _. refl) (λ n. absurd (never (t e) y n))

  keep_out : T (not (t e)) → keep t (e ∷ es) ≡ keep t es
  keep_out n = keep_cases t (λ ys. ys ≡ keep t es) e es (λ y. absurd (never (t e) y n)) (λ _. refl)

keep_same : (t u : ℕ → Bool) → ((e : ℕ) → t e ≡ u e) → (es : List ℕ) → keep t es ≡ keep u es
unfolding keep
keep_same t u h [] = refl
keep_same t u h (e ∷ es) = ap₂ (λ (b : Bool) (ys : List ℕ). elim b [ true ↦ e ∷ ys | false ↦ ys ]) (h e) (keep_same t u h es)

keep_all : (t : ℕ → Bool) (es : List ℕ) → T (every t es) → keep t es ≡ es
unfolding every keep
keep_all t [] a = refl
keep_all t (e ∷ es) a =
    keep_in t e es (and_left (t e) (every t es) a) ∙ ap (λ (ys : List ℕ). e ∷ ys) (keep_all t es (and_right (t e) (every t es) a))

module _ (f : File) where
  filled_in : (x : Asked) (xs : List Asked) → T (not (eqb (kind_asked f x) 0)) → not_empty f (x ∷ xs) ≡ x ∷ not_empty f xs
  filled_in x xs n = filled_cases f (λ ys. ys ≡ x ∷ not_empty f xs) x xs (λ y. absurd (never (eqb (kind_asked f x) 0) y n)) (λ _. refl)

  filled_out : (x : Asked) (xs : List Asked) → T (eqb (kind_asked f x) 0) → not_empty f (x ∷ xs) ≡ not_empty f xs
  filled_out x xs y = filled_cases f (λ ys. ys ≡ not_empty f xs) x xs (λ _. refl) (λ n. absurd (never (eqb (kind_asked f x) 0) y n))

  -- ---- leaves of any kind

  wants_side : (t : Bool) (e : ℕ) → wants f t true e ≡ on_side f t e
  unfolding wants
  wants_side t e = and-true (on_side f t e)

  picked_plain : (h : Bool) (es : List ℕ) → picked f false true h es ≡ map (leaf h) (plain f es)
  unfolding picked entry_of on_side
  picked_plain h es = ap (map (leaf h)) (keep_same (wants f false true) (on_side f false) (wants_side false) es)

  picked_turned : (h : Bool) (es : List ℕ) → picked f true true h es ≡ map (under f h) (turned f es)
  unfolding picked entry_of on_side
  picked_turned h es = ap (map (under f h)) (keep_same (wants f true true) (on_side f true) (wants_side true) es)

  -- ---- leaves of other kinds than 0

  module _ (t h : Bool) where
    abbrev asked_of : ℕ → Asked
    asked_of e = leaf h (entry_of f t e)

    abbrev is_empty : ℕ → Bool
    is_empty e = eqb (kind_at f (entry_of f t e)) 0

    -- an entry on the other side; one of kind 0; one of another kind
    away : (e : ℕ) (a : Bool) → T (not (on_side f t e)) → T (not (wants f t a e))
    unfolding wants
    away e a n = not_of (wants f t a e) (λ y. never (on_side f t e) (and_left (on_side f t e) (a || not (is_empty e)) y) n)

    any_wanted : (e : ℕ) → T (on_side f t e) → T (wants f t true e)
    unfolding wants
    any_wanted e y = and_both (on_side f t e) true y tt

    empty_unwanted : (e : ℕ) → T (is_empty e) → T (not (wants f t false e))
    unfolding wants
    empty_unwanted e u = not_of (wants f t false e) (λ w. never (is_empty e) u (and_right (on_side f t e) (not (is_empty e)) w))

    other_wanted : (e : ℕ) → T (on_side f t e) → T (not (is_empty e)) → T (wants f t false e)
    unfolding wants
    other_wanted e y n = and_both (on_side f t e) (not (is_empty e)) y n

    abbrev kept : Bool → List ℕ → List ℕ
    kept a = keep (wants f t a)

    filled_next : (e : ℕ) (es : List ℕ) → map asked_of (kept false es) ≡ not_empty f (map asked_of (kept true es))
        → map asked_of (kept false (e ∷ es)) ≡ not_empty f (map asked_of (kept true (e ∷ es)))
    filled_next e es h =
        elim (excluded (on_side f t e)) [
          | inr n ↦ ap (map asked_of) (keep_out (wants f t false) e es (away e false n)) ∙ h
              ∙ sym (ap (λ (ys : List ℕ). not_empty f (map asked_of ys)) (keep_out (wants f t true) e es (away e true n)))
          | inl y ↦ (
              let r : not_empty f (map asked_of (kept true (e ∷ es))) ≡ not_empty f (asked_of e ∷ map asked_of (kept true es)) =
              ap (λ (ys : List ℕ). not_empty f (map asked_of ys)) (keep_in (wants f t true) e es (any_wanted e y)) in
              elim (excluded (is_empty e)) [
                | inl u ↦ ap (map asked_of) (keep_out (wants f t false) e es (empty_unwanted e u)) ∙ h
                    ∙ sym (r ∙ filled_out (asked_of e) (map asked_of (kept true es)) u)
                | inr v ↦ ap (map asked_of) (keep_in (wants f t false) e es (other_wanted e y v))
                    ∙ ap (λ (ys : List Asked). asked_of e ∷ ys) h ∙ sym (r ∙ filled_in (asked_of e) (map asked_of (kept true es)) v)
              ])
        ]

    picked_filled : (es : List ℕ) → picked f t false h es ≡ not_empty f (picked f t true h es)
    unfolding picked keep not_empty
    picked_filled [] = refl
    picked_filled (e ∷ es) = filled_next e es (picked_filled es)

  -- ---- the sides

  basic_plain : (es : List ℕ) → T (every (is_basic f) es) → T (every (λ e. not (is_complement f e)) es)
  unfolding every is_basic is_complement
  basic_plain [] a = tt
  basic_plain (e ∷ es) a =
      let b : T (is_basic f e) = and_left (is_basic f e) (every (is_basic f) es) a in
      let n : T (not (is_complement f e)) = not_of (is_complement f e) (λ c. subst (λ (k : ℕ). T (leb k 5)) (eqb→eq (kind_at f e) 6 c) b) in
      and_both (not (is_complement f e)) (every (λ d. not (is_complement f d)) es) n
      (basic_plain es (and_right (is_basic f e) (every (is_basic f) es) a))

  module _ (h : Bool) (x : Sides) where
    pub picked_outside_lem : picked_outside f h x ≡ outside_leaves f h x
    unfolding picked_outside
    picked_outside_lem = ap₂ ◌++◌ (picked_plain h x.outer) (picked_turned h x.right)

    pub picked_left_lem : T (every (is_basic f) x.inner) → picked_left f h x ≡ left_leaves f h x
    unfolding picked_left left_leaves
    picked_left_lem b =
        ap₂ ◌++◌ picked_outside_lem
        (picked_plain (not h) x.inner ∙ ap (map (leaf (not h))) (keep_all _ x.inner (basic_plain x.inner b)))

    pub picked_right_lem : picked_right f h x ≡ not_empty f (right_leaves f h x)
    unfolding picked_right right_leaves
    picked_right_lem =
        ap₂ ◌++◌ (picked_filled false h x.right ∙ ap (not_empty f) (picked_plain h x.right))
        (picked_filled true h x.outer ∙ ap (not_empty f) (picked_turned h x.outer))
        ∙ sym (filled_append f _ _)

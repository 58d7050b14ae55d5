-- Working out an action set as marks: one number more, one entry less.
-- Assumes nothing.
use mathlib.Core.Path.{◌≡◌, refl, sym, ap, ap₂, ◌∙◌}
use Prim.Native.Nat.{ℕ, ◌+◌, ◌*◌, ◌≤◌}
use native.Mathlib.Numerals.{add-one}
use native.Mathlib.Omega.{arith}
use native.Mathlib.Decide.{ℕ_discrete, dec_lt}
use mathlib.Core.Bool.{Bool, true, false, ◌||◌, or_assoc, or-false}
use mathlib.Core.List.{List, [], ◌∷◌}
use lib.Dec.{eqb, ltb}
use borrow.Author.Tests.{eq-eqb, ne_eqb, lt-ltb, le-ltb}
use Rattle.file_numbers.specs.Numbers.{number_at}
use Rattle.meaning.specs.Sets.{some_below}
use Rattle.actions.specs.Marks.{marked, Marks, listed_in}
use Rattle.actions.proofs.MarkLaws.{no_marks}

-- ---- the numbers below a bound

below_more : (j i : ℕ) → (ltb j i || eqb j i) ≡ ltb j (i + 1)
below_more j i =
    elim (dec_lt j i) [
      | yes h ↦ rw (lt-ltb j i h) (sym (lt-ltb j (i + 1) (omega arith)))
      | no h ↦ elim (ℕ_discrete j i) [
        | yes q ↦ rw (le-ltb j i (omega arith), eq-eqb j i q) (sym (lt-ltb j (i + 1) (omega arith)))
        | no q ↦ rw (le-ltb j i (omega arith), ne_eqb j i q) (sym (le-ltb j (i + 1) (omega arith)))
      ]
    ]

pub first_none : Marks (0 ∷ 0 ∷ 0 ∷ 0 ∷ []) (λ j. ltb j 0)
first_none j h = no_marks j ∙ sym (le-ltb j 0 (omega arith))

pub first_more : (words next : List ℕ) (i : ℕ) → Marks words (λ j. ltb j i) → Marks next (λ j. marked words j || eqb j i)
    → Marks next (λ j. ltb j (i + 1))
first_more words next i h k j l = k j l ∙ ap (λ (x : Bool). x || eqb j i) (h j l) ∙ below_more j i

-- ---- listed numbers

some_more : (a b : Bool) → elim b [ true ↦ true | false ↦ a ] ≡ (a || b)
some_more true true = refl
some_more true false = refl
some_more false true = refl
some_more false false = refl

eqb_sym : (x y : ℕ) → eqb x y ≡ eqb y x
eqb_sym x y =
    elim (ℕ_discrete x y) [
      | yes q ↦ eq-eqb x y q ∙ sym (eq-eqb y x (sym q))
      | no q ↦ ne_eqb x y q ∙ sym (ne_eqb y x (λ z. q (sym z)))
    ]

listed_next : (bytes : List ℕ) (at i j : ℕ)
    → (listed_in bytes at i j || eqb (number_at 2 bytes (at + 2 * i)) j) ≡ listed_in bytes at (i + 1) j
unfolding listed_in some_below
listed_next bytes at i j =
    let here : ℕ → Bool = λ k. eqb (number_at 2 bytes (at + 2 * k)) j in
    rw (add-one i) (sym (some_more (some_below i here) (here i)))

module _ (bytes : List ℕ) (at : ℕ) (words : List ℕ) where
  -- the marks after the first i numbers of the list
  abbrev pub After : ℕ → List ℕ → Type 0
  After i more = Marks more (λ j. marked words j || listed_in bytes at i j)

  pub listed_none : After 0 words
  unfolding listed_in some_below
  listed_none j l = sym (or-false (marked words j))

  pub listed_more : (i x : ℕ) (more next : List ℕ) → After i more → x ≡ number_at 2 bytes (at + 2 * i)
      → Marks next (λ j. marked more j || eqb j x) → After (i + 1) next
  listed_more i x more next h e k j l =
      k j l ∙ ap₂ (λ (p q : Bool). p || q) (h j l) (eqb_sym j x ∙ ap (λ (y : ℕ). eqb y j) e)
      ∙ or_assoc (marked words j) (listed_in bytes at i j) (eqb (number_at 2 bytes (at + 2 * i)) j)
      ∙ ap (λ (p : Bool). marked words j || p) (listed_next bytes at i j)

  pub listed_large : (i x : ℕ) (more : List ℕ) → After i more → x ≡ number_at 2 bytes (at + 2 * i) → 256 ≤ x → After (i + 1) more
  listed_large i x more h e m j l =
      let other : false ≡ eqb (number_at 2 bytes (at + 2 * i)) j = sym (ne_eqb (number_at 2 bytes (at + 2 * i)) j (λ z. omega arith)) in
      h j l ∙ ap (λ (p : Bool). marked words j || p)
      (sym (or-false (listed_in bytes at i j)) ∙ ap (λ (p : Bool). listed_in bytes at i j || p) other ∙ listed_next bytes at i j)

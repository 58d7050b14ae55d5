-- The leaves as written, by rule.
-- Assumes nothing.
use mathlib.Core.Path.{◌≡◌, refl, ap, subst}
use mathlib.Core.Logic.{inl, inr}
use Prim.Native.Nat.{ℕ, ◌+◌, ◌≤◌}
use native.Mathlib.Nat.{eq-or-lt_of_le}
use native.Mathlib.Omega.{arith}
use mathlib.Core.Bool.{false, not}
use mathlib.Core.List.{List, [], ◌∷◌}
use lib.Dec.{eqb}
use Rattle.std.specs.Prelude.{Option, Some, None, MatchOption}
use Rattle.meaning.specs.File.{File}
use Rattle.meaning.specs.Shapes.{keep, the_only, Sides, kind_at, child, leaves, moved_left, bracket, permitted, shape₁}
use Rattle.meaning.specs.Shapes.{shape_with, shape₂, shape₃}
use Rattle.parts.specs.declared.Parts.{Parts}
use Rattle.parts.specs.Written.{bracket_leaf, pair_sides, plain_sides, bracket_sides, shape_of, sides_of, actions_of_rule}
use Rattle.parts.specs.Written.{sides_in, Bracketed, NoBracket, anchors_of, Parted}

module _ (f : File) (a b : ℕ) where
  -- what is promised by rule
  abbrev pub ByRule : ℕ → Option Parts → Type 0
  ByRule rule r = MatchOption r (shape_of f rule a b ≡ false) (λ p. Parted f rule a b p)

  pub parted_pair : (p : Parts) → sides_in p ≡ pair_sides a b → Parted f 4 a b p
  unfolding shape_of sides_of
  parted_pair p e = record { sides = e; shape = λ n. absurd (n refl); actions = λ _ l. absurd (omega arith) }

  pub parted_plain : (r : Option Parts) → MatchOption r (shape₁ f a b ≡ false) (λ p. sides_in p ≡ plain_sides f a b) → ByRule 1 r
  unfolding shape_of sides_of shape₁ anchors_of
  parted_plain None h = h
  parted_plain (Some p) h = record { sides = h; shape = λ _. refl; actions = λ l _. absurd (omega arith) }

  -- where the bracket is alone
  with_lone : (k : ℕ) (anchors : Sides → List ℕ) → keep (λ e. eqb (kind_at f e) k) (leaves f 7 a) ≡ bracket_leaf f k a ∷ []
      → shape_with f k anchors a b ≡ permitted f anchors (bracket_sides f k a b)
  unfolding shape_with bracket_sides the_only
  with_lone k anchors e =
      let outer : List ℕ = keep (λ d. not (eqb (kind_at f d) k)) (leaves f 7 a) in
      ap (λ (es : List ℕ). the_only es (λ p.
      permitted f anchors (record { outer = outer; inner = leaves f 7 (child f p); right = leaves f 8 b }))) e

  abbrev Read : ℕ → Option Parts → Type 0
  Read k r = MatchOption r (NoBracket f k a b) (λ p. Bracketed f k a b p)

  at_two : (r : Option Parts) → Read 9 r → ByRule 2 r
  unfolding shape_of sides_of shape₂ anchors_of actions_of_rule
  at_two None h = h (bracket f)
  at_two (Some p) h = record { sides = h.sides; shape = λ _. with_lone 9 (bracket f) h.lone; actions = λ _ _. h.actions }

  at_three : (r : Option Parts) → Read 10 r → ByRule 3 r
  unfolding shape_of sides_of shape₃ anchors_of actions_of_rule
  at_three None h = h (moved_left f)
  at_three (Some p) h = record { sides = h.sides; shape = λ _. with_lone 10 (moved_left f) h.lone; actions = λ _ _. h.actions }

  pub parted_bracket : (rule : ℕ) (r : Option Parts) → 1 ≤ rule → rule ≤ 4 → (rule ≡ 4 → ⊥) → (rule ≡ 1 → ⊥) → Read (7 + rule) r → ByRule rule r
  parted_bracket rule r l g n m =
      let two : 2 ≤ rule = omega arith in
      elim (eq-or-lt_of_le two) [
        | inl e ↦ subst (λ (i : ℕ). Read (7 + i) r → ByRule i r) e (at_two r)
        | inr h ↦ (
            let e : 3 ≡ rule = omega arith in
            subst (λ (i : ℕ). Read (7 + i) r → ByRule i r) e (at_three r))
      ]

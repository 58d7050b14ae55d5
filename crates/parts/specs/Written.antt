-- The leaves of a basic statement on state sets as they are written, rules 1 to 4, before complements change sides.
-- Only the code's inner promises speak of this.
-- Assumes nothing.
use Rattle.std.specs.Prelude.{◌≡◌, ℕ, ◌+◌, ◌-◌, ◌≤◌, Bool, true, false, not, ◌&&◌, List, [], ◌∷◌, get_or, eqb}
use Rattle.task.specs.Reach.{every}
use Rattle.meaning.specs.File.{File, state_set_at, second}
use Rattle.meaning.specs.Shapes.{keep, Sides, kind_at, child, leaves, is_basic, is_literal, moved_left, bracket, permitted}
use Rattle.meaning.specs.Shapes.{shape₁, shape₂, shape₃, shape₄, shape_with}
use Rattle.trees.specs.Trees.{list_of}
use Rattle.parts.specs.declared.Parts.{Parts}

-- one entry a side
abbrev pub pair_sides : ℕ → ℕ → Sides
pair_sides a b = record { outer = a ∷ []; inner = []; right = b ∷ [] }

module _ (f : File) where
  -- the only left leaf of kind k, 9 or 10; 0 where there is none
  unfoldable pub bracket_leaf : ℕ → ℕ → ℕ
  bracket_leaf k a = get_or (keep (λ e. eqb (kind_at f e) k) (leaves f 7 a)) 0 0

  -- the leaves of a statement with a bracket of kind k
  unfoldable pub bracket_sides : ℕ → ℕ → ℕ → Sides
  bracket_sides k a b = record {
    outer = keep (λ e. not (eqb (kind_at f e) k)) (leaves f 7 a);
    inner = leaves f 7 (child f (bracket_leaf k a));
    right = leaves f 8 b;
  }

  -- with no bracket
  abbrev pub plain_sides : ℕ → ℕ → Sides
  plain_sides a b = record { outer = leaves f 7 a; inner = []; right = leaves f 8 b }

  -- by rule, 1 to 4: the shape, the leaves, and the action set
  unfoldable pub shape_of : ℕ → ℕ → ℕ → Bool
  shape_of rule a b = get_or (shape₁ f a b ∷ shape₂ f a b ∷ shape₃ f a b ∷ shape₄ f a b ∷ []) (rule - 1) false

  unfoldable pub sides_of : ℕ → ℕ → ℕ → Sides
  sides_of rule a b =
      get_or (plain_sides a b ∷ bracket_sides 9 a b ∷ bracket_sides 10 a b ∷ [])
      (rule - 1) (pair_sides a b)

  unfoldable pub actions_of_rule : ℕ → ℕ → ℕ
  actions_of_rule rule a = second (state_set_at f (bracket_leaf (7 + rule) a))

unfoldable pub sides_in : Parts → Sides
sides_in p = record { outer = list_of p.outer; inner = list_of p.inner; right = list_of p.right }

module _ (f : File) where
  -- of a statement with a bracket of kind k: its leaves, the only bracket, and its action set
  pub record Bracketed (k a b : ℕ) (p : Parts) : Type 0 where
    pub sides : sides_in p ≡ bracket_sides f k a b
    pub lone : keep (λ e. eqb (kind_at f e) k) (leaves f 7 a) ≡ bracket_leaf f k a ∷ []
    pub actions : p.actions ≡ second (state_set_at f (bracket_leaf f k a))

  -- no shape with a bracket of kind k is permitted
  abbrev pub NoBracket : ℕ → ℕ → ℕ → Type 0
  NoBracket k a b = (anchors : Sides → List ℕ) → shape_with f k anchors a b ≡ false

  -- the moved left, or the bracket, as the rule says
  unfoldable pub anchors_of : ℕ → Sides → List ℕ
  anchors_of rule x = elim (eqb rule 2) [ true ↦ bracket f x | false ↦ moved_left f x ]

  -- the leaves of a statement by its rule, what is still to be looked at of its shape, and the bracket's action set
  pub record Parted (rule a b : ℕ) (p : Parts) : Type 0 where
    pub sides : sides_in p ≡ sides_of f rule a b
    pub shape : (rule ≡ 4 → ⊥) → shape_of f rule a b ≡ permitted f (anchors_of rule) (sides_of f rule a b)
    pub actions : 2 ≤ rule → rule ≤ 3 → p.actions ≡ actions_of_rule f rule a

  unfoldable pub literals_of : Sides → Bool
  literals_of x = every (is_literal f) x.outer && every (is_basic f) x.inner && every (is_literal f) x.right

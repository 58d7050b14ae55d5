-- The shapes that the basic statements B1 to B4 permit.
-- Assumes nothing.
use Rattle.std.specs.Prelude.{ℕ, ◌+◌, Bool, true, false, not, ◌&&◌, ◌||◌, List, [], ◌∷◌, ◌++◌, map, length, leb, eqb}
use Rattle.task.specs.Facts.{ones_in}
use Rattle.task.specs.Reach.{member, every}
use Rattle.meaning.specs.File.{File, state_set_at, state_kind, first, second}
use Rattle.meaning.specs.Sets.{settled}

-- the elements that pass the test
unfoldable pub keep : (ℕ → Bool) → List ℕ → List ℕ
keep t [] = []
keep t (x ∷ xs) = elim (t x) [ true ↦ x ∷ keep t xs | false ↦ keep t xs ]

-- the list has one element, and it passes the test
unfoldable pub the_only : List ℕ → (ℕ → Bool) → Bool
the_only [] t = false
the_only (x ∷ []) t = t x
the_only (x ∷ y ∷ ys) t = false

-- a statement's leaves, as entries: left ones outside the bracket, those inside it, right ones
pub record Sides : Type 0 where
  pub outer : List ℕ
  pub inner : List ℕ
  pub right : List ℕ

module _ (f : File) where
  unfoldable pub kind_at : ℕ → ℕ
  kind_at e = state_kind (state_set_at f e)

  -- the entry that an entry names first
  unfoldable pub child : ℕ → ℕ
  child e = first (state_set_at f e)

  -- the leaves of the tree of entries of kind k, 7 for intersections or 8 for unions, at entry e
  unfoldable pub leaf_node : ℕ → (ℕ → List ℕ) → ℕ → List ℕ
  leaf_node k leaves e = elim (eqb (kind_at e) k) [ true ↦ leaves (child e) ++ leaves (second (state_set_at f e)) | false ↦ e ∷ [] ]

  unfoldable pub leaves : ℕ → ℕ → List ℕ
  leaves k e = settled (leaf_node k) [] e

  -- ---- literals

  unfoldable pub is_basic : ℕ → Bool
  is_basic e = leb (kind_at e) 5

  unfoldable pub is_complement : ℕ → Bool
  is_complement e = eqb (kind_at e) 6

  -- kinds 0 to 5 or the complement of one
  unfoldable pub is_literal : ℕ → Bool
  is_literal e = is_basic e || (is_complement e && is_basic (child e))

  -- the kind of a literal, its complement taken off
  unfoldable pub literal_kind : ℕ → ℕ
  literal_kind e = elim (is_complement e) [ true ↦ kind_at (child e) | false ↦ kind_at e ]

  -- the kinds of the literals that are complements; of those that are none
  unfoldable pub complements : List ℕ → List ℕ
  complements es = map literal_kind (keep is_complement es)

  unfoldable pub others : List ℕ → List ℕ
  others es = map literal_kind (keep (λ e. not (is_complement e)) es)

  -- ---- moved: complements outside the bracket change sides

  unfoldable pub moved_left : Sides → List ℕ
  moved_left x = others x.outer ++ complements x.right

  unfoldable pub moved_right : Sides → List ℕ
  moved_right x = others x.right ++ complements x.outer

  unfoldable pub bracket : Sides → List ℕ
  bracket x = map kind_at x.inner

  unfoldable pub used : Sides → List ℕ
  used x = moved_left x ++ bracket x ++ moved_right x

  -- ---- B1 to B3

  -- literals, and inside the bracket kinds 0 to 5; at most 8 leaves a side, as written
  unfoldable pub of_literals : Sides → Bool
  of_literals x =
      every is_literal x.outer && every is_basic x.inner && every is_literal x.right
      && leb (length x.outer + length x.inner) 8 && leb (length x.right) 8

  -- Horn or two-literal, or neither, which counts as Horn: at most two moved right leaves, kind 0 not counted
  unfoldable pub of_clauses : Sides → Bool
  of_clauses x =
      not (member 3 (used x)) && not (member 4 (used x) && member 5 (used x))
      && leb (length (keep (λ k. not (eqb k 0)) (moved_right x))) 2

  -- kind 1 lists its states: at most 12 facts are unknown
  unfoldable pub lists_init : Bool
  lists_init = leb (ones_in 64 f.task.unknown) 12

  -- explicit: a leaf of kind 0 or 3, or of kind 1 where it lists its states, stands among the anchors
  unfoldable pub of_states : List ℕ → Sides → Bool
  of_states anchors x =
      member 3 (used x) && not (member 4 (used x)) && not (member 5 (used x))
      && (member 0 anchors || (member 1 anchors && lists_init) || member 3 anchors)

  unfoldable pub permitted : (Sides → List ℕ) → Sides → Bool
  permitted anchors x = of_literals x && (of_clauses x || of_states (anchors x) x)

  unfoldable pub shape₁ : ℕ → ℕ → Bool
  shape₁ a b = permitted moved_left (record { outer = leaves 7 a; inner = []; right = leaves 8 b })

  -- with a bracket: exactly one left leaf is of kind k, 9 or 10
  unfoldable pub shape_with : ℕ → (Sides → List ℕ) → ℕ → ℕ → Bool
  shape_with k anchors a b =
      the_only (keep (λ e. eqb (kind_at e) k) (leaves 7 a))
      (λ p. permitted anchors (record { outer = keep (λ e. not (eqb (kind_at e) k)) (leaves 7 a); inner = leaves 7 (child p); right = leaves 8 b }))

  -- the explicit leaf stands inside the bracket
  unfoldable pub shape₂ : ℕ → ℕ → Bool
  shape₂ = shape_with 9 bracket

  -- the explicit leaf stands on the moved left outside the bracket
  unfoldable pub shape₃ : ℕ → ℕ → Bool
  shape₃ = shape_with 10 moved_left

  -- ---- B4

  -- kinds x and y, different and among 3, 4, 5; `nx` and `ny` say which side is a complement.
  -- X explicit, Y of clauses: X<Y, X<~Y, Y<~X, ~Y<~X. Horn and two-literal: all but X<~Y
  unfoldable pub mixed : ℕ → Bool → ℕ → Bool → Bool
  mixed x nx y ny =
      member x (3 ∷ 4 ∷ 5 ∷ []) && member y (3 ∷ 4 ∷ 5 ∷ []) && not (eqb x y)
      && elim (eqb x 3) [ true ↦ not nx | false ↦ elim (eqb y 3) [ true ↦ ny | false ↦ nx || not ny ] ]

  unfoldable pub shape₄ : ℕ → ℕ → Bool
  shape₄ a b = is_literal a && is_literal b && mixed (literal_kind a) (is_complement a) (literal_kind b) (is_complement b)

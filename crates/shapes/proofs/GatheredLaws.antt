-- The statement by its rule: what `gather` promises.
-- Assumes nothing.
use mathlib.Core.Path.{◌≡◌, refl, sym, ap, ◌∙◌, subst}
use mathlib.Core.Logic.{inl, inr}
use Prim.Native.Nat.{ℕ, ◌+◌, ◌≤◌}
use native.Mathlib.Omega.{arith}
use mathlib.Core.Bool.{Bool, true, false, ◌&&◌, ◌||◌}
use mathlib.Core.List.{List, ◌++◌}
use lib.ListN.{length, take}
use lib.Dec.{T, eqb, eqb→eq, leb}
use Rattle.std.specs.Prelude.{IfSome, Result, Ok, Err, is_ok}
use Rattle.std.specs.Result.{result_ok}
use Rattle.leaves.specs.declared.Leaf.{Leaf}
use Rattle.task.specs.Reach.{member, every}
use Rattle.task.proofs.Tests.{and_left, excluded, never, same, holds, is_false}
use Rattle.meaning.specs.File.{File}
use Rattle.meaning.specs.Shapes.{Sides, is_literal, is_complement, literal_kind, mixed, moved_left, bracket, of_literals, of_clauses, of_states}
use Rattle.meaning.specs.Shapes.{lists_init, permitted, shape₄}
use Rattle.parts.specs.Written.{pair_sides, shape_of, sides_of}
use Rattle.shapes.specs.Gathered.{Gathers}
use Rattle.shapes.specs.declared.shape.Counts.{Counts}
use Rattle.parts.specs.declared.Parts.{Parts}
use Rattle.kinds.specs.declared.Gathered.{Gathered}
use Rattle.kinds.specs.Summary.{clauses_by, states_by, pair_by, permits_by, either, Summary}
use Rattle.parts.specs.Written.{sides_in, Parted, anchors_of, literals_of}
use Rattle.shapes.specs.Arrays.{Filled}
use Rattle.shapes.specs.Arrays.{Zeros}
use Rattle.trees.proofs.TreeLaws.{count_list}
use Rattle.kinds.proofs.SummaryLaws.{permits_pair, permits_sorts}
use Rattle.shapes.proofs.KindLaws.{hit}
use Rattle.shapes.proofs.ShapeLaws.{permitted_by, paired_by}
use Rattle.shapes.proofs.SortLaws.{clash, sorted, sorted_pair, pair_few, pair_anchor}
use Rattle.shapes.proofs.GatherLaws.{flags_by, count_by, SortedBy, permits_are, gathers}

-- what is told of a statement that is permitted has Q where it has P
if_told : (r : Result Gathered Gathered) (P Q : Gathered → Type 0) → P (either r) → ((g : Gathered) → r ≡ Ok g → P g → Q g) → IfSome (result_ok r) Q
unfolding either
if_told (Ok g) P Q h k = k g refl h
if_told (Err g) P Q h k = tt

-- ---- what is not permitted

two_literals : (i j : Bool) → T (i && true && true && (j && true)) → T i × T j
two_literals true true t = (tt, tt)
two_literals true false t = absurd t
two_literals false j t = absurd t

literals_two : (i j m : Bool) → T (i && j && m) → T (i && true && true && (j && true))
literals_two true true m t = tt
literals_two true false m t = absurd t
literals_two false j m t = absurd t

module _ (f : File) (a b : ℕ) where
  permitted_literals : (anchors : Sides → List ℕ) (y : Sides) → T (permitted f anchors y) → T (literals_of f y)
  unfolding permitted of_literals literals_of
  permitted_literals anchors y t =
      let l : Bool = leb (length y.outer + length y.inner) 8 in
      let r : Bool = leb (length y.right) 8 in
      and_left (literals_of f y) l (and_left (literals_of f y && l) r
      (and_left (of_literals f y) (of_clauses f y || of_states f (anchors y) y) t))

  -- rule 4
  pair_literals : T (shape₄ f a b) → T (literals_of f (pair_sides a b))
  unfolding literals_of every shape₄
  pair_literals t =
      literals_two (is_literal f a) (is_literal f b) (mixed f (literal_kind f a) (is_complement f a) (literal_kind f b) (is_complement f b)) t

  literal_pair : literals_of f (pair_sides a b) ≡ true → T (is_literal f a) × T (is_literal f b)
  unfolding literals_of every
  literal_pair e = two_literals (is_literal f a) (is_literal f b) (holds e)

module _ (f : File) (rule a b : ℕ) (p : Parts) (part : Parted f rule a b p) where
  by_rule_lem : {A : Type 0} → (rule ≡ 4 → A) → ((rule ≡ 4 → ⊥) → A) → A
  by_rule_lem u v = elim (excluded (eqb rule 4)) [ inl t ↦ u (eqb→eq rule 4 t) | inr m ↦ v (λ e. never (eqb rule 4) (same e) m) ]

  pair_shape_literals : rule ≡ 4 → T (shape_of f rule a b) → T (literals_of f (sides_of f rule a b))
  unfolding shape_of sides_of
  pair_shape_literals e = subst (λ (m : ℕ). T (shape_of f m a b) → T (literals_of f (sides_of f m a b))) (sym e) (pair_literals f a b)

  pub not_literals : literals_of f (sides_in p) ≡ false → false ≡ shape_of f rule a b
  not_literals l =
      sym (is_false (shape_of f rule a b) (λ t.
      clash (literals_of f (sides_of f rule a b))
      (by_rule_lem (λ e. pair_shape_literals e t)
      (λ n. permitted_literals f a b (anchors_of f rule) (sides_of f rule a b) (subst T (part.shape n) t)))
      (ap (literals_of f) (sym part.sides) ∙ l)))

-- ---- what is

module _ (f : File) (index : List ℕ) (rule a b : ℕ) (p : Parts) (part : Parted f rule a b p) where
  abbrev x : Sides
  x = sides_of f rule a b

  sides : sides_in p ≡ x
  sides = part.sides

  few : (length x.outer + length x.inner ≤ 8) × (length x.right ≤ 8)
  unfolding sides_in
  few =
      subst (λ (y : Sides). (length y.outer + length y.inner ≤ 8) × (length y.right ≤ 8)) sides
      (omega (arith, count_list p.outer, count_list p.inner, p.few_left), omega (arith, count_list p.right, p.few_right))

  module _ (lit : literals_of f (sides_in p) ≡ true) (left₀ left right₀ right : List Leaf) (n : Counts)
      (fill : Filled f index (eqb rule 2) (sides_in p) left₀ left right₀ right n) (zeros : Zeros right₀)
      (r : Result Gathered Gathered) (dec : Summary (lists_init f) rule (take n.left left) n.outside (take n.right right) p.actions r) where
    lit' : literals_of f x ≡ true
    lit' = subst (λ (y : Sides). literals_of f y ≡ true) sides lit

    fill' : Filled f index (eqb rule 2) x left₀ left right₀ right n
    fill' = subst (λ (y : Sides). Filled f index (eqb rule 2) y left₀ left right₀ right n) sides fill

    permits : is_ok r ≡ permits_by rule (flags_by f x) (count_by f x) (hit (lists_init f) (anchors_of f rule x))
    permits = permits_are f index rule a b lit' left₀ left right₀ right n fill' p.actions r dec

    -- rules 1 to 3
    module _ (other : rule ≡ 4 → ⊥) where
      sorts : is_ok r ≡ (clauses_by (flags_by f x) (count_by f x) || states_by (flags_by f x) (hit (lists_init f) (anchors_of f rule x)))
      sorts = permits ∙ permits_sorts rule (flags_by f x) (count_by f x) (hit (lists_init f) (anchors_of f rule x)) other

      shape_sorts : is_ok r ≡ shape_of f rule a b
      shape_sorts = sorts ∙ sym (permitted_by f x lit' few.0 few.1 (anchors_of f rule)) ∙ sym (part.shape other)

      sorted_sorts : is_ok r ≡ true → SortedBy f rule x
      sorted_sorts e = sorted (flags_by f x) (count_by f x) (hit (lists_init f) (anchors_of f rule x)) (holds (sym sorts ∙ e))

    -- rule 4
    module _ (four : rule ≡ 4) where
      pair : is_ok r ≡ pair_by (flags_by f x)
      pair = permits ∙ permits_pair rule (flags_by f x) (count_by f x) (hit (lists_init f) (anchors_of f rule x)) four

      abbrev Pair : ℕ → Type 0
      Pair m =
          literals_of f (sides_of f m a b) ≡ true
          → (shape_of f m a b ≡ pair_by (flags_by f (sides_of f m a b)))
          × (count_by f (sides_of f m a b) ≤ 2)
          × (T (member 3 (moved_left f (sides_of f m a b) ++ bracket f (sides_of f m a b)))
          → T (hit (lists_init f) (anchors_of f m (sides_of f m a b))))

      at_four : Pair 4
      unfolding shape_of sides_of anchors_of
      at_four e = let w = literal_pair f a b e in (paired_by f a b w.0 w.1, pair_few f a b, pair_anchor f a b)

      paired : Pair rule
      paired = subst Pair (sym four) at_four

      shape_pair : is_ok r ≡ shape_of f rule a b
      shape_pair = pair ∙ sym (paired lit').0

      sorted_four : is_ok r ≡ true → SortedBy f rule x
      sorted_four e =
          sorted_pair (flags_by f x) (count_by f x) (hit (lists_init f) (anchors_of f rule x)) (holds (sym pair ∙ e))
          (paired lit').1 (paired lit').2

    pub shape_right : is_ok r ≡ shape_of f rule a b
    shape_right = by_rule_lem f rule a b p part shape_pair shape_sorts

    pub gathered_right : IfSome (result_ok r) (λ g. Gathers f index rule a b left right g)
    gathered_right =
        if_told r _ _ dec.told (λ g e t.
        let s = ap is_ok e in
        gathers f index rule a b lit' left₀ left right₀ right n fill' p.actions r dec g t zeros part.actions
        (by_rule_lem f rule a b p part (λ u. sorted_four u s) (λ u. sorted_sorts u s)))

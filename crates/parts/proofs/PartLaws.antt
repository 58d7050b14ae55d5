-- A statement's leaves as written: where few are found, they are all, and where the shape is permitted, few are found.
-- Assumes nothing.
use mathlib.Core.Path.{◌≡◌, refl, sym, ap, ◌∙◌}
use Prim.Native.Nat.{ℕ, suc, ◌+◌, ◌≤◌, ◌<◌}
use native.Mathlib.Omega.{arith}
use mathlib.Core.Bool.{Bool, true, false, not, ◌&&◌, ◌||◌}
use mathlib.Core.List.{List, [], ◌∷◌}
use lib.ListN.{length, get_or}
use lib.Dec.{T, eqb, leb, leb→le}
use Rattle.task.specs.Reach.{every}
use Rattle.task.proofs.Tests.{and_left, and_right, is_false}
use Rattle.meaning.specs.File.{File, state_set_at, second}
use Rattle.meaning.proofs.Order.{Ordered}
use Rattle.meaning.specs.Shapes.{keep, Sides, kind_at, child, leaves, is_basic, is_literal, of_literals, of_clauses, of_states, permitted}
use Rattle.meaning.specs.Shapes.{the_only, shape₁, shape_with}
use Rattle.parts.specs.Written.{bracket_leaf, bracket_sides}
use Rattle.trees.specs.declared.Leaves.{Leaves}
use Rattle.parts.specs.declared.Parts.{Parts}
use Rattle.trees.specs.Trees.{list_of, Lists}
use Rattle.parts.specs.Written.{sides_in, Bracketed, NoBracket}
use Rattle.counterexample.proofs.LeafLaws.{leaves_some}

-- a list with one element, which passes the test
pub the_only_lem : (xs : List ℕ) (t : ℕ → Bool) → T (the_only xs t) → (p : ℕ) × (xs ≡ p ∷ []) × T (t p)
unfolding the_only
the_only_lem [] t h = absurd h
the_only_lem (x ∷ []) t h = (x, refl, h)
the_only_lem (x ∷ y ∷ ys) t h = absurd h

pub sides_are : (p : Parts) (outer inner right : List ℕ) → Lists p.outer outer → Lists p.inner inner → Lists p.right right
    → sides_in p ≡ record { outer = outer; inner = inner; right = right }
unfolding sides_in
sides_are p outer inner right x y z = cc (x.same, y.same, z.same)

-- those that pass the test and those that fail it are all
keep_split : (t : ℕ → Bool) (es : List ℕ) → length (keep t es) + length (keep (λ e. not (t e)) es) ≡ length es
unfolding keep
keep_split t [] = refl
keep_split t (e ∷ es) = go (t e) (keep_split t es)
  where
    with_if : Bool → List ℕ → List ℕ
    with_if b ys = elim b [ true ↦ e ∷ ys | false ↦ ys ]

    go : (b : Bool) → length (keep t es) + length (keep (λ x. not (t x)) es) ≡ length es
        → length (with_if b (keep t es)) + length (with_if (not b) (keep (λ x. not (t x)) es)) ≡ suc (length es)
    go true h = omega arith
    go false h = omega arith

module _ (f : File) where
  -- a permitted shape has few leaves
  pub few_of : (anchors : Sides → List ℕ) (x : Sides) → T (permitted f anchors x)
      → (length x.outer + length x.inner ≤ 8) × (length x.right ≤ 8)
  unfolding permitted of_literals
  few_of anchors x t =
      let literals : Bool = every (is_literal f) x.outer && every (is_basic f) x.inner && every (is_literal f) x.right in
      let left : Bool = leb (length x.outer + length x.inner) 8 in
      let right : Bool = leb (length x.right) 8 in
      let l : T (literals && left && right) = and_left (literals && left && right) (of_clauses f x || of_states f (anchors x) x) t in
      (leb→le _ 8 (and_right literals left (and_left (literals && left) right l)), leb→le _ 8 (and_right (literals && left) right l))

  -- too many leaves on one side
  module _ (a b : ℕ) where
    pub many_left : 8 < length (leaves f 7 a) → shape₁ f a b ≡ false
    unfolding shape₁
    many_left l = is_false _ (λ t. let w = few_of _ _ t in omega (arith, w.0))

    pub many_right : 8 < length (leaves f 8 b) → shape₁ f a b ≡ false
    unfolding shape₁
    many_right l = is_false _ (λ t. let w = few_of _ _ t in omega (arith, w.1))

-- ---- with a bracket

module _ (f : File) (o : Ordered f) (k a b : ℕ) where
  abbrev here : ℕ → Bool
  here d = eqb (kind_at f d) k

  abbrev lefts : List ℕ
  lefts = leaves f 7 a

  -- a permitted shape has one bracket, and few leaves
  pub record OneFew : Type 0 where
    pub only : keep here lefts ≡ bracket_leaf f k a ∷ []
    pub few_left : length lefts ≤ 8
    pub few_within : length (keep (λ d. not (here d)) lefts) + length (leaves f 7 (child f (bracket_leaf f k a))) ≤ 8
    pub few_right : length (leaves f 8 b) ≤ 8

  bracket_is : (q : ℕ) → keep here lefts ≡ q ∷ [] → q ≡ bracket_leaf f k a
  unfolding bracket_leaf
  bracket_is q e = sym (ap (λ (es : List ℕ). get_or es 0 0) e)

  one_few : (anchors : Sides → List ℕ) → T (shape_with f k anchors a b) → OneFew
  unfolding shape_with
  one_few anchors t =
      let p = the_only_lem (keep here lefts) _ t in
      let w = few_of f anchors _ p.2 in
      let q = bracket_is p.0 p.1 in
      let s = leaves_some f o 7 tt (child f p.0) in
      let n : length (keep here lefts) ≡ 1 = ap length p.1 in
      let c : length (leaves f 7 (child f p.0)) ≡ length (leaves f 7 (child f (bracket_leaf f k a))) =
      ap (λ (d : ℕ). length (leaves f 7 (child f d))) q in
      record {
        only = p.1 ∙ ap (λ (d : ℕ). d ∷ []) q;
        few_left = omega (arith, keep_split here lefts, w.0);
        few_within = omega (arith, w.0);
        few_right = w.1;
      }

  pub no_bracket : (OneFew → ⊥) → NoBracket f k a b
  no_bracket h anchors = is_false _ (λ t. h (one_few anchors t))

  -- what was found on the left
  module _ (all found : Leaves) (x : Lists all lefts) (y : Lists found (keep here (list_of all)))
      (es : List ℕ) (e : es ≡ list_of found) where
    found_all : es ≡ keep here lefts
    found_all = e ∙ y.same ∙ ap (keep here) x.same

    -- there is not one bracket
    pub not_one : (length es ≡ 1 → ⊥) → NoBracket f k a b
    not_one h = no_bracket (λ w. h (ap length (found_all ∙ w.only)))

    module _ (one : length es ≡ 1) where
      alone : (ds : List ℕ) → length ds ≡ 1 → ds ≡ get_or ds 0 0 ∷ []
      alone [] l = absurd (omega arith)
      alone (d ∷ []) l = refl
      alone (d ∷ c ∷ ds) l = absurd (omega arith)

      leaf_is : get_or es 0 0 ≡ bracket_leaf f k a
      unfolding bracket_leaf
      leaf_is = ap (λ (ds : List ℕ). get_or ds 0 0) found_all

      lone : keep here lefts ≡ bracket_leaf f k a ∷ []
      lone = sym found_all ∙ alone es one ∙ ap (λ (d : ℕ). d ∷ []) leaf_is

      module _ (c : ℕ) (named : c ≡ child f (get_or es 0 0)) where
        inside_is : leaves f 7 c ≡ leaves f 7 (child f (bracket_leaf f k a))
        inside_is = ap (leaves f 7) (named ∙ ap (child f) leaf_is)

        pub many_inside : 8 < length (leaves f 7 c) → NoBracket f k a b
        many_inside l = no_bracket (λ w. omega (arith, w.few_within, ap length inside_is))

        module _ (outer inner : Leaves) (z : Lists outer (keep (λ d. not (here d)) (list_of all))) (u : Lists inner (leaves f 7 c)) where
          outer_all : list_of outer ≡ keep (λ d. not (here d)) lefts
          outer_all = z.same ∙ ap (keep (λ d. not (here d))) x.same

          pub many_within : 8 < outer.count + inner.count → NoBracket f k a b
          many_within l =
              no_bracket (λ w. omega (arith, w.few_within, z.size, u.size, ap length inside_is, ap length (sym z.same ∙ outer_all)))

          pub with_bracket : (p : Parts) → p.outer ≡ outer → p.inner ≡ inner → Lists p.right (leaves f 8 b)
              → p.actions ≡ second (state_set_at f (get_or es 0 0)) → Bracketed f k a b p
          unfolding bracket_sides sides_in
          with_bracket p i j v w = record {
            sides =
                cc (ap list_of i ∙ outer_all, ap list_of j ∙ u.same ∙ inside_is, v.same);
            lone = lone;
            actions = w ∙ ap (λ (d : ℕ). second (state_set_at f d)) leaf_is;
          }

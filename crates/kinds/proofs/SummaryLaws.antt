-- What is found in the arrays, leaf by leaf: kinds, and the anchor.
-- Assumes nothing.
use mathlib.Core.Path.{◌≡◌, refl, sym, ap, subst, ◌∙◌}
use mathlib.Core.Logic.{⊎_elim}
use Prim.Native.Nat.{ℕ, ◌+◌, ◌≤◌}
use native.Mathlib.Nat.{eq-or-lt_of_le}
use native.Mathlib.Omega.{arith}
use mathlib.Core.Bool.{Bool, true, false, ◌||◌}
use mathlib.Core.List.{List}
use lib.ListN.{length}
use lib.Dec.{T, eqb}
use Rattle.std.specs.Prelude.{Option}
use Rattle.std.specs.Option.{unwrap_or}
use borrow.Author.Tests.{eq-eqb, ne_eqb}
use Rattle.leaves.specs.declared.Leaf.{Leaf}
use Rattle.leaves.specs.Leaves.{leaf_in}
use Rattle.kinds.specs.declared.Flags.{Flags}
use Rattle.kinds.specs.Summary.{may_anchor, kind_in, flags_in, NoAnchor, from_of, to_of, clauses_by, states_by, pair_by, permits_by, Told}

-- ---- the anchor

pub anchor_next : (few : Bool) (left : List Leaf) (from r : ℕ) → NoAnchor few left from r → may_anchor few (leaf_in left r).set ≡ false
    → NoAnchor few left from (r + 1)
anchor_next few left from r h e j l g t =
    let below : j ≤ r = omega arith in
    ⊎_elim
    (λ (p : j ≡ r). subst (λ (b : Bool). T b → ⊥) (sym e) (λ x. x) (subst (λ (i : ℕ). T (may_anchor few (leaf_in left i).set)) p t))
    (λ q. h j l q t) (eq-or-lt_of_le below)

-- ---- by rule

module _ {A : Type 0} (rule k : ℕ) (x y : A) where
  if_rule : rule ≡ k → ◌≡◌ {A = A} (elim (eqb rule k) [ true ↦ x | false ↦ y ]) x
  if_rule e = ap (λ (b : Bool). elim b [ true ↦ x | false ↦ y ]) (eq-eqb rule k e)

  if_other : (rule ≡ k → ⊥) → ◌≡◌ {A = A} (elim (eqb rule k) [ true ↦ x | false ↦ y ]) y
  if_other e = ap (λ (b : Bool). elim b [ true ↦ x | false ↦ y ]) (ne_eqb rule k e)

module _ (rule outside all : ℕ) where
  pub from_inside : rule ≡ 2 → from_of rule outside ≡ outside
  unfolding from_of
  from_inside e = if_rule rule 2 outside 0 e

  pub to_inside : rule ≡ 2 → to_of rule outside all ≡ all
  unfolding to_of
  to_inside e = if_rule rule 2 all outside e

  pub from_outside : (rule ≡ 2 → ⊥) → from_of rule outside ≡ 0
  unfolding from_of
  from_outside e = if_other rule 2 outside 0 e

  pub to_outside : (rule ≡ 2 → ⊥) → to_of rule outside all ≡ outside
  unfolding to_of
  to_outside e = if_other rule 2 all outside e

module _ (rule : ℕ) (x : Flags) (n : ℕ) (anchored : Bool) where
  pub permits_pair : rule ≡ 4 → permits_by rule x n anchored ≡ pair_by x
  unfolding permits_by
  permits_pair e = if_rule rule 4 (pair_by x) (clauses_by x n || states_by x anchored) e

  pub permits_sorts : (rule ≡ 4 → ⊥) → permits_by rule x n anchored ≡ (clauses_by x n || states_by x anchored)
  unfolding permits_by
  permits_sorts e = if_other rule 4 (pair_by x) (clauses_by x n || states_by x anchored) e

-- ---- what the flags say

module _ (left right : List Leaf) (x : Flags) (e : x ≡ flags_in left right) where
  pub flags_listed : (x.l3 || x.r3) ≡ (kind_in left 3 || kind_in right 3)
  unfolding flags_in
  flags_listed = ap (λ (y : Flags). y.l3 || y.r3) e

  pub flags_two : x.l5 ≡ kind_in left 5
  unfolding flags_in
  flags_two = ap (λ (y : Flags). y.l5) e

  -- ---- what is told

  pub told_by : (anchor : Option ℕ) (to actions r : ℕ) → r ≡ unwrap_or anchor to
      → Told left right anchor to actions
      (record {
        listed = x.l3 || x.r3;
        two = x.l5;
        left_count = length left;
        right_count = length right;
        anchor = r;
        actions = actions;
      })
  told_by anchor to actions r k =
      record {
        left_count_is = refl;
        right_count_is = refl;
        action_set = refl;
        listed = flags_listed;
        two = flags_two;
        anchor_is = λ j w. k ∙ ap (λ (o : Option ℕ). unwrap_or o to) w;
        no_anchor = λ w. k ∙ ap (λ (o : Option ℕ). unwrap_or o to) w;
      }

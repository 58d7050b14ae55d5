-- The left leaves by number: their kinds, outside the bracket and inside, whether an anchor is found, and that it is asked
-- about the state before the action.
-- Assumes nothing.
use mathlib.Core.Path.{◌≡◌, refl, sym, ap, ◌∙◌}
use mathlib.Core.Logic.{inl, inr}
use Prim.Native.Nat.{ℕ, zero, suc, ◌+◌, ◌-◌, ◌≤◌, ◌<◌}
use native.Mathlib.Nat.{not-suc-le-zero, le_of_suc-le-suc}
use native.Mathlib.Omega.{arith}
use mathlib.Core.Bool.{Bool, true, false, not}
use mathlib.Core.List.{List, [], ◌∷◌, ◌++◌, map}
use lib.ListN.{length, get_or, length-append, length-map, get_or-append}
use lib.Seq.{get_or-append-add}
use lib.Dec.{eqb, eqb→eq}
use Rattle.std.specs.Prelude.{Option, is_some}
use borrow.Author.Tests.{eq-eqb, ne_eqb}
use Rattle.task.proofs.Tests.{excluded, never, same}
use Rattle.meaning.specs.File.{File}
use Rattle.meaning.specs.Shapes.{Sides, kind_at, child, moved_left, bracket, lists_init}
use Rattle.counterexample.specs.Counter.{Asked, left_leaves}
use Rattle.leaves.specs.declared.Leaf.{Leaf}
use Rattle.leaves.specs.Leaves.{kind_of, leaf_in}
use Rattle.shapes.specs.Gathered.{leaf_of, AllBasic}
use Rattle.kinds.specs.Summary.{Anchor, Sought, from_of, to_of}
use Rattle.parts.specs.Written.{anchors_of}
use Rattle.counterexample.proofs.Moved.{leaf, under, plain, turned}
use Rattle.shapes.proofs.LeafKinds.{outside_leaves, kinds_outside, kinds_left}
use Rattle.kinds.proofs.SummaryLaws.{from_inside, to_inside, from_outside, to_outside}
use Rattle.shapes.proofs.KindLaws.{Row, hit, length_kinds, leaf_at_lem, kind_at_lem, size_is, anchor_found}

abbrev none : Asked
none = record { entry = 0; after = false }

-- every entry of the list is asked about the one state
abbrev About : Bool → List Asked → Type 0
About h xs = (j : ℕ) → j < length xs → (get_or xs j none).after ≡ h

about_map : (h : Bool) (g : ℕ → ℕ) (es : List ℕ) → About h (map (λ e. leaf h (g e)) es)
about_map h g [] j l = absurd (not-suc-le-zero l)
about_map h g (e ∷ es) zero l = refl
about_map h g (e ∷ es) (suc j) l = about_map h g es j (le_of_suc-le-suc l)

about_append : (h : Bool) (xs ys : List Asked) → About h xs → About h ys → About h (xs ++ ys)
about_append h [] ys p q j l = q j l
about_append h (x ∷ xs) ys p q zero l = p 0 (omega arith)
about_append h (x ∷ xs) ys p q (suc j) l = about_append h xs ys (λ i g. p (suc i) (omega arith)) q j (le_of_suc-le-suc l)

module _ (f : File) (h : Bool) (x : Sides) (index : List ℕ) (is : List Leaf)
    (p : is ≡ map (leaf_of index f) (left_leaves f h x)) (b : AllBasic f (left_leaves f h x)) where
  abbrev r : ℕ
  r = length is

  abbrev outside : List Asked
  outside = outside_leaves f h x

  abbrev inner : List Asked
  inner = map (leaf (not h)) x.inner

  size_outside : length outside ≡ length (moved_left f x)
  size_outside = sym (length_kinds f outside) ∙ ap length (kinds_outside f h x)

  size_inner : length inner ≡ length (bracket f x)
  unfolding bracket
  size_inner = length-map x.inner (leaf (not h)) ∙ sym (length-map x.inner (kind_at f))

  size_left : r ≡ length (moved_left f x) + length (bracket f x)
  size_left =
      size_is index f _ is p ∙ sym (length_kinds f (left_leaves f h x)) ∙ ap length (kinds_left f h x)
      ∙ length-append (moved_left f x) (bracket f x)

  -- ---- their kinds

  row : (j : ℕ) → j < r → kind_of (leaf_in is j).set ≡ get_or (moved_left f x ++ bracket f x) j 0
  row j l = kind_at_lem index f _ is p b none j l ∙ ap (λ (ks : List ℕ). get_or ks j 0) (kinds_left f h x)

  row_outside : Row is 0 (moved_left f x)
  row_outside i l =
      let z : 0 + i ≡ i = omega arith in
      row (0 + i) (omega (arith, size_left)) ∙ ap (λ (j : ℕ). get_or (moved_left f x ++ bracket f x) j 0) z
      ∙ get_or-append (moved_left f x) (bracket f x) 0 i l

  row_inner : Row is (length (moved_left f x)) (bracket f x)
  row_inner i l = row (length (moved_left f x) + i) (omega (arith, size_left)) ∙ get_or-append-add (moved_left f x) (bracket f x) i 0

  -- ---- the states that they are asked about

  after_at : (j : ℕ) → j < r → (leaf_in is j).after ≡ (get_or (outside ++ inner) j none).after
  unfolding left_leaves leaf_of
  after_at j l = ap (λ (y : Leaf). y.after) (leaf_at_lem index f _ is p none j l)

  after_outside : (j : ℕ) → j < length (moved_left f x) → (leaf_in is j).after ≡ h
  after_outside j l =
      let g : j < length outside = omega (arith, size_outside) in
      let about : About h outside =
      about_append h (map (leaf h) (plain f x.outer)) (map (under f h) (turned f x.right))
      (about_map h (λ e. e) (plain f x.outer)) (about_map h (child f) (turned f x.right)) in
      after_at j (omega (arith, size_left)) ∙ ap (λ (y : Asked). y.after) (get_or-append outside inner none j g) ∙ about j g

  after_inner : (j : ℕ) → length (moved_left f x) ≤ j → j < r → (leaf_in is j).after ≡ not h
  after_inner j l g =
      let i : ℕ = j - length outside in
      let z : j ≡ length outside + i = omega (arith, size_outside) in
      let v : i < length inner = omega (arith, size_outside, size_inner, size_left) in
      after_at j g ∙ ap (λ (k : ℕ). (get_or (outside ++ inner) k none).after) z
      ∙ ap (λ (y : Asked). y.after) (get_or-append-add outside inner i none) ∙ about_map (not h) (λ e. e) x.inner i v

  -- ---- the leaves that may be the anchor

  module _ (rule out : ℕ) (asked : h ≡ eqb rule 2) (own : out ≡ length outside) where
    abbrev start : ℕ
    start = from_of rule out

    abbrev end : ℕ
    end = to_of rule out r

    record Place : Type 0 where
      row : Row is start (anchors_of f rule x)
      size : end ≡ start + length (anchors_of f rule x)
      within : end ≤ r
      old : (j : ℕ) → start ≤ j → j < end → (leaf_in is j).after ≡ false

    anchors_are : (t : Bool) → eqb rule 2 ≡ t → anchors_of f rule x ≡ elim t [ true ↦ bracket f x | false ↦ moved_left f x ]
    unfolding anchors_of
    anchors_are t = ap (λ (u : Bool). elim u [ true ↦ bracket f x | false ↦ moved_left f x ])

    inside_place : rule ≡ 2 → Place
    inside_place e =
        let t : eqb rule 2 ≡ true = eq-eqb rule 2 e in
        let a : anchors_of f rule x ≡ bracket f x = anchors_are true t in
        let u : start ≡ length (moved_left f x) = from_inside rule out r e ∙ own ∙ size_outside in
        let v : end ≡ r = to_inside rule out r e in
        record {
          row = rw (u, a) row_inner;
          size = rw (u, v, a) size_left;
          within = omega arith;
          old = λ j l g. after_inner j (omega arith) (omega arith) ∙ ap not (asked ∙ t);
        }

    outside_place : (rule ≡ 2 → ⊥) → Place
    outside_place e =
        let t : eqb rule 2 ≡ false = ne_eqb rule 2 e in
        let a : anchors_of f rule x ≡ moved_left f x = anchors_are false t in
        let u : start ≡ 0 = from_outside rule out r e in
        let v : end ≡ length (moved_left f x) = to_outside rule out r e ∙ own ∙ size_outside in
        record {
          row = rw (u, a) row_outside;
          size = rw (u, v, a) (omega arith);
          within = omega (arith, size_left);
          old = λ j l g. after_outside j (omega arith) ∙ asked ∙ t;
        }

    place : Place
    place =
        elim (excluded (eqb rule 2)) [
          | inl t ↦ inside_place (eqb→eq rule 2 t)
          | inr m ↦ outside_place (λ e. never (eqb rule 2) (same e) m)
        ]

    pub anchored : (a : Option ℕ) → Sought (lists_init f) is start end a → is_some a ≡ hit (lists_init f) (anchors_of f rule x)
    anchored = anchor_found (lists_init f) is (anchors_of f rule x) start end place.size place.row

    pub anchor_old : (a : ℕ) → Anchor (lists_init f) is start end a → (a < r) × ((leaf_in is a).after ≡ false)
    anchor_old a k = (omega (arith, place.within, k.within), place.old a k.after k.within)

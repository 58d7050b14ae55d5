-- What is gathered of a statement: the arrays hold its leaves, and the shape is permitted as document 01 says.
-- Assumes nothing.
use mathlib.Core.Path.{◌≡◌, refl, sym, ap, ap₂, ◌∙◌, subst}
use Prim.Native.Nat.{ℕ, ◌≤◌, ◌<◌}
use native.Mathlib.Omega.{arith}
use mathlib.Core.Bool.{Bool, true, false, not, ◌&&◌, ◌||◌}
use mathlib.Core.List.{List, [], ◌∷◌, ◌++◌, map}
use lib.ListN.{length, take}
use lib.Seq.{get_or-take}
use lib.Dec.{T, eqb, eqb→eq}
use Rattle.std.specs.Prelude.{Option, Some, None, is_some, Result, is_ok}
use Rattle.task.specs.Reach.{member, every}
use Rattle.task.proofs.Tests.{and_left, and_right, holds}
use Rattle.meaning.specs.File.{File}
use Rattle.meaning.specs.Shapes.{keep, Sides, is_basic, is_literal, moved_left, moved_right, bracket, lists_init}
use Rattle.counterexample.specs.Counter.{Asked, left_leaves, right_leaves}
use Rattle.leaves.specs.declared.Leaf.{Leaf}
use Rattle.leaves.specs.Leaves.{no_leaf, leaf_in, leaves_in}
use Rattle.shapes.specs.Gathered.{leaf_of, AllBasic, not_empty, kinds_of, after_of, left_of, right_of, Gathers}
use Rattle.parts.specs.Written.{sides_of, actions_of_rule}
use Rattle.shapes.specs.declared.shape.Counts.{Counts}
use Rattle.kinds.specs.declared.Flags.{Flags}
use Rattle.kinds.specs.declared.Gathered.{Gathered}
use Rattle.shapes.specs.Arrays.{Put}
use Rattle.kinds.specs.Summary.{may_anchor, kind_in, flags_in, Anchor, Sought, from_of, to_of, permits_by, Told, Summary}
use Rattle.parts.specs.Written.{literals_of, anchors_of}
use Rattle.shapes.specs.Arrays.{Filled, Zeros}
use Rattle.shapes.proofs.Filled.{kind_asked, filled_cases}
use Rattle.shapes.proofs.LeafKinds.{outside_leaves, kinds_left, kinds_right, right_count_is, basic_left, basic_right}
use Rattle.shapes.proofs.KindLaws.{hit, size_is, kind_in_lem}
use Rattle.shapes.proofs.PickLaws.{picked_outside_lem, picked_left_lem, picked_right_lem}
use Rattle.shapes.proofs.AnchorLaws.{anchored, anchor_old}
use Rattle.shapes.proofs.ShapeLaws.{flags_of}
use Rattle.shapes.proofs.SortLaws.{Sorted}

-- ---- leaves of kind 0 left out

module _ (f : File) where
  filled_basic : (xs : List Asked) → AllBasic f xs → AllBasic f (not_empty f xs)
  unfolding not_empty
  filled_basic [] a = tt
  filled_basic (x ∷ xs) a = let r = filled_basic xs a.1 in filled_cases f (AllBasic f) x xs (λ _. r) (λ _. (a.0, r))

  -- other kinds stay
  filled_member : (k : ℕ) → eqb k 0 ≡ false → (xs : List Asked) → member k (kinds_of f (not_empty f xs)) ≡ member k (kinds_of f xs)
  unfolding member not_empty kinds_of
  filled_member k e [] = refl
  filled_member k e (x ∷ xs) =
      let h = filled_member k e xs in
      filled_cases f (λ ys. member k (kinds_of f ys) ≡ (eqb k (kind_asked f x) || member k (kinds_of f xs))) x xs
      (λ t. h ∙ ap (λ (b : Bool). b || member k (kinds_of f xs)) (sym e ∙ ap (eqb k) (sym (eqb→eq (kind_asked f x) 0 t))))
      (λ _. ap (λ (b : Bool). eqb k (kind_asked f x) || b) h)

-- ---- the arrays

abbrev pub flags_by : File → Sides → Flags
flags_by f x = flags_of (moved_left f x ++ bracket f x) (moved_right f x)

abbrev pub count_by : File → Sides → ℕ
count_by f x = length (keep (λ k. not (eqb k 0)) (moved_right f x))

abbrev pub SortedBy : File → ℕ → Sides → Type 0
SortedBy f rule x = Sorted (flags_by f x) (count_by f x) (hit (lists_init f) (anchors_of f rule x))

-- what an option holds, if it holds something
some_in : (o : Option ℕ) → T (is_some o) → (j : ℕ) × (o ≡ Some j)
some_in None t = absurd t
some_in (Some j) t = (j, refl)

module _ (f : File) (index : List ℕ) (rule a b : ℕ) (lit : literals_of f (sides_of f rule a b) ≡ true)
    (left₀ left right₀ right : List Leaf) (n : Counts) (fill : Filled f index (eqb rule 2) (sides_of f rule a b) left₀ left right₀ right n)
  where
    abbrev x : Sides
    x = sides_of f rule a b

    abbrev h : Bool
    h = eqb rule 2

    abbrev lefts : List Asked
    lefts = left_leaves f h x

    abbrev rights : List Asked
    rights = not_empty f (right_leaves f h x)

    parts : (T (every (is_literal f) x.outer) × T (every (is_basic f) x.inner)) × T (every (is_literal f) x.right)
    unfolding literals_of
    parts =
        let o : Bool = every (is_literal f) x.outer in
        let i : Bool = every (is_basic f) x.inner in
        let q : Bool = every (is_literal f) x.right in
        let t : T (o && i && q) = holds lit in
        ((and_left o i (and_left (o && i) q t), and_right o i (and_left (o && i) q t)), and_right (o && i) q t)

    -- the leaves that are there
    abbrev lefts_in : List Leaf
    lefts_in = take n.left left

    abbrev rights_in : List Leaf
    rights_in = take n.right right

    on_left : Put index f lefts 0 left₀ left n.left
    on_left = subst (λ (ys : List Asked). Put index f ys 0 left₀ left n.left) (picked_left_lem f h x parts.0.1) fill.on_left

    on_right : Put index f rights 0 right₀ right n.right
    on_right = subst (λ (ys : List Asked). Put index f ys 0 right₀ right n.right) (picked_right_lem f h x) fill.on_right

    -- all are of kinds 0 to 5
    low_left : AllBasic f lefts
    low_left = basic_left f h x parts.0.0 parts.1 parts.0.1

    low_right : AllBasic f rights
    low_right = filled_basic f (right_leaves f h x) (basic_right f h x parts.0.0 parts.1)

    right_kinds : (k : ℕ) → eqb k 0 ≡ false → member k (kinds_of f rights) ≡ member k (moved_right f x)
    right_kinds k e = filled_member f k e (right_leaves f h x) ∙ ap (member k) (kinds_right f h x)

    left_are : lefts_in ≡ map (leaf_of index f) lefts
    unfolding leaves_in
    left_are = on_left.written

    right_are : rights_in ≡ map (leaf_of index f) rights
    unfolding leaves_in
    right_are = on_right.written

    left_has : (k : ℕ) → kind_in lefts_in k ≡ member k (kinds_of f lefts)
    left_has = kind_in_lem index f lefts lefts_in left_are low_left

    right_has : (k : ℕ) → kind_in rights_in k ≡ member k (kinds_of f rights)
    right_has = kind_in_lem index f rights rights_in right_are low_right

    right_number : length rights_in ≡ count_by f x
    right_number = size_is index f rights rights_in right_are ∙ right_count_is f h x

    flags_are : flags_in lefts_in rights_in ≡ flags_by f x
    unfolding flags_in
    flags_are =
        let l : (k : ℕ) → kind_in lefts_in k ≡ member k (moved_left f x ++ bracket f x) =
        λ k. left_has k ∙ ap (member k) (kinds_left f h x) in
        let m : (k : ℕ) → eqb k 0 ≡ false → kind_in rights_in k ≡ member k (moved_right f x) = λ k e. right_has k ∙ right_kinds k e in
        cc (l 3, l 4, l 5, m 3 refl, m 4 refl, m 5 refl)

    own : n.outside ≡ length (outside_leaves f h x)
    own = fill.outside ∙ ap length (picked_outside_lem f h x)

    abbrev Sorts : Type 0
    Sorts = SortedBy f rule x

    module _ (actions : ℕ) (r : Result Gathered Gathered) (dec : Summary (lists_init f) rule lefts_in n.outside rights_in actions r) where
      found : is_some dec.anchor ≡ hit (lists_init f) (anchors_of f rule x)
      found = anchored f h x index lefts_in left_are low_left rule n.outside refl own dec.anchor dec.sought

      -- the shape by the kinds on the two sides
      pub permits_are : is_ok r ≡ permits_by rule (flags_by f x) (count_by f x) (hit (lists_init f) (anchors_of f rule x))
      permits_are = dec.permits ∙ cc (flags_are, right_number, found)

      -- ---- the leaves

      module _ (g : Gathered) (t : Told lefts_in rights_in dec.anchor (to_of rule n.outside (length lefts_in)) actions g) where
        all_left : g.left_count ≡ n.left
        all_left = omega (arith, t.left_count_is, size_is index f lefts lefts_in left_are, on_left.count)

        all_right : g.right_count ≡ n.right
        all_right = omega (arith, t.right_count_is, size_is index f rights rights_in right_are, on_right.count)

        listed_is : g.listed ≡ ((flags_by f x).l3 || (flags_by f x).r3)
        unfolding flags_in
        listed_is = t.listed ∙ ap (λ (y : Flags). y.l3 || y.r3) flags_are

        -- what the sorts of kinds say
        clauses_few : Sorts → g.listed ≡ false
            → (g.right_count ≤ 2) × (T (member 4 (kinds_of f lefts)) → T (member 5 (kinds_of f lefts)) → ⊥)
        clauses_few s e =
            let w = s.clauses (sym listed_is ∙ e) in
            let apart = subst (λ (ks : List ℕ). T (member 4 ks) → T (member 5 ks) → ⊥) (sym (kinds_left f h x)) w.1 in
            (omega (arith, t.right_count_is, right_number, w.0), apart)

        abbrev Anchored : ℕ → Type 0
        Anchored j = (j < g.left_count) × T (may_anchor (lists_init f) (leaf_in left j).set) × ((leaf_in left j).after ≡ false)

        anchor_there : (j : ℕ) → Anchor (lists_init f) lefts_in (from_of rule n.outside) (to_of rule n.outside (length lefts_in)) j → Anchored j
        unfolding leaf_in
        anchor_there j k =
            let w = anchor_old f h x index lefts_in left_are low_left rule n.outside refl own j k in
            let l : j < n.left = omega (arith, w.0, t.left_count_is, all_left) in
            let e : leaf_in lefts_in j ≡ leaf_in left j = get_or-take n.left left j no_leaf l in (
              omega (arith, l, all_left),
              subst (λ (y : Leaf). T (may_anchor (lists_init f) y.set)) e k.here,
              sym (ap (λ (y : Leaf). y.after) e) ∙ w.1,
            )

        states_anchor : Sorts → g.listed ≡ true → Anchored g.anchor
        states_anchor s e =
            let o = some_in dec.anchor (subst T (sym found) (s.states (sym listed_is ∙ e))) in
            let k = subst (Sought (lists_init f) lefts_in (from_of rule n.outside) (to_of rule n.outside (length lefts_in))) o.1 dec.sought in
            subst Anchored (sym (t.anchor_is o.0 o.1)) (anchor_there o.0 k)

        -- where the kinds are permitted: all that is promised
        pub gathers : Zeros right₀ → (2 ≤ rule → rule ≤ 3 → actions ≡ actions_of_rule f rule a) → Sorts
            → Gathers f index rule a b left right g
        unfolding left_of right_of after_of leaves_in
        gathers zeros acts s = record {
          left_count_is = t.left_count_is ∙ size_is index f lefts lefts_in left_are;
          left_leaves_are = ap (leaves_in left) all_left ∙ on_left.written;
          few_left = omega (arith, all_left, fill.few.1);
          right_count_is = t.right_count_is ∙ size_is index f rights rights_in right_are;
          right_leaves_are = ap (leaves_in right) all_right ∙ on_right.written;
          few_right = omega (arith, all_right, fill.few.2);
          no_more = λ j l. on_right.rest j (omega (arith, all_right)) ∙ zeros j;
          listed = t.listed ∙ ap₂ ◌||◌ (left_has 3) (right_has 3);
          two = t.two ∙ left_has 5;
          action_set = λ i j. t.action_set ∙ acts i j;
          clauses = clauses_few s;
          anchored = states_anchor s;
          basic_left = low_left;
          basic_right = low_right;
        }

-- What stands in an array of leaves, leaf by leaf: kinds, which of them occur, and the anchor.
-- Assumes nothing.
use mathlib.Core.Path.{◌≡◌, refl, sym, ap, ap₂, ◌∙◌, subst}
use mathlib.Core.Logic.{inl, inr}
use Prim.Native.Nat.{ℕ, zero, suc, ◌+◌, ◌-◌, ◌<◌}
use native.Mathlib.Nat.{not-suc-le-zero, le_of_suc-le-suc}
use native.Mathlib.Omega.{arith}
use mathlib.Core.Bool.{Bool, true, false, ◌&&◌, ◌||◌, or_assoc}
use mathlib.Core.List.{List, [], ◌∷◌, ◌++◌, map}
use lib.ListN.{length, get_or, length-map}
use lib.Dec.{T, eqb, eqb→eq, leb}
use Rattle.std.specs.Prelude.{Option, Some, None, is_some}
use Rattle.task.specs.Reach.{member}
use Rattle.task.proofs.Tests.{both_ways, and_left, and_right, and_both, or_left, or_right, or_cases, same, is_true, is_false}
use Rattle.task.proofs.Tests.{member_first, member_rest, member_cases, member_none}
use Rattle.meaning.specs.File.{File, StateSet, basic, complement, intersection, union, progression, regression, state_set_at, state_kind}
use Rattle.meaning.specs.Shapes.{kind_at, is_basic}
use Rattle.counterexample.specs.Counter.{Asked}
use Rattle.certificate.specs.declared.BasicEntry.{BasicEntry}
use Rattle.certificate.specs.declared.BasicEntry.TheVariants.{Empty, Init, Goal, Explicit, Horn, TwoCnf}
use Rattle.certificate.specs.Views.{view_of}
use Rattle.certificate.specs.Index.{state_place}
use Rattle.leaves.specs.declared.Leaf.{Leaf}
use Rattle.leaves.specs.Leaves.{kind_of, no_leaf, leaf_in, basic_in, set_of}
use Rattle.nodes.proofs.NodeLaws.{basic_kind_lem}
use Rattle.shapes.specs.Gathered.{leaf_of, AllBasic, kinds_of}
use Rattle.kinds.specs.Summary.{may_anchor, kind_in, NoAnchor, Anchor, Sought}

-- ---- a number in a list, by its index

pub member_at : (xs : List ℕ) (i : ℕ) → i < length xs → T (member (get_or xs i 0) xs)
member_at [] i l = absurd (not-suc-le-zero l)
member_at (x ∷ xs) zero l = member_first x x xs refl
member_at (x ∷ xs) (suc i) l = member_rest (get_or xs i 0) x xs (member_at xs i (le_of_suc-le-suc l))

pub member_index : (k : ℕ) (xs : List ℕ) → T (member k xs) → (i : ℕ) × (i < length xs) × (get_or xs i 0 ≡ k)
member_index k [] t = absurd (member_none k t)
member_index k (x ∷ xs) t =
    elim (member_cases k x xs t) [
      | inl e ↦ (0, omega arith, sym e)
      | inr m ↦ (let w = member_index k xs m in let l : suc w.0 < suc (length xs) = omega (arith, w.1) in (suc w.0, l, w.2))
    ]

pub member_append : (k : ℕ) (xs ys : List ℕ) → member k (xs ++ ys) ≡ (member k xs || member k ys)
unfolding member
member_append k [] ys = refl
member_append k (x ∷ xs) ys =
    ap (λ (b : Bool). eqb k x || b) (member_append k xs ys) ∙ sym (or_assoc (eqb k x) (member k xs) (member k ys))

-- ---- leaves in an array

get_d_mapped : {A B : Type 0} (g : A → B) (xs : List A) (j : ℕ) (d : A) (e : B) → j < length xs → get_or (map g xs) j e ≡ g (get_or xs j d)
get_d_mapped g [] j d e l = absurd (not-suc-le-zero l)
get_d_mapped g (x ∷ xs) zero d e l = refl
get_d_mapped g (x ∷ xs) (suc j) d e l = get_d_mapped g xs j d e (le_of_suc-le-suc l)

-- one of kinds 0 to 5 as a leaf's set has its kind
pub set_kind : (index : List ℕ) (f : File) (e : ℕ) → T (is_basic f e) → kind_of (set_of index f e) ≡ kind_at f e
unfolding set_of basic_in view_of is_basic kind_at state_kind
set_kind index f e t = go (state_set_at f e) t
  where
    go : (x : StateSet) → T (leb (state_kind x) 5) → kind_of (basic_in (view_of (state_place index e) x)) ≡ state_kind x
    go (basic b) h = basic_kind_lem (state_place index e) b
    go (complement a) h = absurd h
    go (intersection a b) h = absurd h
    go (union a b) h = absurd h
    go (progression a b) h = absurd h
    go (regression a b) h = absurd h

pub length_kinds : (f : File) (xs : List Asked) → length (kinds_of f xs) ≡ length xs
unfolding kinds_of
length_kinds f xs = length-map xs (λ x. kind_at f x.entry)

module _ (index : List ℕ) (f : File) where
  leaf_kind : (xs : List Asked) → AllBasic f xs → (d : Asked) (j : ℕ) → j < length xs
      → kind_of (leaf_of index f (get_or xs j d)).set ≡ get_or (kinds_of f xs) j 0
  unfolding leaf_of kinds_of
  leaf_kind [] b d j l = absurd (not-suc-le-zero l)
  leaf_kind (x ∷ xs) b d zero l = set_kind index f x.entry b.0
  leaf_kind (x ∷ xs) b d (suc j) l = leaf_kind xs b.1 d j (le_of_suc-le-suc l)

  module _ (xs : List Asked) (is : List Leaf) (p : is ≡ map (leaf_of index f) xs) where
    pub size_is : length is ≡ length xs
    size_is = ap length p ∙ length-map xs (leaf_of index f)

    pub leaf_at_lem : (d : Asked) (j : ℕ) → j < length is → leaf_in is j ≡ leaf_of index f (get_or xs j d)
    unfolding leaf_in
    leaf_at_lem d j l =
        ap (λ (ys : List Leaf). get_or ys j no_leaf) p ∙ get_d_mapped (leaf_of index f) xs j d no_leaf (omega (arith, size_is))

    pub kind_at_lem : AllBasic f xs → (d : Asked) (j : ℕ) → j < length is → kind_of (leaf_in is j).set ≡ get_or (kinds_of f xs) j 0
    kind_at_lem b d j l = ap (λ (x : Leaf). kind_of x.set) (leaf_at_lem d j l) ∙ leaf_kind xs b d j (omega (arith, size_is))

  -- ---- kinds that occur

  kinds_there : (xs : List Asked) → AllBasic f xs → (k : ℕ) → kind_in (map (leaf_of index f) xs) k ≡ member k (kinds_of f xs)
  unfolding kind_in leaf_of kinds_of member
  kinds_there [] b k = refl
  kinds_there (x ∷ xs) b k =
      ap₂ ◌||◌ (ap (λ (n : ℕ). eqb n k) (set_kind index f x.entry b.0) ∙ eqb_turned (kind_at f x.entry) k) (kinds_there xs b.1 k)
    where
      eqb_turned : (m n : ℕ) → eqb m n ≡ eqb n m
      eqb_turned m n = both_ways (eqb m n) (eqb n m) (λ t. same (sym (eqb→eq m n t))) (λ t. same (sym (eqb→eq n m t)))

  pub kind_in_lem : (xs : List Asked) (is : List Leaf) → is ≡ map (leaf_of index f) xs → AllBasic f xs → (k : ℕ)
      → kind_in is k ≡ member k (kinds_of f xs)
  kind_in_lem xs is p b k = ap (λ (ys : List Leaf). kind_in ys k) p ∙ kinds_there xs b k

-- some leaves in a row have the kinds of a list
abbrev pub Row : List Leaf → ℕ → List ℕ → Type 0
Row is from ks = (i : ℕ) → i < length ks → kind_of (leaf_in is (from + i)).set ≡ get_or ks i 0

-- ---- the anchor

-- the kinds of sets whose states are listed
abbrev listed_kind : Bool → ℕ → Bool
listed_kind few k = eqb k 0 || (eqb k 1 && few) || eqb k 3

may_by_kind : (few : Bool) (b : BasicEntry) → may_anchor few b ≡ listed_kind few (kind_of b)
unfolding kind_of
may_by_kind few Empty = refl
may_by_kind true Init = refl
may_by_kind false Init = refl
may_by_kind few Goal = refl
may_by_kind few (Explicit s) = refl
may_by_kind few (Horn s) = refl
may_by_kind few (TwoCnf s) = refl

-- one of these kinds is among those of the list
unfoldable pub hit : Bool → List ℕ → Bool
hit few ks = member 0 ks || (member 1 ks && few) || member 3 ks

anchors_listed : (few : Bool) (k : ℕ) (ks : List ℕ) → T (member k ks) → T (listed_kind few k) → T (hit few ks)
unfolding hit
anchors_listed few k ks m t =
    let at : (j : ℕ) → T (eqb k j) → T (member j ks) = λ j e. subst (λ (i : ℕ). T (member i ks)) (eqb→eq k j e) m in
    elim (or_cases (eqb k 0 || (eqb k 1 && few)) (eqb k 3) t) [
      | inl u ↦ or_left (member 0 ks || (member 1 ks && few)) (member 3 ks) (elim (or_cases (eqb k 0) (eqb k 1 && few) u) [
        | inl e ↦ or_left (member 0 ks) (member 1 ks && few) (at 0 e)
        | inr e ↦ or_right (member 0 ks) (member 1 ks && few)
            (and_both (member 1 ks) few (at 1 (and_left (eqb k 1) few e)) (and_right (eqb k 1) few e))
      ])
      | inr e ↦ or_right (member 0 ks || (member 1 ks && few)) (member 3 ks) (at 3 e)
    ]

listed_anchors : (few : Bool) (ks : List ℕ) → T (hit few ks) → (k : ℕ) × T (member k ks) × T (listed_kind few k)
unfolding hit
listed_anchors few ks t =
    elim (or_cases (member 0 ks || (member 1 ks && few)) (member 3 ks) t) [
      | inl u ↦ elim (or_cases (member 0 ks) (member 1 ks && few) u) [
        | inl m ↦ (0, m, tt)
        | inr m ↦ (1, and_left (member 1 ks) few m, or_left few false (and_right (member 1 ks) few m))
      ]
      | inr m ↦ (3, m, tt)
    ]

-- an anchor is found if and only if one is there
module _ (few : Bool) (is : List Leaf) (ks : List ℕ) (from to : ℕ) (e : to ≡ from + length ks) (row : Row is from ks) where
  found_hit : (r : ℕ) → Anchor few is from to r → T (hit few ks)
  found_hit r h =
      let i : ℕ = r - from in
      let z : from + i ≡ r = omega (arith, h.after) in
      let g : i < length ks = omega (arith, h.after, h.within) in
      let q : kind_of (leaf_in is r).set ≡ get_or ks i 0 = sym (ap (λ (j : ℕ). kind_of (leaf_in is j).set) z) ∙ row i g in
      let u : may_anchor few (leaf_in is r).set ≡ listed_kind few (get_or ks i 0) = may_by_kind few (leaf_in is r).set ∙ ap (listed_kind few) q in
      anchors_listed few (get_or ks i 0) ks (member_at ks i g) (subst T u h.here)

  none_hit : NoAnchor few is from to → T (hit few ks) → ⊥
  none_hit h t =
      let w = listed_anchors few ks t in
      let v = member_index w.0 ks w.1 in
      let at : ℕ = from + v.0 in
      let q : kind_of (leaf_in is at).set ≡ w.0 = row v.0 v.1 ∙ v.2 in
      let u : listed_kind few w.0 ≡ may_anchor few (leaf_in is at).set = sym (may_by_kind few (leaf_in is at).set ∙ ap (listed_kind few) q) in
      h at (omega arith) (omega (arith, v.1)) (subst T u w.2)

  pub anchor_found : (r : Option ℕ) → Sought few is from to r → is_some r ≡ hit few ks
  anchor_found None h = sym (is_false (hit few ks) (none_hit h))
  anchor_found (Some r) h = sym (is_true (hit few ks) (found_hit r h))

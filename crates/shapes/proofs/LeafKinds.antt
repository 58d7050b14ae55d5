-- The kinds of a statement's leaves are those that the shape looks at, and the leaves of a permitted shape are of kinds 0 to 5.
-- Assumes nothing.
use mathlib.Core.Path.{◌≡◌, refl, ap, ap₂, subst, sym, ◌∙◌}
use mathlib.Core.Logic.Iff
use mathlib.Core.Logic.{inl, inr}
use Prim.Native.Nat.{ℕ}
use mathlib.Core.Bool.{Bool, true, false, not, ◌&&◌}
use mathlib.Core.List.{List, [], ◌∷◌, ◌++◌, map, map-append}
use lib.ListN.{length}
use lib.Dec.{T, eqb, eqb→eq, leb}
use Rattle.task.specs.Reach.{every}
use Rattle.task.proofs.Tests.{and_left, and_right, and_both, or_cases, not_of}
use Rattle.meaning.specs.File.{File}
use Rattle.meaning.specs.Shapes.{keep, Sides, kind_at, child, is_basic, is_complement, is_literal, literal_kind, complements, others}
use Rattle.meaning.specs.Shapes.{moved_left, moved_right, bracket}
use Rattle.counterexample.specs.Counter.{Asked, left_leaves, right_leaves}
use Rattle.counterexample.proofs.Lists.{keep_cases, every_map, of_append}
use Rattle.counterexample.proofs.Moved.{leaf, under, plain, turned}
use Rattle.shapes.specs.Gathered.{AllBasic, kinds_of, not_empty}
use Rattle.shapes.proofs.Filled.{kind_asked, filled_count}

module _ (f : File) where
  -- the left leaves outside the bracket
  abbrev pub outside_leaves : Bool → Sides → List Asked
  outside_leaves h x = map (leaf h) (plain f x.outer) ++ map (under f h) (turned f x.right)

  -- ---- the kind of a literal, its complement taken off

  literal_turned : (e : ℕ) → T (is_complement f e) → kind_at f (child f e) ≡ literal_kind f e
  unfolding literal_kind
  literal_turned e = go (is_complement f e)
    where
      go : (b : Bool) → T b → kind_at f (child f e) ≡ elim b [ true ↦ kind_at f (child f e) | false ↦ kind_at f e ]
      go true t = refl
      go false t = absurd t

  literal_plain : (e : ℕ) → T (not (is_complement f e)) → kind_at f e ≡ literal_kind f e
  unfolding literal_kind
  literal_plain e = go (is_complement f e)
    where
      go : (b : Bool) → T (not b) → kind_at f e ≡ elim b [ true ↦ kind_at f (child f e) | false ↦ kind_at f e ]
      go true t = absurd t
      go false t = refl

  kinds_kept : (q : ℕ → Bool) (g : ℕ → Asked) → ((e : ℕ) → T (q e) → kind_asked f (g e) ≡ literal_kind f e)
      → (es : List ℕ) → map (kind_asked f) (map g (keep q es)) ≡ map (literal_kind f) (keep q es)
  unfolding keep
  kinds_kept q g h [] = refl
  kinds_kept q g h (e ∷ es) =
      keep_cases q (λ ys. map (kind_asked f) (map g ys) ≡ map (literal_kind f) ys) e es
      (λ t. ap₂ (λ (k : ℕ) (ks : List ℕ). k ∷ ks) (h e t) (kinds_kept q g h es)) (λ _. kinds_kept q g h es)

  kinds_inner : (h : Bool) (es : List ℕ) → map (kind_asked f) (map (leaf h) es) ≡ map (kind_at f) es
  kinds_inner h [] = refl
  kinds_inner h (e ∷ es) = ap (λ (ks : List ℕ). kind_at f e ∷ ks) (kinds_inner h es)

  module _ (h : Bool) where
    kinds_others : (es : List ℕ) → map (kind_asked f) (map (leaf h) (plain f es)) ≡ others f es
    unfolding others
    kinds_others = kinds_kept (λ e. not (is_complement f e)) (leaf h) literal_plain

    kinds_complements : (es : List ℕ) → map (kind_asked f) (map (under f h) (turned f es)) ≡ complements f es
    unfolding complements
    kinds_complements = kinds_kept (is_complement f) (under f h) literal_turned

    -- the kinds of the left leaves, outside the bracket and all, and of the right leaves
    pub kinds_outside : (x : Sides) → kinds_of f (outside_leaves h x) ≡ moved_left f x
    unfolding kinds_of moved_left
    kinds_outside x =
        map-append (kind_asked f) (map (leaf h) (plain f x.outer)) (map (under f h) (turned f x.right))
        ∙ ap₂ ◌++◌ (kinds_others x.outer) (kinds_complements x.right)

    pub kinds_left : (x : Sides) → kinds_of f (left_leaves f h x) ≡ moved_left f x ++ bracket f x
    unfolding kinds_of left_leaves bracket
    kinds_left x =
        map-append (kind_asked f) (outside_leaves h x) (map (leaf (not h)) x.inner)
        ∙ ap₂ ◌++◌ (kinds_outside x) (kinds_inner (not h) x.inner)

    pub kinds_right : (x : Sides) → kinds_of f (right_leaves f h x) ≡ moved_right f x
    unfolding kinds_of right_leaves moved_right
    kinds_right x =
        map-append (kind_asked f) (map (leaf h) (plain f x.right)) (map (under f h) (turned f x.outer))
        ∙ ap₂ ◌++◌ (kinds_others x.right) (kinds_complements x.outer)

    -- as many right leaves as the shape counts, kind 0 not counted
    pub right_count_is : (x : Sides) → length (not_empty f (right_leaves f h x)) ≡ length (keep (λ k. not (eqb k 0)) (moved_right f x))
    unfolding kinds_of
    right_count_is x = filled_count f (right_leaves f h x) ∙ ap (λ (ks : List ℕ). length (keep (λ k. not (eqb k 0)) ks)) (kinds_right x)

  -- ---- literals are of kinds 0 to 5, complements taken off

  abbrev low : ℕ → Type 0
  low k = T (leb k 5)

  pub literal_basic : (e : ℕ) → T (is_literal f e) → T (leb (literal_kind f e) 5)
  unfolding is_literal is_basic is_complement
  literal_basic e t =
      elim (or_cases (is_basic f e) (is_complement f e && is_basic f (child f e)) t) [
        | inl b ↦ (
            let n : T (not (is_complement f e)) = not_of (is_complement f e) (λ c. subst low (eqb→eq (kind_at f e) 6 c) b) in
            subst low (literal_plain e n) b)
        | inr c ↦ (
            let t : T (is_complement f e) = and_left (is_complement f e) (is_basic f (child f e)) c in
            subst low (literal_turned e t) (and_right (is_complement f e) (is_basic f (child f e)) c))
      ]

  literals_basic : (q : ℕ → Bool) (es : List ℕ) → T (every (is_literal f) es) → T (every (λ k. leb k 5) (map (literal_kind f) (keep q es)))
  unfolding every keep
  literals_basic q [] t = tt
  literals_basic q (e ∷ es) t =
      let r = literals_basic q es (and_right (is_literal f e) (every (is_literal f) es) t) in
      keep_cases q (λ ys. T (every (λ k. leb k 5) (map (literal_kind f) ys))) e es
      (λ _. and_both (leb (literal_kind f e) 5) _ (literal_basic e (and_left (is_literal f e) (every (is_literal f) es) t)) r) (λ _. r)

  abbrev Low : List ℕ → Type 0
  Low ks = T (every (λ k. leb k 5) ks)

  low_append : (ks js : List ℕ) → Low ks → Low js → Low (ks ++ js)
  low_append ks js p r = (of_append (λ k. leb k 5) Low (λ _. Iff.rfl) ks js).1 (p, r)

  low_basic : (xs : List Asked) → Low (kinds_of f xs) → AllBasic f xs
  unfolding every kinds_of is_basic
  low_basic [] p = tt
  low_basic (x ∷ xs) p =
      let rest : Bool = every (λ k. leb k 5) (kinds_of f xs) in
      (and_left (is_basic f x.entry) rest p, low_basic xs (and_right (is_basic f x.entry) rest p))

  low_leaves : (xs : List Asked) (ks : List ℕ) → kinds_of f xs ≡ ks → Low ks → AllBasic f xs
  low_leaves xs ks e p = low_basic xs (subst Low (sym e) p)

  -- where the sides are literals and the bracket's leaves of kinds 0 to 5, all leaves are of kinds 0 to 5
  module _ (h : Bool) (x : Sides) (l : T (every (is_literal f) x.outer)) (r : T (every (is_literal f) x.right)) where
    low_both : (es ds : List ℕ) → T (every (is_literal f) es) → T (every (is_literal f) ds) → Low (others f es ++ complements f ds)
    unfolding others complements
    low_both es ds u v =
        low_append (others f es) (complements f ds) (literals_basic (λ e. not (is_complement f e)) es u)
        (literals_basic (is_complement f) ds v)

    pub basic_left : T (every (is_basic f) x.inner) → AllBasic f (left_leaves f h x)
    unfolding moved_left bracket is_basic
    basic_left i =
        low_leaves (left_leaves f h x) (moved_left f x ++ bracket f x) (kinds_left h x)
        (low_append (moved_left f x) (bracket f x) (low_both x.outer x.right l r)
        (subst T (sym (every_map (λ k. leb k 5) (kind_at f) x.inner)) i))

    pub basic_right : AllBasic f (right_leaves f h x)
    unfolding moved_right
    basic_right = low_leaves (right_leaves f h x) (moved_right f x) (kinds_right h x) (low_both x.right x.outer r l)

-- What a counterexample says of its leaves: over joined and mapped lists, by index,
-- and of a statement's leaves as they stood before complements changed sides.
-- Assumes nothing.
use mathlib.Core.Path.{ap, sym, ◌∙◌}
use mathlib.Core.Logic.Iff
use mathlib.Core.Logic.{◌↔◌}
use Prim.Native.Nat.{ℕ}
use mathlib.Core.Bool.{Bool, not, not-not}
use mathlib.Core.List.{List, [], ◌∷◌, ◌++◌, map}
use lib.Dec.{T}
use Rattle.task.specs.declared.Action.{Action}
use Rattle.task.specs.Reach.{every}
use Rattle.meaning.specs.File.{File}
use Rattle.meaning.proofs.Order.{Ordered}
use Rattle.meaning.specs.Sets.{in_set}
use Rattle.meaning.specs.Shapes.{keep, Sides, child, is_complement}
use Rattle.counterexample.specs.Counter.{Asked, seen, AllIn, NoneIn, left_leaves, right_leaves}
use Rattle.meaning.proofs.Sets.{and_iff}
use Rattle.counterexample.proofs.Lists.{every_split, kept_same, tests_agree, of_append, of_map}
use Rattle.counterexample.proofs.LeafLaws.{in_complement}

-- the leaf holds, asked as it says
abbrev pub asked : File → Action → ℕ → Asked → Bool
asked f a s x = in_set f x.entry (seen x.after a s)

module _ (f : File) (a : Action) (s : ℕ) where
  pub all_every : (xs : List Asked) → AllIn f a s xs ↔ T (every (asked f a s) xs)
  unfolding every
  all_every [] = ((λ p. p), (λ p. p))
  all_every (x ∷ xs) = Iff.trans (Iff.and ((λ p. p), (λ p. p)) (all_every xs)) (and_iff (asked f a s x) (every (asked f a s) xs))

  pub none_every : (xs : List Asked) → NoneIn f a s xs ↔ T (every (λ x. not (asked f a s x)) xs)
  unfolding every
  none_every [] = ((λ p. p), (λ p. p))
  none_every (x ∷ xs) = Iff.trans (Iff.and ((λ p. p), (λ p. p)) (none_every xs))
      (and_iff (not (asked f a s x)) (every (λ y. not (asked f a s y)) xs))

  pub all_append : (xs ys : List Asked) → AllIn f a s (xs ++ ys) ↔ (AllIn f a s xs × AllIn f a s ys)
  all_append = of_append (asked f a s) (AllIn f a s) all_every

  pub none_append : (xs ys : List Asked) → NoneIn f a s (xs ++ ys) ↔ (NoneIn f a s xs × NoneIn f a s ys)
  none_append = of_append (λ x. not (asked f a s x)) (NoneIn f a s) none_every

  pub all_map : {B : Type 0} (g : B → Asked) (xs : List B) → AllIn f a s (map g xs) ↔ T (every (λ x. asked f a s (g x)) xs)
  all_map = of_map (asked f a s) (AllIn f a s) all_every

  pub none_map : {B : Type 0} (g : B → Asked) (xs : List B) → NoneIn f a s (map g xs) ↔ T (every (λ x. not (asked f a s (g x))) xs)
  none_map = of_map (λ x. not (asked f a s x)) (NoneIn f a s) none_every

-- ---- the leaves before complements changed sides

-- an entry, and the child of one, as leaves
abbrev pub leaf : Bool → ℕ → Asked
leaf h e = record { entry = e; after = h }

abbrev pub under : File → Bool → ℕ → Asked
under f h e = leaf h (child f e)

-- the entries that are no complements, and those that are
abbrev pub plain : File → List ℕ → List ℕ
plain f = keep (λ e. not (is_complement f e))

abbrev pub turned : File → List ℕ → List ℕ
turned f = keep (is_complement f)

module _ (f : File) (o : Ordered f) (x : Sides) (a : Action) (s : ℕ) where
  -- every entry of the list holds at u; none does
  abbrev All : ℕ → List ℕ → Type 0
  All u es = T (every (λ e. in_set f e u) es)

  abbrev None : ℕ → List ℕ → Type 0
  None u es = T (every (λ e. not (in_set f e u)) es)

  -- a complement holds where its child does not
  child_all : (u : ℕ) (es : List ℕ) → T (every (λ e. in_set f (child f e) u) (turned f es)) ↔ None u (turned f es)
  child_all u es =
      tests_agree (kept_same (is_complement f) _ _ (λ e c. sym (not-not (in_set f (child f e) u))
      ∙ sym (ap not (in_complement f o e c u))) es)

  child_none : (u : ℕ) (es : List ℕ) → T (every (λ e. not (in_set f (child f e) u)) (turned f es)) ↔ All u (turned f es)
  child_none u es = tests_agree (kept_same (is_complement f) _ _ (λ e c. sym (in_complement f o e c u)) es)

  split : (t : ℕ → Bool) (es : List ℕ) → (T (every t (turned f es)) × T (every t (plain f es))) ↔ T (every t es)
  split t es = Iff.trans (and_iff (every t (turned f es)) (every t (plain f es))) (tests_agree (sym (every_split (is_complement f) t es)))

  left_parts : (h : Bool) → AllIn f a s (left_leaves f h x)
      ↔ ((All (seen h a s) (plain f x.outer) × None (seen h a s) (turned f x.right)) × All (seen (not h) a s) x.inner)
  unfolding left_leaves
  left_parts h =
      let outer : List Asked = map (leaf h) (plain f x.outer) in
      let moved : List Asked = map (under f h) (turned f x.right) in
      let inner : List Asked = map (leaf (not h)) x.inner in
      let m : AllIn f a s moved ↔ None (seen h a s) (turned f x.right) =
      Iff.trans (all_map f a s (under f h) (turned f x.right)) (child_all (seen h a s) x.right) in
      let l : AllIn f a s (outer ++ moved) ↔ (All (seen h a s) (plain f x.outer) × None (seen h a s) (turned f x.right)) =
      Iff.trans (all_append f a s outer moved) (Iff.and (all_map f a s (leaf h) (plain f x.outer)) m) in
      Iff.trans (all_append f a s (outer ++ moved) inner) (Iff.and l (all_map f a s (leaf (not h)) x.inner))

  right_parts : (h : Bool) → NoneIn f a s (right_leaves f h x)
      ↔ (None (seen h a s) (plain f x.right) × All (seen h a s) (turned f x.outer))
  unfolding right_leaves
  right_parts h =
      let m : NoneIn f a s (map (under f h) (turned f x.outer)) ↔ All (seen h a s) (turned f x.outer) =
      Iff.trans (none_map f a s (under f h) (turned f x.outer)) (child_none (seen h a s) x.outer) in
      Iff.trans (none_append f a s (map (leaf h) (plain f x.right)) (map (under f h) (turned f x.outer)))
      (Iff.and (none_map f a s (leaf h) (plain f x.right)) m)

  -- as written: every outer leaf holds and no right leaf does in the one state, every leaf of the bracket holds in the other
  abbrev pub AsWritten : Bool → Type 0
  AsWritten h = (All (seen h a s) x.outer × None (seen h a s) x.right) × All (seen (not h) a s) x.inner

  pub as_written : (h : Bool) → (AllIn f a s (left_leaves f h x) × NoneIn f a s (right_leaves f h x)) ↔ AsWritten h
  as_written h = (
    (λ p.
        let l = (left_parts h).0 p.0 in
        let r = (right_parts h).0 p.1 in
        (((split _ x.outer).0 (r.1, l.0.0), (split _ x.right).0 (l.0.1, r.0)), l.1)),
    (λ p.
        let l = (split _ x.outer).1 p.0.0 in
        let r = (split _ x.right).1 p.0.1 in
        ((left_parts h).1 ((l.1, r.0), p.1), (right_parts h).1 (r.1, l.0))),
  )

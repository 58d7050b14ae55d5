-- The leaves that were gathered hold what the entries do that they stand for, so that an action which makes the statement of the leaves
-- untrue makes that of the entries untrue, and the other way round.
-- Assumes nothing.
use mathlib.Core.Path.{◌≡◌, sym, ap, subst}
use mathlib.Core.Logic.Iff
use mathlib.Core.Logic.{◌↔◌}
use Prim.Native.Nat.{ℕ}
use mathlib.Core.Bool.{not}
use mathlib.Core.List.{List, [], ◌∷◌, map}
use lib.Dec.{T}
use Rattle.task.specs.declared.Action.{Action}
use Rattle.task.specs.declared.Ends.{Ends}
use Rattle.task.specs.Inner.{ends_of}
use Rattle.certificate.specs.Known.{Known, decoded}
use Rattle.certificate.proofs.KnownLaws.{read_ordered}
use Rattle.meaning.specs.File.{File}
use Rattle.meaning.specs.Shapes.{is_basic}
use Rattle.counterexample.specs.Counter.{Asked, seen, AllIn, NoneIn, Refuted}
use Rattle.counterexample.proofs.Lists.{tests_agree}
use Rattle.counterexample.proofs.Moved.{asked}
use Rattle.counterexample.proofs.LeafLaws.{basic_of_lem}
use Rattle.leaves.specs.declared.Leaf.{Leaf}
use Rattle.leaves.specs.Lists.{Each, leaf_holds, Countered}
use Rattle.leaves.proofs.KnownLeaves.{known_holds}
use Rattle.shapes.specs.Gathered.{leaf_of, AllBasic}

module _ (bytes : List ℕ) (index : List ℕ) (k : Known bytes index) where
  abbrev f : File
  f = decoded bytes

  abbrev ends : Ends
  ends = ends_of f.task

  module _ (a : Action) (s : ℕ) where
    -- a leaf holds the state that it is asked about just where its entry does
    leaf_holds_lem : (x : Asked) → T (is_basic f x.entry) → leaf_holds bytes ends a s (leaf_of index f x) ≡ asked f a s x
    unfolding leaf_holds leaf_of
    leaf_holds_lem x b =
        let (c, q) = basic_of_lem f (read_ordered bytes k.read) x.entry b in
        known_holds bytes index k x.entry c q (seen x.after a s)

    all_hold : (xs : List Asked) → AllBasic f xs → Each (λ y. T (leaf_holds bytes ends a s y)) (map (leaf_of index f) xs) ↔ AllIn f a s xs
    all_hold [] b = ((λ h. h), (λ h. h))
    all_hold (x ∷ xs) b = Iff.and (tests_agree (leaf_holds_lem x b.0)) (all_hold xs b.1)

    none_hold : (xs : List Asked) → AllBasic f xs
        → Each (λ y. T (not (leaf_holds bytes ends a s y))) (map (leaf_of index f) xs) ↔ NoneIn f a s xs
    none_hold [] b = ((λ h. h), (λ h. h))
    none_hold (x ∷ xs) b = Iff.and (tests_agree (ap not (leaf_holds_lem x b.0))) (none_hold xs b.1)

  pub countered_refuted : (a : Action) (left right : List Leaf) (xs ys : List Asked) → AllBasic f xs → AllBasic f ys
      → left ≡ map (leaf_of index f) xs → right ≡ map (leaf_of index f) ys → Countered bytes ends a left right ↔ Refuted f a xs ys
  unfolding ends_of
  countered_refuted a left right xs ys b c l r =
      subst (λ (zs : List Leaf). Countered bytes ends a zs right ↔ Refuted f a xs ys) (sym l)
      (subst (λ (zs : List Leaf). Countered bytes ends a (map (leaf_of index f) xs) zs ↔ Refuted f a xs ys) (sym r) (
        (λ w. (w.state, w.low, w.allowed, (all_hold a w.state xs b).0 w.holds, (none_hold a w.state ys c).0 w.fails)),
        (λ (s, low, allowed, holds, fails). record {
          state = s;
          low = low;
          allowed = allowed;
          holds = (all_hold a s xs b).1 holds;
          fails = (none_hold a s ys c).1 fails;
        }),
      ))

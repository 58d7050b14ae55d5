-- Right leaves of kind 0 hold nothing: a counterexample stays one where they are dropped or put in.
-- Assumes nothing.
use mathlib.Core.Path.{◌≡◌, refl, ap, subst, sym}
use mathlib.Core.Logic.Iff
use mathlib.Core.Logic.{◌↔◌}
use Prim.Native.Nat.{ℕ, suc}
use mathlib.Core.Bool.{Bool, true, false, not}
use mathlib.Core.List.{List, [], ◌∷◌, ◌++◌, map}
use lib.ListN.{length}
use lib.Dec.{T, eqb}
use Rattle.task.specs.declared.Action.{Action}
use Rattle.meaning.specs.File.{File}
use Rattle.meaning.proofs.Order.{Ordered}
use Rattle.meaning.specs.Shapes.{keep, kind_at}
use Rattle.counterexample.specs.Counter.{Asked, seen, NoneIn, Counter}
use Rattle.shapes.specs.Gathered.{not_empty}
use Rattle.counterexample.proofs.LeafLaws.{in_empty}

-- the kind of an entry that is asked
abbrev pub kind_asked : File → Asked → ℕ
kind_asked f x = kind_at f x.entry

module _ (f : File) where
  -- one more leaf
  pub filled_cases : (P : List Asked → Type 0) (x : Asked) (xs : List Asked)
      → (T (eqb (kind_asked f x) 0) → P (not_empty f xs)) → (T (not (eqb (kind_asked f x) 0)) → P (x ∷ not_empty f xs))
      → P (not_empty f (x ∷ xs))
  unfolding not_empty
  filled_cases P x xs = go (eqb (kind_asked f x) 0)
    where
      go : (b : Bool) → (T b → P (not_empty f xs)) → (T (not b) → P (x ∷ not_empty f xs))
          → P (elim b [ true ↦ not_empty f xs | false ↦ x ∷ not_empty f xs ])
      go true e l = e tt
      go false e l = l tt

  pub filled_append : (xs ys : List Asked) → not_empty f (xs ++ ys) ≡ not_empty f xs ++ not_empty f ys
  unfolding not_empty
  filled_append [] ys = refl
  filled_append (x ∷ xs) ys = go (eqb (kind_asked f x) 0) (filled_append xs ys)
    where
      unless : Bool → List Asked → List Asked
      unless b zs = elim b [ true ↦ zs | false ↦ x ∷ zs ]

      go : (b : Bool) → not_empty f (xs ++ ys) ≡ not_empty f xs ++ not_empty f ys
          → unless b (not_empty f (xs ++ ys)) ≡ unless b (not_empty f xs) ++ not_empty f ys
      go true e = e
      go false e = ap (λ (zs : List Asked). x ∷ zs) e

  -- as many as there are kinds other than 0
  pub filled_count : (xs : List Asked) → length (not_empty f xs) ≡ length (keep (λ k. not (eqb k 0)) (map (kind_asked f) xs))
  unfolding not_empty keep
  filled_count [] = refl
  filled_count (x ∷ xs) = go (eqb (kind_asked f x) 0) (filled_count xs)
    where
      rest : List ℕ
      rest = keep (λ k. not (eqb k 0)) (map (kind_asked f) xs)

      go : (b : Bool) → length (not_empty f xs) ≡ length rest
          → length {A = Asked} (elim b [ true ↦ not_empty f xs | false ↦ x ∷ not_empty f xs ])
          ≡ length {A = ℕ} (elim (not b) [ true ↦ kind_asked f x ∷ rest | false ↦ rest ])
      go true e = e
      go false e = ap suc e

  module _ (o : Ordered f) where
    module _ (a : Action) (s : ℕ) where
      pub none_pad : (x : Asked) → T (eqb (kind_asked f x) 0) → (xs : List Asked) → NoneIn f a s xs ↔ NoneIn f a s (x ∷ xs)
      none_pad x e xs = (
        (λ p. (subst (λ (t : Bool). T (not t)) (sym (in_empty f o x.entry e (seen x.after a s))) tt, p)),
        (λ p. p.1),
      )

      pub none_filled : (xs : List Asked) → NoneIn f a s (not_empty f xs) ↔ NoneIn f a s xs
      unfolding not_empty
      none_filled [] = Iff.rfl
      none_filled (x ∷ xs) =
          filled_cases (λ ys. NoneIn f a s ys ↔ NoneIn f a s (x ∷ xs)) x xs
          (λ e. Iff.trans (none_filled xs) (none_pad x e xs)) (λ _. Iff.and Iff.rfl (none_filled xs))

    module _ (acts : Action → Type 0) where
      -- a counterexample with one list of right leaves is one with another
      pub counter_right : (left xs ys : List Asked) → ((a : Action) (s : ℕ) → NoneIn f a s xs → NoneIn f a s ys) → Counter f acts left xs
          → Counter f acts left ys
      counter_right left xs ys h c = record {
        action = c.action;
        chosen = c.chosen;
        state = c.state;
        low = c.low;
        allowed = c.allowed;
        holds = c.holds;
        fails = h c.action c.state c.fails;
      }

      -- right leaves of kind 0 can be dropped, and one can be put in anywhere
      pub drop_empty : (left xs : List Asked) → Counter f acts left (not_empty f xs) ↔ Counter f acts left xs
      drop_empty left xs = (
        counter_right left (not_empty f xs) xs (λ a s. (none_filled a s xs).0),
        counter_right left xs (not_empty f xs) (λ a s. (none_filled a s xs).1),
      )

-- The rules of 6 to 14 whose code tests entries by name, as these tests.
-- Assumes nothing.
use Prim.Native.Nat.{ℕ}
use mathlib.Core.Path.{◌≡◌}
use mathlib.Core.Bool.{◌&&◌}
use mathlib.Core.List.{[], ◌∷◌}
use lib.Dec.{eqb}
use Rattle.certificate.specs.declared.Judgement.TheVariants.{Dead, Within, Unsolvable}
use Rattle.meaning.specs.File.{complement, File, state_set_at, first, second}
use Rattle.patterns.specs.Tests.{of_sort, names, names_both, names_goal, names_complement_goal, names_all}
use Rattle.rules.specs.Derives.{rule_numbered, follows}
use Rattle.rules.proofs.RuleLaws.{eqb_comm, chain, opened}

module _ (f : File) where
  -- 6 ED: 0 dead
  pub ed : (e : ℕ) → of_sort f 0 e ≡ follows f (rule_numbered 6) (Dead e) []
  unfolding opened
  ed e = simp chain

  -- 7 UD: S dead, U dead; S+U dead
  pub ud : (e s u : ℕ) → names_both f 8 e s u ≡ follows f (rule_numbered 7) (Dead e) (Dead s ∷ Dead u ∷ [])
  unfolding opened
  ud e s u = simp (eqb_comm s (first (state_set_at f e)), eqb_comm u (second (state_set_at f e)), chain)

  -- 9 PG: S[T]<S+U, U dead, S&G dead; S dead
  pub pg : (e l r u m : ℕ)
      → (names_all f 9 l e && (names_both f 8 r e u && names_goal f m e))
      ≡ follows f (rule_numbered 9) (Dead e) (Within l r ∷ Dead u ∷ Dead m ∷ [])
  unfolding opened
  pg e l r u m = simp (eqb_comm u (second (state_set_at f r)), chain)

  -- 10 PI: S[T]<S+U, U dead, I<S; ~S dead
  pub pi : (e l r u i m s : ℕ) → state_set_at f e ≡ complement s
      → (names_all f 9 l s && (names_both f 8 r s u && (of_sort f 1 i && eqb m s)))
      ≡ follows f (rule_numbered 10) (Dead e) (Within l r ∷ Dead u ∷ Within i m ∷ [])
  unfolding opened
  pi e l r u i m s h = simp (h, eqb_comm u (second (state_set_at f r)), chain)

  -- 11 RG: [T]S<S+U, U dead, ~S&G dead; ~S dead
  pub rg : (e l r u m s : ℕ) → state_set_at f e ≡ complement s
      → (names_all f 10 l s && (names_both f 8 r s u && names_complement_goal f m s))
      ≡ follows f (rule_numbered 11) (Dead e) (Within l r ∷ Dead u ∷ Dead m ∷ [])
  unfolding opened
  rg e l r u m s h = simp (h, eqb_comm u (second (state_set_at f r)), chain)

  -- 12 RI: [T]S<S+U, U dead, I<~S; S dead
  pub ri : (e l r u i m : ℕ)
      → (names_all f 10 l e && (names_both f 8 r e u && (of_sort f 1 i && names f 6 m e)))
      ≡ follows f (rule_numbered 12) (Dead e) (Within l r ∷ Dead u ∷ Within i m ∷ [])
  unfolding opened
  ri e l r u i m = simp (eqb_comm u (second (state_set_at f r)), chain)

  -- 13 CI: I dead; unsolvable
  pub ci : (e : ℕ) → of_sort f 1 e ≡ follows f (rule_numbered 13) Unsolvable (Dead e ∷ [])
  unfolding opened
  ci e = simp chain

  -- 14 CG: G dead; unsolvable
  pub cg : (e : ℕ) → of_sort f 2 e ≡ follows f (rule_numbered 14) Unsolvable (Dead e ∷ [])
  unfolding opened
  cg e = simp chain

-- Numbers that name no entry of the file, in premises (document 02, f): they fit letters and nothing else that the rules have there.
-- Assumes nothing.
use mathlib.Core.Path.{◌≡◌, refl}
use mathlib.Core.Logic.{◌⊎◌, inl, inr}
use Prim.Native.Nat.{ℕ, suc, ◌≤◌}
use mathlib.Core.Bool.{Bool, true, false}
use mathlib.Core.Option.{none}
use mathlib.Core.List.{List, [], ◌∷◌}
use lib.ListN.{length, get_or-eq_default}
use lib.Dec.{T}
use Rattle.task.specs.Reach.{every}
use Rattle.meaning.specs.File.{File, basic, empty, state_set_at, basic_kind, state_kind}
use Rattle.meaning.specs.Writing.{AllFrom}
use Rattle.meaning.specs.Rules.{StatePattern, letter, O, I, G, ∼◌, ◌∩◌, ◌∪◌, prog, regr, rules}
use Rattle.meaning.specs.Match.{Letters, ◌then◌, given, of_kind, match}
use Rattle.meaning.specs.Rounds.{premises_of, named_sets}
use Rattle.meaning.specs.Points.{OutsideFitsLetters}
use Rattle.meaning.proofs.Results.{and_out}

-- what passes a test has a property: so have all of a list
all_of : {A : Type 0} (t : A → Bool) (P : A → Type 0) → ((x : A) → T (t x) → P x) → (xs : List A) (i : ℕ) → T (every t xs)
    → AllFrom (λ _. P) i xs
unfolding every
all_of t P h [] i e = tt
all_of t P h (x ∷ xs) i e = let b = and_out (t x) (every t xs) e in (h x b.0, all_of t P h xs (suc i) b.1)

-- a missing entry is taken for an empty set: so what is asked of a pattern is that it is not that of the empty set
not_empty : StatePattern → Bool
not_empty (letter x) = true
not_empty O = false
not_empty I = true
not_empty G = true
not_empty (∼ p) = true
not_empty (p ∩ q) = true
not_empty (p ∪ q) = true
not_empty (prog p q) = true
not_empty (regr p q) = true

module _ (f : File) (e : ℕ) (σ : Letters) (l : length f.state_sets ≤ e) where
  missing : state_set_at f e ≡ basic empty
  unfolding state_set_at
  missing = get_or-eq_default f.state_sets (basic empty) l

  fits : (p : StatePattern) → T (not_empty p) → ((x : ℕ) × (p ≡ letter x)) ⊎ (match f p e σ ≡ none)
  unfolding not_empty match of_kind given ◌then◌ state_kind basic_kind
  fits (letter x) t = inl (x, refl)
  fits O t = absurd t
  fits I t = inr (rw missing refl)
  fits G t = inr (rw missing refl)
  fits (∼ p) t = inr (rw missing refl)
  fits (p ∩ q) t = inr (rw missing refl)
  fits (p ∪ q) t = inr (rw missing refl)
  fits (prog p q) t = inr (rw missing refl)
  fits (regr p q) t = inr (rw missing refl)

pub outside_fits_letters : OutsideFitsLetters
unfolding rules premises_of named_sets every not_empty
outside_fits_letters f e σ l =
    all_of (λ rule. every (λ premise. every not_empty (named_sets premise)) (premises_of rule)) _
    (λ rule. all_of (λ premise. every not_empty (named_sets premise)) _
    (λ premise. all_of not_empty _ (fits f e σ l) (named_sets premise) 0) (premises_of rule) 0) rules 0 tt

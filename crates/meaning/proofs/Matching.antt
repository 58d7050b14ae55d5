-- A pattern that matches an entry is, where the letters stand for their entries' sets, the entry's set.
-- Assumes nothing.
use mathlib.Core.Path.{◌≡◌, sym, subst}
use mathlib.Core.Logic.Iff
use mathlib.Core.Option.{Option, none, some}
use Prim.Native.Nat.{ℕ}
use Rattle.task.specs.System.{States, Actions}
use Rattle.task.proofs.Moves.{Bounded, system}
use Rattle.meaning.specs.File.{File, action_set_at, state_set_at, first, second, first_action, second_action}
use Rattle.meaning.proofs.Order.{Ordered}
use Rattle.meaning.proofs.Sets.{states_of, actions_of, at_empty, at_init_lem, at_goal_lem, at_complement, at_intersection, at_union}
use Rattle.meaning.proofs.Sets.{at_progression, at_regression, at_all, at_either}
use Rattle.meaning.specs.Rules.{ActionPattern, letterᴬ, T, ◌∪ᴬ◌, StatePattern, letter, O, I, G, ∼◌, ◌∩◌, ◌∪◌, prog, regr}
use Rattle.meaning.specs.Truth.{valueᴬ, value}
use Rattle.meaning.specs.Match.{Letters, of_kind, of_action_kind, matchᴬ, match}
use Rattle.meaning.proofs.Letters.{Told, told_map, told_given, told_then, told_two, told_letter}
use Rattle.meaning.proofs.Same.{Same, same_or, same_progression, same_regression}

module _ (f : File) where
  -- the sets that the letters stand for: a letter of which nothing is known, for the empty set
  abbrev state_letter : Option ℕ → States (system f.task)
  state_letter none = λ s. ⊥
  state_letter (some e) = states_of f e

  abbrev action_letter : Option ℕ → Actions (system f.task)
  action_letter none = λ i. ⊥
  action_letter (some a) = actions_of f a

  abbrev pub state_letters : Letters → ℕ → States (system f.task)
  state_letters υ x = state_letter (υ x)

  abbrev pub action_letters : Letters → ℕ → Actions (system f.task)
  action_letters υ x = action_letter (υ x)

  -- the pattern is entry e's set
  abbrev pub Is : StatePattern → ℕ → Letters → Type 0
  Is p e υ = Same (value (system f.task) (state_letters υ) (action_letters υ) p) (states_of f e)

  abbrev pub Isᴬ : ActionPattern → ℕ → Letters → Type 0
  Isᴬ p a υ = Same (valueᴬ (system f.task) (state_letters υ) (action_letters υ) p) (actions_of f a)

module _ (f : File) (o : Ordered f) (b : Bounded f.task) where
  pub matchedᴬ : (p : ActionPattern) (a : ℕ) (σ τ : Letters) → matchᴬ f p a σ ≡ some τ → Told (Isᴬ f p a) σ τ
  unfolding matchᴬ of_action_kind
  matchedᴬ (letterᴬ x) a σ τ h =
      told_map (told_letter x a σ τ h) (λ υ k. subst (λ (m : Option ℕ). Same (action_letter f m) (actions_of f a)) (sym k) (λ i. Iff.rfl))
  matchedᴬ T a σ τ h = told_map (told_given _ σ τ h) (λ υ t. at_all f o b a t)
  matchedᴬ (p ∪ᴬ q) a σ τ h =
      told_map (told_two _ _ _ σ τ (matchedᴬ p (first_action (action_set_at f a))) (matchedᴬ q (second_action (action_set_at f a))) h)
      (λ υ w i. Iff.trans (same_or (w.0.1 i) (w.1 i)) (at_either f o b a w.0.0 i))

  pub matched : (p : StatePattern) (e : ℕ) (σ τ : Letters) → match f p e σ ≡ some τ → Told (Is f p e) σ τ
  unfolding match of_kind
  matched (letter x) e σ τ h =
      told_map (told_letter x e σ τ h) (λ υ k. subst (λ (m : Option ℕ). Same (state_letter f m) (states_of f e)) (sym k) (λ s. Iff.rfl))
  matched O e σ τ h = told_map (told_given _ σ τ h) (λ υ t. at_empty f o b e t)
  matched I e σ τ h = told_map (told_given _ σ τ h) (λ υ t. at_init_lem f o b e t)
  matched G e σ τ h = told_map (told_given _ σ τ h) (λ υ t. at_goal_lem f o b e t)
  matched (∼ p) e σ τ h =
      told_map (told_then _ _ σ τ (λ σ' k. told_given _ σ σ' k) (λ σ' k. matched p (first (state_set_at f e)) σ' τ k) h)
      (λ υ w s. Iff.trans (Iff.not (w.1 s)) (at_complement f o b e w.0 s))
  matched (p ∩ q) e σ τ h =
      told_map (told_two _ _ _ σ τ (matched p (first (state_set_at f e))) (matched q (second (state_set_at f e))) h)
      (λ υ w s. Iff.trans (Iff.and (w.0.1 s) (w.1 s)) (at_intersection f o b e w.0.0 s))
  matched (p ∪ q) e σ τ h =
      told_map (told_two _ _ _ σ τ (matched p (first (state_set_at f e))) (matched q (second (state_set_at f e))) h)
      (λ υ w s. Iff.trans (same_or (w.0.1 s) (w.1 s)) (at_union f o b e w.0.0 s))
  matched (prog p q) e σ τ h =
      told_map (told_two _ _ _ σ τ (matched p (first (state_set_at f e))) (matchedᴬ q (second (state_set_at f e))) h)
      (λ υ w s. Iff.trans (same_progression (system f.task) w.0.1 w.1 s) (at_progression f o b e w.0.0 s))
  matched (regr p q) e σ τ h =
      told_map (told_two _ _ _ σ τ (matched p (first (state_set_at f e))) (matchedᴬ q (second (state_set_at f e))) h)
      (λ υ w s. Iff.trans (same_regression (system f.task) w.0.1 w.1 s) (at_regression f o b e w.0.0 s))

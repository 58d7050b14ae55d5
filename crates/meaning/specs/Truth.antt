-- What a pattern says in a transition system, where each letter stands for a set; and when a rule is sound.
-- Assumes nothing.
use Rattle.std.specs.Prelude.{ℕ, ◌⊎◌, List, [], ◌∷◌}
use Rattle.task.specs.System.{System, States, Actions, DeadIn, UnsolvableIn, Progression, Regression}
use Rattle.meaning.specs.Rules.{ActionPattern, letterᴬ, T, ◌∪ᴬ◌, StatePattern, letter, O, I, G, ∼◌, ◌∩◌, ◌∪◌, prog, regr, Pattern, dead, ◌⊑◌, ◌⊑ᴬ◌, unsolvable, Rule, ◌⊢◌}

module _ (y : System) (ρ : ℕ → States y) (α : ℕ → Actions y) where
  abbrev pub valueᴬ : ActionPattern → Actions y
  valueᴬ (letterᴬ x) = α x
  valueᴬ T = λ a. Unit {0}
  valueᴬ (p ∪ᴬ q) = λ a. valueᴬ p a ⊎ valueᴬ q a

  abbrev pub value : StatePattern → States y
  value (letter x) = ρ x
  value O = λ s. ⊥
  value I = y.Init
  value G = y.Goal
  value (∼ p) = λ s. value p s → ⊥
  value (p ∩ q) = λ s. value p s × value q s
  value (p ∪ q) = λ s. value p s ⊎ value q s
  value (prog p q) = Progression y (value p) (valueᴬ q)
  value (regr p q) = Regression y (value p) (valueᴬ q)

  abbrev pub Says : Pattern → Type 0
  Says (dead p) = DeadIn y (value p)
  Says (p ⊑ q) = (s : y.State) → value p s → value q s
  Says (p ⊑ᴬ q) = (a : y.Action) → valueᴬ p a → valueᴬ q a
  Says unsolvable = UnsolvableIn y

  abbrev pub SaysAll : List Pattern → Type 0
  SaysAll [] = Unit {0}
  SaysAll (p ∷ ps) = Says p × SaysAll ps

  -- what the premises say gives what the conclusion says
  abbrev pub SoundRule : Rule → Type 0
  SoundRule (ps ⊢ c) = SaysAll ps → Says c

  abbrev pub SoundRules : List Rule → Type 0
  SoundRules [] = Unit {0}
  SoundRules (r ∷ rs) = SoundRule r × SoundRules rs

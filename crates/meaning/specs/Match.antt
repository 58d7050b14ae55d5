-- When a step matches its rule's pattern: through kinds down to the letters, each letter one entry number throughout.
-- Assumes nothing.
use Rattle.std.specs.Prelude.{ℕ, Bool, true, false, List, [], ◌∷◌, eqb}
use Rattle.std.proofs.Math.Option.{Option, none, some}
use Rattle.meaning.specs.File.{Step, File, action_set_at, state_set_at, step_at, action_kind, state_kind, first, second, first_action, second_action}
use Rattle.meaning.specs.Rules.{ActionPattern, letterᴬ, T, ◌∪ᴬ◌, StatePattern, letter, O, I, G, ∼◌, ◌∩◌, ◌∪◌, prog, regr, Pattern, dead, ◌⊑◌, ◌⊑ᴬ◌, unsolvable, pattern_kind}

-- the entry that each letter stands for, as far as it is known
abbrev pub Letters : Type 0
Letters = ℕ → Option ℕ

unfoldable pub no_letters : Letters
no_letters x = none

infixl 10 ◌then◌
unfoldable pub ◌then◌ : {X Y : Type 0} → Option X → (X → Option Y) → Option Y
◌then◌ none g = none
◌then◌ (some x) g = g x

unfoldable pub given : {X : Type 0} → Bool → X → Option X
given true x = some x
given false x = none

unfoldable pub with_letter : ℕ → ℕ → Letters → Letters
with_letter x e σ y = elim (eqb y x) [ true ↦ some e | false ↦ σ y ]

-- letter x stands for entry e: it did already, or nothing was known of it
unfoldable pub stands_for : ℕ → ℕ → Letters → Option Letters
stands_for x e σ = elim (σ x) [ none ↦ some (with_letter x e σ) | some e' ↦ given (eqb e e') σ ]

module _ (f : File) where
  -- the entry is of kind k
  unfoldable pub of_kind : ℕ → ℕ → Letters → Option Letters
  of_kind k e σ = given (eqb (state_kind (state_set_at f e)) k) σ

  unfoldable pub of_action_kind : ℕ → ℕ → Letters → Option Letters
  of_action_kind k e σ = given (eqb (action_kind (action_set_at f e)) k) σ

  unfoldable pub matchᴬ : ActionPattern → ℕ → Letters → Option Letters
  matchᴬ (letterᴬ x) e σ = stands_for x e σ
  matchᴬ T e σ = of_action_kind 0 e σ
  matchᴬ (p ∪ᴬ q) e σ = of_action_kind 2 e σ then matchᴬ p (first_action (action_set_at f e)) then matchᴬ q (second_action (action_set_at f e))

  unfoldable pub match : StatePattern → ℕ → Letters → Option Letters
  match (letter x) e σ = stands_for x e σ
  match O e σ = of_kind 0 e σ
  match I e σ = of_kind 1 e σ
  match G e σ = of_kind 2 e σ
  match (∼ p) e σ = of_kind 6 e σ then match p (first (state_set_at f e))
  match (p ∩ q) e σ = of_kind 7 e σ then match p (first (state_set_at f e)) then match q (second (state_set_at f e))
  match (p ∪ q) e σ = of_kind 8 e σ then match p (first (state_set_at f e)) then match q (second (state_set_at f e))
  match (prog p q) e σ = of_kind 9 e σ then match p (first (state_set_at f e)) then matchᴬ q (second (state_set_at f e))
  match (regr p q) e σ = of_kind 10 e σ then match p (first (state_set_at f e)) then matchᴬ q (second (state_set_at f e))

  -- a judgement of the pattern's kind, about entries a and b
  unfoldable pub match_entries : Pattern → ℕ → ℕ → Letters → Option Letters
  match_entries (dead p) a b σ = match p a σ
  match_entries (p ⊑ q) a b σ = match p a σ then match q b
  match_entries (p ⊑ᴬ q) a b σ = matchᴬ p a σ then matchᴬ q b
  match_entries unsolvable a b σ = some σ

  unfoldable pub match_step : Pattern → Step → Letters → Option Letters
  match_step p s σ = given (eqb s.kind (pattern_kind p)) σ then match_entries p s.left s.right

  -- the premises, in turn
  unfoldable pub match_premises : List Pattern → List ℕ → Letters → Option Letters
  match_premises [] ks σ = some σ
  match_premises (p ∷ ps) [] σ = none
  match_premises (p ∷ ps) (k ∷ ks) σ = match_step p (step_at f k) σ then match_premises ps ks

-- The kinds of entry by what their bodies hold, in each section of the file. Only the code's inner promises speak of this.
-- Assumes nothing.
use Rattle.std.specs.Prelude.{ℕ, zero, suc, true, false, List, [], ◌∷◌, Option, Some, None}
use Rattle.meaning.specs.File.{ActionSet, StateSet}
use Rattle.meaning.specs.Layout.{Kind, action_kinds, state_kinds}
use Rattle.bodies.specs.declared.Form.{Form}
use Rattle.bodies.specs.declared.Form.TheVariants.{Bare, Numbers, States, Clauses, One, Two}
use Rattle.entries.specs.declared.Section.{Section}
use Rattle.entries.specs.declared.Section.TheVariants.{ActionSets, StateSets}

-- the kinds of entry i of a file with m actions, or over n facts with m action sets; an explicit set may list `most` states
abbrev pub action_forms : ℕ → ℕ → List Form
action_forms m i = Bare ∷ Numbers m ∷ Two i i ∷ []

abbrev pub state_forms : ℕ → ℕ → ℕ → ℕ → List Form
state_forms n m most i =
    Bare ∷ Bare ∷ Bare ∷ States n most ∷ Clauses n false ∷ Clauses n true ∷ One i ∷ Two i i ∷ Two i i ∷ Two i m ∷ Two i m ∷ []

abbrev pub forms_of : Section → ℕ → List Form
forms_of (ActionSets m) i = action_forms m i
forms_of (StateSets n m most) i = state_forms n m most i

-- the form of a kind, where it has one
abbrev pub form_at : List Form → ℕ → Option Form
form_at [] kind = None
form_at (f ∷ fs) zero = Some f
form_at (f ∷ fs) (suc kind) = form_at fs kind

-- what a section's entries are, and their kinds
pub record Sets : Type 1 where
  pub Item : Type 0
  pub kinds : ℕ → List (Kind Item)

abbrev pub sets_of : List ℕ → Section → Sets
sets_of bytes (ActionSets m) = record { Item = ActionSet; kinds = action_kinds bytes m }
sets_of bytes (StateSets n m most) = record { Item = StateSet; kinds = state_kinds bytes most n m }

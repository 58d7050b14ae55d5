-- What makes a basic statement on state sets untrue: an action and a state. Only the code's inner promises speak of this.
-- Assumes nothing.
use Rattle.std.specs.Prelude.{◌≡◌, ℕ, ◌^◌, ◌<◌, Bool, true, false, not, List, [], ◌∷◌, ◌++◌, map, length, T}
use Rattle.task.specs.declared.Action.{Action}
use Rattle.task.specs.Task.{action_at, applies, after}
use Rattle.meaning.specs.File.{File}
use Rattle.meaning.specs.Sets.{in_actions, in_set}
use Rattle.meaning.specs.Shapes.{keep, Sides, child, is_complement}

-- the task's actions that are in action set e
abbrev pub ActionsOf : File → ℕ → Action → Type 0
ActionsOf f e a = (i : ℕ) × (i < length f.task.actions) × T (in_actions f e i) × (a ≡ action_at f.task i)

-- an entry of kinds 0 to 5, and whether it is asked about the state after the action
pub record Asked : Type 0 where
  pub entry : ℕ
  pub after : Bool

-- the state that it is asked about
abbrev pub seen : Bool → Action → ℕ → ℕ
seen true a s = after a s
seen false a s = s

abbrev pub AllIn : File → Action → ℕ → List Asked → Type 0
AllIn f a s [] = Unit {0}
AllIn f a s (x ∷ xs) = T (in_set f x.entry (seen x.after a s)) × AllIn f a s xs

abbrev pub NoneIn : File → Action → ℕ → List Asked → Type 0
NoneIn f a s [] = Unit {0}
NoneIn f a s (x ∷ xs) = T (not (in_set f x.entry (seen x.after a s))) × NoneIn f a s xs

-- the action applies in some state, every left entry holds there and no right one does
abbrev pub Refuted : File → Action → List Asked → List Asked → Type 0
Refuted f a left right = (s : ℕ) × (s < 2 ^ f.task.facts) × T (applies a s) × AllIn f a s left × NoneIn f a s right

-- some action applies in some state, every left entry holds there and no right one does
pub record Counter (f : File) (acts : Action → Type 0) (left right : List Asked) : Type 0 where
  pub action : Action
  pub chosen : acts action
  pub state : ℕ
  pub low : state < 2 ^ f.task.facts
  pub allowed : T (applies action state)
  pub holds : AllIn f action state left
  pub fails : NoneIn f action state right

module _ (f : File) (after : Bool) (x : Sides) where
  -- complements outside the bracket change sides; the bracket's leaves are asked about the other state
  unfoldable pub left_leaves : List Asked
  left_leaves =
      map (λ e. record { entry = e; after = after }) (keep (λ e. not (is_complement f e)) x.outer)
      ++ map (λ e. record { entry = child f e; after = after }) (keep (is_complement f) x.right)
      ++ map (λ e. record { entry = e; after = not after }) x.inner

  unfoldable pub right_leaves : List Asked
  right_leaves =
      map (λ e. record { entry = e; after = after }) (keep (λ e. not (is_complement f e)) x.right)
      ++ map (λ e. record { entry = child f e; after = after }) (keep (is_complement f) x.outer)

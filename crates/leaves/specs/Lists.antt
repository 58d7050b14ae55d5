-- Lists of leaves, and what makes a statement with these leaves untrue. Only the code's inner promises speak of this.
-- Assumes nothing.
use Rattle.std.specs.Prelude.{ℕ, ◌^◌, ◌<◌, Bool, not, List, [], ◌∷◌, T}
use Rattle.task.specs.declared.Action.{Action}
use Rattle.task.specs.declared.Ends.{Ends}
use Rattle.task.specs.Task.{applies}
use Rattle.counterexample.specs.Counter.{seen}
use Rattle.leaves.specs.declared.Leaf.{Leaf}
use Rattle.leaves.specs.Holds.{set_holds}

-- each leaf of the list is so
abbrev pub Each : (Leaf → Type 0) → List Leaf → Type 0
Each P [] = Unit {0}
Each P (x ∷ xs) = P x × Each P xs

module _ (bytes : List ℕ) (ends : Ends) (a : Action) where
  -- the leaf holds the state that it is asked about: s, or the one that the action makes of s
  unfoldable pub leaf_holds : ℕ → Leaf → Bool
  leaf_holds s x = set_holds bytes ends x.set (seen x.after a s)

  -- the action applies in some state, every left leaf holds there and no right leaf does
  pub record Countered (left right : List Leaf) : Type 0 where
    pub state : ℕ
    pub low : state < 2 ^ ends.facts
    pub allowed : T (applies a state)
    pub holds : Each (λ x. T (leaf_holds state x)) left
    pub fails : Each (λ x. T (not (leaf_holds state x))) right

-- Files that are the same but for their version and for what their explicit sets list, each the same states.
-- Assumes nothing.
use mathlib.Core.Path.{◌≡◌}
use Prim.Native.Nat.{ℕ}
use mathlib.Core.List.{List, [], ◌∷◌}
use Rattle.task.specs.Reach.{member}
use Rattle.meaning.specs.File.{explicit, StateSet, basic, File}

-- the same state set, or explicit sets that list the same states
pub data AlikeSet : StateSet → StateSet → Type 0 where
  same : (x : StateSet) → AlikeSet x x
  listed : (ss ss' : List ℕ) → ((s : ℕ) → member s ss ≡ member s ss') → AlikeSet (basic (explicit ss)) (basic (explicit ss'))

abbrev pub AlikeSets : List StateSet → List StateSet → Type 0
AlikeSets [] [] = Unit {0}
AlikeSets [] (y ∷ ys) = ⊥
AlikeSets (x ∷ xs) [] = ⊥
AlikeSets (x ∷ xs) (y ∷ ys) = AlikeSet x y × AlikeSets xs ys

pub record Alike (f g : File) : Type 0 where
  pub task : f.task ≡ g.task
  pub action_sets_hold : f.action_sets ≡ g.action_sets
  pub state_sets_hold : AlikeSets f.state_sets g.state_sets
  pub steps : f.steps ≡ g.steps

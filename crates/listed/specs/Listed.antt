-- The anchor of a statement over listed states: a left leaf whose states are tried. Only the code's inner promises speak of this.
-- Assumes nothing.
use Rattle.std.specs.Prelude.{◌≡◌, ℕ, ◌^◌, ◌<◌, false, List, T}
use Rattle.task.specs.declared.Ends.{Ends}
use Rattle.task.specs.Reach.{member}
use Rattle.certificate.specs.declared.BasicEntry.{BasicEntry}
use Rattle.certificate.specs.declared.BasicEntry.TheVariants.{Empty, Init, Goal, Explicit, Horn, TwoCnf}
use Rattle.leaves.specs.declared.Leaf.{Leaf}
use Rattle.leaves.specs.Holds.{states_at}

-- a set that lists its states, all of them states of the task
abbrev pub ListsStates : List ℕ → Ends → BasicEntry → Type 0
ListsStates bytes ends Empty = Unit {0}
ListsStates bytes ends Init = (ends.init < 2 ^ ends.facts) × (ends.unknown < 2 ^ ends.facts)
ListsStates bytes ends Goal = ⊥
ListsStates bytes ends (Explicit x) = (v : ℕ) → T (member v (states_at bytes x.at x.count)) → v < 2 ^ ends.facts
ListsStates bytes ends (Horn x) = ⊥
ListsStates bytes ends (TwoCnf x) = ⊥

-- such a leaf, asked about the state before the action
abbrev pub Anchored : List ℕ → Ends → Leaf → Type 0
Anchored bytes ends x = (x.after ≡ false) × ListsStates bytes ends x.set

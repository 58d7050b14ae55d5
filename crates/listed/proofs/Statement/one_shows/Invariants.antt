-- `listed::Statement::one_shows` meets its contract. The invariant: none of the first `i` states by size shows it.
-- Assumes nothing.
use Prim.Native.Nat.{◌≤◌, ◌-◌}
use mathlib.Core.Path.{◌≡◌}
use mathlib.Core.Bool.{false}
use Rattle.meaning.specs.Sets.{some_below}
use Rattle.listed.specs.Told.{shows, listed_state}
use Rattle.listed.proofs.Statement.one_shows.Given as goal

abbrev pub invariant-loop-k : goal.invariant-loop-k
invariant-loop-k l = (some_below l.i (λ k. shows l.self (listed_state l.states k)) ≡ false) × (l.i ≤ l.to)

abbrev pub decreases-loop-k : goal.decreases-loop-k
decreases-loop-k l = l.to - l.i

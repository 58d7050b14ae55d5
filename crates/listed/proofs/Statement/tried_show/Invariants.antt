-- `listed::Statement::tried_show` meets its contract. The invariant: of the states that were passed, none shows it, whatever facts it
-- changes are on.
-- Assumes nothing.
use Prim.Native.Nat.{ℕ, ◌-◌}
use mathlib.Core.Path.{◌≡◌}
use mathlib.Core.Bool.{false}
use lib.Dec.{T}
use Rattle.task.specs.Facts.{all_on}
use Rattle.listed.specs.Search.{Passed}
use Rattle.listed.specs.Told.{shows}
use Rattle.listed.proofs.Statement.tried_show.Given as goal

abbrev pub invariant-loop-r : goal.invariant-loop-r
invariant-loop-r l =
    Passed l.top l.kept (λ s. (e : ℕ) → T (all_on e l.changed) → shows l.self (s - e) ≡ false) l.kept l.d × T (all_on l.d l.kept)

abbrev pub decreases-loop-r : goal.decreases-loop-r
decreases-loop-r l = l.d

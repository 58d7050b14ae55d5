-- `listed::Statement::next_unled` meets its contract. The invariant: from each state that was passed the action leads to one of the trail.
-- Assumes nothing.
use Prim.Native.Nat.{◌≤◌}
use lib.Dec.{T}
use Rattle.std.specs.Prelude.{Some}
use Rattle.task.specs.Facts.{all_on}
use Rattle.listed.specs.Search.{Passed}
use Rattle.listed.specs.Told.{Led, Follows}
use Rattle.listed.proofs.Statement.next_unled.Given as goal

abbrev pub invariant-loop-trail : goal.invariant-loop-trail
invariant-loop-trail l =
    Passed l.top l.mask (Led l.self) l.from l.d × T (all_on l.d l.mask) × (l.d ≤ l.from) × Follows (Some l.trail) l.self

abbrev pub decreases-loop-trail : goal.decreases-loop-trail
decreases-loop-trail l = l.d

-- `listed::Statement::some_shows` meets its contract. The invariant: no state that was passed shows it.
-- Assumes nothing.
use mathlib.Core.Path.{◌≡◌}
use mathlib.Core.Bool.{false}
use lib.Dec.{T}
use Rattle.task.specs.Facts.{all_on}
use Rattle.listed.specs.Search.{Passed}
use Rattle.listed.specs.Told.{shows}
use Rattle.listed.proofs.Statement.some_shows.Given as goal

abbrev pub invariant-loop-s : goal.invariant-loop-s
invariant-loop-s l = T (all_on l.e l.mask) × Passed l.s l.mask (λ t. shows l.self t ≡ false) l.mask l.e

abbrev pub decreases-loop-s : goal.decreases-loop-s
decreases-loop-s l = l.e

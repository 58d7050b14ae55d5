-- A task that fits the format stays within its facts.
-- Assumes nothing.
use Rattle.task.specs.Task.{Task, action_at}
use Rattle.task.proofs.Moves.{Bounded, bounded}
use Rattle.meaning.specs.Writing.{FitsTask, FitsAction}
use Rattle.meaning.proofs.Order.{all_at}

pub fits_bounded : (t : Task) → FitsTask t → Bounded t
unfolding action_at
fits_bounded t w = bounded t w.init w.unknown (λ i l. (all_at (λ j. FitsAction t.facts) _ 0 t.actions w.actions i l).add)

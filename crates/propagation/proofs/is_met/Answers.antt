-- `propagation::is_met` meets its contract.
-- Assumes nothing.
use mathlib.Core.Path.{refl}
use Rattle.propagation.specs.Clauses.{met_by}
use Rattle.propagation.proofs.is_met.Goals as goal

pub returns : goal.returns
unfolding met_by
returns c = refl

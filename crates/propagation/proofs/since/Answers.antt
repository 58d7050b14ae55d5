-- `propagation::since` meets its contract.
-- Assumes nothing.
use Rattle.propagation.specs.Propagation.{since}
use Rattle.propagation.proofs.since.Goals as goal

pub returns : goal.returns
unfolding since
returns c = cc

-- `kinds::flags_in` meets its contract.
-- Assumes nothing.
use Rattle.kinds.specs.Summary.{flags_in}
use Rattle.kinds.proofs.flags_in.Goals as goal

pub returns : goal.returns
unfolding flags_in
returns c = cc

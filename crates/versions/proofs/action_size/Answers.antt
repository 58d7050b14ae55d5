-- `versions::action_size` meets its contract.
-- Assumes nothing.
use native.Mathlib.Omega.{arith}
use Rattle.meaning.proofs.Places.{places}
use Rattle.versions.proofs.action_size.Goals as goal

pub overflow_add-result : goal.overflow_add-result
overflow_add-result c = let o = places c.args.version in record { fits = omega (arith, c.off_size.ensures) }

pub returns : goal.returns
returns c = let o = places c.args.version in omega (arith, c.off_size.ensures)

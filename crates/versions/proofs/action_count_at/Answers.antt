-- `versions::action_count_at` meets its contract.
-- Assumes nothing.
use native.Mathlib.Omega.{arith}
use Rattle.meaning.proofs.Places.{places}
use Rattle.versions.proofs.action_count_at.Goals as goal

pub overflow_add-result : goal.overflow_add-result
overflow_add-result c = let o = places c.args.version in record { fits = omega (arith, c.goal_at.ensures) }

pub overflow_add-result-2 : goal.overflow_add-result-2
overflow_add-result-2 c =
    let o = places c.args.version in
    record { fits = omega (arith, c.goal_at.ensures, c.off_size.ensures) }

pub returns : goal.returns
returns c = let o = places c.args.version in omega (arith, c.goal_at.ensures, c.off_size.ensures)

-- `last_step` meets its contract: of the four kinds of judgement only the last says "unsolvable".
-- Assumes nothing.
use mathlib.Core.Path.{refl}
use native.Mathlib.Omega.{arith}
use Rattle.certificate.proofs.KnownLaws.{placed_steps}
use Rattle.steps.proofs.StepsLaws.{step_count_lem, last_says, last_says_not}
use Rattle.steps.proofs.last_step.Goals as goal

pub overflow_sub-last : goal.overflow_sub-last
overflow_sub-last c = let n = step_count_lem _ _ c.args.file.now.placed in omega (arith, n.0)

pub returns-in-Unsolvable : goal.returns-in-Unsolvable
returns-in-Unsolvable c l = last_says _ _ (placed_steps _ _ c.args.file.now.placed) c.in-Unsolvable.ensures l refl

pub returns-in_default : goal.returns-in_default
returns-in_default c l =
    rw c.into.ensures (last_says_not _ _ (placed_steps _ _ c.args.file.now.placed) c.judgement.ensures c.in_default.not-Unsolvable)

-- `check_from` meets its contract: the first refusal of the steps that are left, or else what the last one, which passed, says.
-- Assumes nothing.
use mathlib.Core.Path.{refl}
use Rattle.certificate.proofs.KnownLaws.{placed_steps}
use Rattle.steps.proofs.StepsLaws.{refused_from, passed_from}
use Rattle.steps.proofs.check_from.Goals as goal

pub returns-in-Accepted : goal.returns-in-Accepted
returns-in-Accepted c g stands =
    passed_from g _ _ _ _ (placed_steps _ _ c.args.file.now.laid.placed) c.requires (c.in-Accepted.ensures g stands) refl c.last_step.ensures

pub returns-in_default : goal.returns-in_default
returns-in_default c g stands =
    refused_from g _ _ _ _ (placed_steps _ _ c.args.file.now.laid.placed) c.requires (c.check_steps.ensures g stands) c.in_default.not-Accepted

-- `check_whole` meets its contract: a file that is read has a step.
-- Assumes nothing.
use Rattle.steps.proofs.StepsLaws.{step_count_lem}
use Rattle.verifier.proofs.check_whole.Goals as goal

pub check_from-requires : goal.check_from-requires
check_from-requires c = (step_count_lem _ _ c.args.file.now.laid.placed).0

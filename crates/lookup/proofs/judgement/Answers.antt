-- `lookup::judgement`: past the last step the default, else what the step says.
-- Assumes nothing.
use mathlib.Core.Path.{ap}
use Rattle.certificate.specs.declared.Step as code
use Rattle.certificate.specs.Views.{step_of, judgement_at}
use Rattle.certificate.proofs.KnownLaws.{placed_no_step}
use Rattle.lookup.proofs.judgement.Goals as goal

pub returns-then-file-k : goal.returns-then-file-k
returns-then-file-k c = placed_no_step _ _ c.args.file.now.placed c.args.k c.if-file-k.true

pub returns : goal.returns
unfolding step_of judgement_at
returns c = ap (λ (x : code.Step). x.judgement) c.step.ensures

-- `certificate_round`: the code of the round.
-- Assumes nothing.
use mathlib.Core.Path.{ap, ◌∙◌}
use Rattle.link.specs.Code.{round_code_of}
use Rattle.link.proofs.CodeLaws.{round_told}
use Rattle.link.proofs.certificate_round.Goals as goal

pub returns-clause-told : goal.returns-clause-told
returns-clause-told c = round_told _ _ _ (c.code.ensures ∙ ap round_code_of c.check_round.ensures.round)

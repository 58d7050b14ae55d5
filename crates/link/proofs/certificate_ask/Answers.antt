-- `certificate_ask`: the code of the answer.
-- Assumes nothing.
use mathlib.Core.Path.{ap, ◌∙◌}
use Rattle.link.specs.Code.{answer_code_of}
use Rattle.link.proofs.CodeLaws.{told}
use Rattle.link.proofs.certificate_ask.Goals as goal

pub returns-clause-told : goal.returns-clause-told
returns-clause-told c = told _ _ _ (c.code.ensures ∙ ap answer_code_of c.ask.ensures.answer)

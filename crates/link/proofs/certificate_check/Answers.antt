-- `certificate_check`: the code of the reply.
-- Assumes nothing.
use mathlib.Core.Path.{ap, ◌∙◌}
use Rattle.link.specs.Code.{code_of}
use Rattle.link.proofs.CodeLaws.{safe_by_code, judged_by_code}
use Rattle.link.proofs.certificate_check.Goals as goal

pub returns-clause-safe : goal.returns-clause-safe
returns-clause-safe c =
    let e = c.code.ensures ∙ ap code_of c.check.ensures.reply in
    safe_by_code _ e

pub returns-clause-judged : goal.returns-clause-judged
returns-clause-judged c =
    let e = c.code.ensures ∙ ap code_of c.check.ensures.reply in
    judged_by_code _ e

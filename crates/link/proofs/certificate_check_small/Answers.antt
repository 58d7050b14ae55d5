-- `certificate_check_small`: the code of the reply.
-- Assumes nothing.
use mathlib.Core.Path.{ap, ◌∙◌}
use Rattle.link.specs.Code.{code_of}
use Rattle.link.proofs.CodeLaws.{safe_by_limits, judged_by_limits}
use Rattle.link.proofs.certificate_check_small.Goals as goal

pub returns-clause-safe : goal.returns-clause-safe
returns-clause-safe c =
    let e = c.code.ensures ∙ ap code_of c.check_small.ensures.reply in
    safe_by_limits _ e

pub returns-clause-judged : goal.returns-clause-judged
returns-clause-judged c =
    let e = c.code.ensures ∙ ap code_of c.check_small.ensures.reply in
    judged_by_limits _ e

-- `reply::basic` meets its contract: the judgement is of the rule's kind, and its entries are those that the verdict is on.
-- Assumes nothing.
use mathlib.Core.Path.{ap, ◌∙◌}
use Rattle.std.proofs.lemmas.Result.{err_from_is_err_and}
use Rattle.certificate.proofs.KnownLaws.{placed_ends}
use Rattle.derivation.specs.StepReply.{verdict_reply}
use Rattle.derivation.proofs.ReplyLaws.{basic_kind_lem, actions_kind, unsaid, entries_said, actions_below}
use Rattle.derivation.proofs.reply.basic.Goals as goal

pub invariant_of-posed : goal.invariant_of-posed
invariant_of-posed c = record { ends_are = rw c.args.file.now.same at (placed_ends _ _ c.args.file.now.laid.placed) }

pub decide-requires-clause-e_in_bounds : goal.decide-requires-clause-e_in_bounds
decide-requires-clause-e_in_bounds c five =
    let kind = c.requires.j_value.0 ∙ actions_kind _ five in
    rw c.args.file.now.same at (actions_below _ _ c.in-Within.is kind c.requires.j_value.1)

pub returns-in_default : goal.returns-in_default
returns-in_default c =
    let kind = basic_kind_lem _ c.requires.le_rule in
    unsaid _ (rw c.requires.j_value.0 kind) c.in_default.not-Within c.in_default.not-ActionsWithin

pub returns-in_ok-decide-in-Within : goal.returns-in_ok-decide-in-Within
unfolding verdict_reply
returns-in_ok-decide-in-Within c =
    let said = entries_said _ c.in-Within.is in
    rw (c.args.file.now.same, said.0, said.1) (ap verdict_reply c.in_ok-decide-in-Within.ensures)

pub returns-in_err-decide-in-Within : goal.returns-in_err-decide-in-Within
unfolding verdict_reply
returns-in_err-decide-in-Within c =
    let p = err_from_is_err_and c.from_residual.result c.from_residual.ensures.1 in
    let said = entries_said _ c.in-Within.is in
    rw (p.1, p.2, c.args.file.now.same, said.0, said.1) (ap verdict_reply c.in_err-decide-in-Within.ensures)

-- `actions::actions_within`: all that is marked of set a is marked of set b.
-- Assumes nothing.
use mathlib.Core.Path.{◌∙◌}
use Rattle.actions.proofs.EntryActions.{within_marks}
use Rattle.actions.proofs.actions_within.Goals as goal

pub returns : goal.returns
returns c =
    c.all_marked.ensures
    ∙ within_marks _ _ c.args.file.now.known c.args.a c.args.b _ _ c.action_marks.ensures c.action_marks-2.ensures

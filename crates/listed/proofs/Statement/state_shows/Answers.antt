-- `listed::Statement::state_shows` meets its contract.
-- Assumes nothing.
use mathlib.Core.Path.{sym, ◌∙◌}
use Rattle.listed.proofs.ShownLaws.{shows_not_applies}
use Rattle.listed.proofs.Statement.state_shows.Goals as goal

pub returns-else-applies : goal.returns-else-applies
returns-else-applies c = c.if-applies.false ∙ sym (shows_not_applies _ _ _ _ _ _ _ (sym c.applies.ensures ∙ c.if-applies.false))

-- `listed::Statement::applies` meets its contract.
-- Assumes nothing.
use borrow.Author.Rules.{rules}
use Rattle.task.proofs.Names.{applies_at_once_lem}
use Rattle.listed.proofs.Statement.applies.Goals as goal

pub returns : goal.returns
returns c = applies_at_once_lem _ _ (search rules)

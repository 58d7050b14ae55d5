-- `task::few_unknown` meets its contract.
-- Assumes nothing.
use borrow.Author.Rules.{rules}
use Rattle.task.proofs.Names.{few_code}
use Rattle.task.proofs.few_unknown.Goals as goal

pub returns : goal.returns
returns c = few_code c.before.args.ends (search rules)

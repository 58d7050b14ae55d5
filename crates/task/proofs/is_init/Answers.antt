-- `task::is_init` meets its contract.
-- Assumes nothing.
use borrow.Author.Rules.{rules}
use Rattle.task.proofs.Names.{init_code}
use Rattle.task.proofs.is_init.Goals as goal

pub returns : goal.returns
returns c =
    let a = c.before.before.before.args in init_code 64 a.ends a.state (search rules) (search rules) (search rules)

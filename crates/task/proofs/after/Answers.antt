-- `task::after` meets its contract.
-- Assumes nothing.
use borrow.Author.Rules.{rules}
use Rattle.task.proofs.Bits.{after_code}
use Rattle.task.proofs.after.Goals as goal

pub returns : goal.returns
returns c = after_code 64 c.before.before.args.a c.before.before.args.state (search rules) (search rules)

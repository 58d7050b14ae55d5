-- `propagation::without` meets its contract.
-- Assumes nothing.
use borrow.Author.Rules.{rules}
use Rattle.task.proofs.Bits.{without_and}
use Rattle.propagation.proofs.without.Goals as goal

pub returns : goal.returns
returns c = without_and 64 c.args.s c.args.m (search rules) (search rules)

-- `own_numbers` meets its contract.
-- Assumes nothing.
use borrow.Author.Rules.{rules}
use Rattle.numbering.proofs.own_numbers.Goals as goal

pub returns : goal.returns
returns c x l = let z = c.from_fn.ensures.items.at x 0 l in let y = z.2 in search rules

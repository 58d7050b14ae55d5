-- `marks::united`: word by word, the marks of either.
-- Assumes nothing.
use borrow.Author.Rules.{rules}
use Rattle.actions.proofs.MarkLaws.{united_marks}
use Rattle.actions.proofs.marks.united.Goals as goal

pub returns : goal.returns
returns c = united_marks _ _ _ (λ k l. let w = c.from_fn.ensures.items.at k 0 l in search rules)

-- `marks::within_word`: the words agree bit by bit.
-- Assumes nothing.
use Rattle.actions.proofs.MarkLaws.{within_words}
use borrow.Author.Rules.{rules}
use Rattle.actions.proofs.marks.within_word.Goals as goal

pub returns : goal.returns
returns c = within_words c.args.a c.args.b (search rules)

-- `marks::with_mark`: one number more is marked, in its word.
-- Assumes nothing.
use borrow.Author.Rules.{rules}
use Rattle.actions.proofs.MarkLaws.{more_marked}
use Rattle.actions.proofs.marks.with_mark.Goals as goal

pub returns : goal.returns
returns c = more_marked c.args.words c.args.i _ (search rules) c.requires c.mark.ensures

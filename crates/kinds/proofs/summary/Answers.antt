-- `kinds::summary` meets its contract: the same is told, whether the statement is permitted or not.
-- Assumes nothing.
use borrow.Author.Rules.{rules}
use Rattle.kinds.specs.Summary.{either}
use Rattle.kinds.proofs.SummaryLaws.{told_by}
use Rattle.kinds.proofs.summary.Goals as goal

pub returns-then-permits : goal.returns-then-permits
unfolding either
returns-then-permits c =
    record {
      anchor = c.find_anchor-anchor.result;
      sought = c.find_anchor-anchor.ensures;
      permits = search (rules, c.if-permits.true);
      told = told_by _ _ _ c.flags_in-x.ensures _ _ _ _ (search rules);
    }

pub returns-else-permits : goal.returns-else-permits
unfolding either
returns-else-permits c =
    record {
      anchor = c.find_anchor-anchor.result;
      sought = c.find_anchor-anchor.ensures;
      permits = search (rules, c.if-permits.false);
      told = told_by _ _ _ c.flags_in-x.ensures _ _ _ _ (search rules);
    }

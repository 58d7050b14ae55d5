-- `parts::Parts::of_rule` meets its contract: the rule picks the case.
-- Assumes nothing.
use borrow.Author.Rules.{rules}
use Rattle.parts.proofs.WrittenLaws.{parted_plain, parted_bracket, parted_pair}
use Rattle.parts.proofs.Parts.of_rule.Goals as goal

pub returns-in-4 : goal.returns-in-4
returns-in-4 c = rw c.in-4.is (parted_pair _ _ _ _ c.pair.ensures)

pub returns-in-1 : goal.returns-in-1
returns-in-1 c = rw c.in-1.is (parted_plain _ _ _ _ c.plain.ensures)

pub returns-in_default : goal.returns-in_default
returns-in_default c = parted_bracket _ _ _ _ _ c.requires.le_rule.0 c.requires.le_rule.1 (search rules) (search rules) c.bracketed.ensures

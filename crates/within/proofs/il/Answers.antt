-- `within::il` meets its contract: IL's test, and nothing matches an entry of another kind.
-- Assumes nothing.
use borrow.Author.Rules.{rules}
use Rattle.rules.proofs.RuleLaws.{opened}
use Rattle.within.proofs.WithinRules.{il}
use Rattle.patterns.proofs.Views.{no_intersection, refused}
use Rattle.within.proofs.il.Goals as goal

pub returns-in_default : goal.returns-in_default
unfolding opened
returns-in_default c = refused _ (rw (no_intersection _ _ c.state_set.ensures c.in_default.not-Intersection))

pub returns : goal.returns
returns c = search (rules, il)

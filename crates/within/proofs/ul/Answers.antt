-- `within::ul` meets its contract: UL's test, and nothing matches an entry of another kind.
-- Assumes nothing.
use borrow.Author.Rules.{rules}
use Rattle.rules.proofs.RuleLaws.{opened}
use Rattle.within.proofs.WithinRules.{ul}
use Rattle.patterns.proofs.Views.{no_union, refused}
use Rattle.within.proofs.ul.Goals as goal

pub returns-in_default : goal.returns-in_default
unfolding opened
returns-in_default c = refused _ (rw (no_union _ _ c.state_set.ensures c.in_default.not-Union))

pub returns : goal.returns
returns c = search (rules, ul)

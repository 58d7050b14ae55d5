-- `membership::Listed::search` meets its contract.
-- Assumes nothing.
use borrow.Author.Rules.{rules}
use Rattle.membership.proofs.SearchLaws.{search_found, search_missed}
use Rattle.membership.proofs.Listed.search.Goals as goal

pub returns-then-t-s : goal.returns-then-t-s
returns-then-t-s g c =
    search_found _ _ _ _ c.args.self.now.in_order c.state_by-t.ensures (search rules) (search rules)

pub returns : goal.returns
returns g c = search_missed _ _ _ _ c.args.self.now.in_order c.loop-lo.invariant.0 (search rules)

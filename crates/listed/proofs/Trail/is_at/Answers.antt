-- `listed::Trail::is_at` meets its contract.
-- Assumes nothing.
use borrow.Author.Rules.{rules}
use Rattle.membership.proofs.SearchLaws.{search_found}
use Rattle.listed.proofs.Trail.is_at.Goals as goal

pub returns-then-k-len : goal.returns-then-k-len
returns-then-k-len c =
    λ e. search_found _ _ _ _ c.args.self.now.into.in_order c.state.ensures (search rules) (search (rules, e))

-- `membership::by_rows` meets its contract.
-- Assumes nothing.
use borrow.Author.Rules.{rules}
use Rattle.certificate.specs.Rows.{by_rows}
use Rattle.membership.proofs.by_rows.Goals as goal

pub returns : goal.returns
unfolding by_rows
returns c = search rules

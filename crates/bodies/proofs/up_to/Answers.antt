-- `bodies::up_to` meets its contract.
-- Assumes nothing.
use Rattle.meaning.specs.Layout.{up_to}
use borrow.Author.Rules.{rules}
use Rattle.bodies.proofs.up_to.Goals as goal

pub returns : goal.returns
unfolding up_to
returns c = search rules

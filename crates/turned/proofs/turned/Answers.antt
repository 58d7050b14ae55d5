-- `turned::turned` meets its contract.
-- Assumes nothing.
use mathlib.Core.Path.{◌∙◌}
use borrow.Author.Rules.{rules}
use Rattle.turned.proofs.TurnLaws.{swap_turned}
use Rattle.turned.proofs.turned.Goals as goal

pub returns : goal.returns
returns c = c.swap_bytes.ensures ∙ swap_turned c.args.x (search rules)

-- `trees::is_basic` meets its contract: the constructor says it.
-- Assumes nothing.
use mathlib.Core.Path.{◌∙◌}
use Rattle.nodes.proofs.NodeLaws.{entry_basic}
use Rattle.trees.proofs.is_basic.Goals as goal

pub returns : goal.returns
returns c = c.basic.ensures ∙ entry_basic _ _ _ _ c.state_set.ensures

-- `listed::holds_one` meets its contract.
-- Assumes nothing.
use mathlib.Core.Path.{ap, ◌∙◌}
use Rattle.leaves.specs.Holds.{set_holds}
use Rattle.listed.specs.Search.{holds_one}
use Rattle.listed.proofs.holds_one.Goals as goal
use Rattle.listed.proofs.holds_one.Goals.{then-x, else-x}

pub returns : goal.returns
unfolding holds_one
returns c =
    c.set_holds.ensures
    ∙ ap (set_holds _ _ _) (elim c.if-x.branch [ then-x w ↦ rw w.if-x.true w.v-is | else-x w ↦ rw w.if-x.false w.v-is ])

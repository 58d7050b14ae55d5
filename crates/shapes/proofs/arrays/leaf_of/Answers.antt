-- `arrays::leaf_of` meets its contract.
-- Assumes nothing.
use mathlib.Core.Path.{ap, ◌∙◌}
use Rattle.leaves.specs.Leaves.{basic_in, set_of}
use Rattle.shapes.specs.Gathered.{leaf_of}
use Rattle.shapes.proofs.arrays.leaf_of.Goals as goal

pub returns : goal.returns
unfolding leaf_of set_of
returns c =
    let set = c.basic_in.ensures ∙ ap basic_in c.state_set.ensures in
    λ i. record { set = set i; after = c.args.after }

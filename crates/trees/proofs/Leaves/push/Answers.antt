-- `trees::Leaves::push` meets its contract.
-- Assumes nothing.
use mathlib.Core.Path.{refl}
use Rattle.trees.proofs.TreeLaws.{lists_more}
use Rattle.trees.proofs.Leaves.push.Goals as goal

pub returns : goal.returns
returns c = lists_more _ _ _ c.requires refl refl

-- `trees::Leaves::pop` meets its contract.
-- Assumes nothing.
use mathlib.Core.Path.{refl}
use Rattle.trees.proofs.TreeLaws.{lists_none, lists_last}
use Rattle.trees.proofs.Leaves.pop.Goals as goal

pub returns-then-self-eq0 : goal.returns-then-self-eq0
returns-then-self-eq0 c = lists_none _ c.if-self-eq0.true

pub returns : goal.returns
returns c = lists_last _ _ c.if-self-eq0.false refl refl

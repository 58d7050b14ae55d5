-- `kinds::anchor_in` meets its contract: none of the leaves passed so far is an anchor.
-- Assumes nothing.
use Rattle.kinds.specs.Summary.{NoAnchor}
use Rattle.kinds.proofs.anchor_in.Given as goal

abbrev pub invariant-loop-j : goal.invariant-loop-j
invariant-loop-j l = NoAnchor l.few l.left l.from l.j

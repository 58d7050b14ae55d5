-- `kinds::anchor_in` meets its contract: none of the leaves passed so far is an anchor.
-- Assumes nothing.
use mathlib.Core.Path.{sym, ◌∙◌}
use native.Mathlib.Omega.{arith}
use Rattle.task.proofs.Tests.{holds}
use Rattle.leaves.specs.Leaves.{leaf_in}
use Rattle.kinds.proofs.SummaryLaws.{anchor_next}
use Rattle.kinds.proofs.anchor_in.Goals as goal

pub returns-then-may_anchor : goal.returns-then-may_anchor
unfolding leaf_in
returns-then-may_anchor c =
    record {
      after = omega arith;
      within = c.loop-j-test.true;
      here = holds (sym c.may_anchor.ensures ∙ c.if-may_anchor.true);
      first = c.loop-j.invariant;
    }

pub loop-j-preserved : goal.loop-j-preserved
unfolding leaf_in
loop-j-preserved c = anchor_next _ _ _ _ c.loop-j.invariant (sym c.may_anchor.ensures ∙ c.if-may_anchor.false)

-- `trees::Leaves::filter`: of the entries passed so far those that pass the test are kept.
-- Assumes nothing.
use native.Mathlib.Omega.{arith}
use Rattle.meaning.specs.Shapes.{keep}
use Rattle.trees.proofs.TreeLaws.{size_more, filter_in, filter_out, few_in}
use Rattle.trees.proofs.Leaves.filter.Goals.{then-wanted, else-wanted}
use Rattle.trees.proofs.Leaves.filter.Goals as goal

pub loop-e-init : goal.loop-e-init
unfolding keep
loop-e-init g c = record { few = omega arith; kept = λ t h. c.none-out.ensures }

pub push-requires : goal.push-requires
push-requires g c =
    omega (arith, c.loop-e.invariant.few, c.loop-e-test.true, few_in c.args.self.now _ c.entries-e-items.ensures)

pub loop-e-preserved : goal.loop-e-preserved
loop-e-preserved g c =
    elim c.if-wanted.branch [
      | then-wanted w ↦ rw w.out-is (record {
        few = omega (arith, size_more _ _ _ w.push.ensures, c.loop-e.invariant.few);
        kept = λ t h.
            filter_in t _ _ c.loop-e-test.true _ _ _ (h _ _ c.wanted.ensures) w.if-wanted.true (c.loop-e.invariant.kept t h) w.push.ensures;
      })
      | else-wanted w ↦ rw w.out-is (record {
        few = omega (arith, c.loop-e.invariant.few);
        kept = λ t h. filter_out t _ _ c.loop-e-test.true _ _ (h _ _ c.wanted.ensures) w.if-wanted.false (c.loop-e.invariant.kept t h);
      })
    ]

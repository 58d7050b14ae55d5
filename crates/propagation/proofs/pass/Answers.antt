-- `propagation::pass` meets its contract.
-- Assumes nothing.
use Rattle.leaves.specs.Leaves.{leaf_in}
use Rattle.propagation.specs.Clauses.{LeafOf}
use Rattle.propagation.proofs.PassLaws.{passed_more, passed_early}
use Rattle.propagation.proofs.RestLaws.{based_on}
use Rattle.propagation.proofs.pass.Goals as goal

pub pass_leaf-requires-clause-based : goal.pass_leaf-requires-clause-based
unfolding leaf_in
pass_leaf-requires-clause-based c =
    based_on _ c.args.base (λ d p. (c.loop-leaf.leaf-index, c.loop-leaf-test.true, p)) c.requires c.loop-leaf.invariant.goes

pub returns-in_err-x : goal.returns-in_err-x
unfolding leaf_in
returns-in_err-x c =
    let q = c.args.q.now in
    rw c.from_residual.ensures
    (passed_early (LeafOf q.file.now q.left.now q.setting) _ _ c.loop-leaf-test.true c.loop-leaf.invariant c.in_err-x.ensures)

pub loop-leaf-preserved : goal.loop-leaf-preserved
unfolding leaf_in
loop-leaf-preserved c =
    let q = c.args.q.now in
    passed_more (LeafOf q.file.now q.left.now q.setting) _ c.loop-leaf.invariant c.in_ok-x.ensures

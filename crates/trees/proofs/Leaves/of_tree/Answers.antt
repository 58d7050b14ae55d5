-- `trees::Leaves::of_tree`: what was found and what waits are all the leaves. Each turn finds one, or has one more wait.
-- Assumes nothing.
use native.Mathlib.Omega.{arith}
use Rattle.certificate.proofs.KnownLaws.{read_ordered}
use Rattle.nodes.proofs.NodeLaws.{node_first, node_second, node_is, node_other}
use Rattle.trees.proofs.TreeLaws.{size_more, tour_start, tour_many, tour_end, tour_leaf, tour_tree}
use Rattle.trees.proofs.Leaves.of_tree.Goals as goal

pub loop-d-init : goal.loop-d-init
loop-d-init c = tour_start _ (read_ordered _ c.args.file.now.known.read) _ c.requires _ _ _ c.none-out.ensures c.one-waiting.ensures

pub returns-then-out-waiting-ge8 : goal.returns-then-out-waiting-ge8
returns-then-out-waiting-ge8 c =
    tour_many _ (read_ordered _ c.args.file.now.known.read) _ c.requires _ _ _ c.loop-d.invariant _ _ c.in-Some.ensures
    c.if-out-waiting-ge8.true

pub push-requires-then-x-k : goal.push-requires-then-x-k
push-requires-then-x-k c = omega (arith, size_more _ _ _ c.push.ensures, c.if-out-waiting-ge8.false)

-- an entry of the tree's kind: one more waits
pub loop-d-smaller-then-x-k : goal.loop-d-smaller-then-x-k
loop-d-smaller-then-x-k c =
    omega (
      arith,
      size_more _ _ _ c.in-Some.ensures,
      size_more _ _ _ c.push.ensures,
      size_more _ _ _ c.push-then-x-k.ensures,
      c.if-out-waiting-ge8.false,
    )

pub loop-d-preserved-then-x-k : goal.loop-d-preserved-then-x-k
loop-d-preserved-then-x-k c =
    tour_tree _ (read_ordered _ c.args.file.now.known.read) _ c.requires _ _ _ c.loop-d.invariant _ _ c.in-Some.ensures
    (node_is _ _ _ _ c.node_at-x.ensures _ c.if-x-k.true) _ _ (node_first _ _ _ _ c.node_at-x.ensures)
    (node_second _ _ _ _ c.node_at-x.ensures) _ _ c.push.ensures c.push-then-x-k.ensures c.if-out-waiting-ge8.false

-- a leaf: one more is found
pub loop-d-smaller : goal.loop-d-smaller
loop-d-smaller c =
    omega (arith, size_more _ _ _ c.in-Some.ensures, size_more _ _ _ c.push-else-x-k.ensures, c.if-out-waiting-ge8.false)

pub loop-d-preserved : goal.loop-d-preserved
loop-d-preserved c =
    tour_leaf _ (read_ordered _ c.args.file.now.known.read) _ c.requires _ _ _ c.loop-d.invariant _ _ c.in-Some.ensures
    (node_other _ _ _ _ c.node_at-x.ensures _ c.if-x-k.false) _ c.push-else-x-k.ensures c.if-out-waiting-ge8.false

pub returns : goal.returns
returns c =
    tour_end _ (read_ordered _ c.args.file.now.known.read) _ c.requires _ _ _ c.loop-d.invariant c.in_default.ensures

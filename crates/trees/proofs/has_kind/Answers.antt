-- `trees::has_kind` meets its contract: the entry's numbers say its kind.
-- Assumes nothing.
use mathlib.Core.Path.{ap}
use Prim.Native.Nat.{ℕ}
use lib.Dec.{eqb}
use Rattle.nodes.proofs.NodeLaws.{node_kind}
use Rattle.trees.proofs.has_kind.Goals as goal

pub returns : goal.returns
returns c = ap (λ (n : ℕ). eqb n c.args.k) (node_kind _ _ _ _ c.node_at.ensures)

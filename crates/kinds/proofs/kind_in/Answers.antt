-- `kinds::kind_in` meets its contract.
-- Assumes nothing.
use lib.Dec.{eqb}
use Rattle.std.proofs.Common.{rules, tests}
use Rattle.std.proofs.lemmas.Iterator.{YieldsList-from_slice}
use Rattle.std.proofs.lemmas.Iterator.Search.{any_from_yields_List}
use Rattle.leaves.specs.declared.Leaf.{Leaf}
use Rattle.leaves.specs.Leaves.{kind_of}
use Rattle.kinds.specs.Summary.{kind_in}
use Rattle.kinds.proofs.kind_in.Goals as goal

pub returns : goal.returns
unfolding kind_in
returns c =
    any_from_yields_List (λ (x : Leaf). eqb (kind_of x.set) c.args.k) _ _ _ c.any.ensures.ran (YieldsList-from_slice _ cc) (λ x b q k. search (rules, tests, k))

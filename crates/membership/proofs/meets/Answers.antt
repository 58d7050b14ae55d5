-- `membership::meets` meets its contract.
-- Assumes nothing.
use mathlib.Core.Path.{ap}
use mathlib.Core.Bool.{Bool, not, ◌||◌}
use lib.Bits.{bit_and}
use lib.Dec.{eqb}
use Rattle.meaning.specs.Sets.{meets}
use Rattle.membership.proofs.meets.Goals as goal

pub returns : goal.returns
unfolding meets
returns c =
    let a = c.args in
    ap (λ (b : Bool). not (eqb (bit_and a.s a.c.positive) 0) || not b) c.all_on.ensures

-- `turned::u32_turned` meets its contract: the number is put together from its four bytes.
-- Assumes nothing.
use Prim.Native.Nat.{◌+◌}
use native.Mathlib.Omega.{arith}
use Rattle.file_numbers.proofs.ByteLaws.{number_four}
use Rattle.turned.specs.Turned.{turned2, turned4}
use Rattle.turned.proofs.u32_turned.Goals as goal

pub returns : goal.returns
unfolding turned4 turned2
returns c =
    let e = number_four c.args.file.now c.args.at (omega arith) in (
      omega (arith, e, c.type_inv.file c.args.at, c.type_inv.file (c.args.at + 1), c.type_inv.file (c.args.at + 2), c.type_inv.file (c.args.at + 3)),
      omega (arith, e, c.type_inv.file c.args.at, c.type_inv.file (c.args.at + 1), c.type_inv.file (c.args.at + 2), c.type_inv.file (c.args.at + 3)),
    )

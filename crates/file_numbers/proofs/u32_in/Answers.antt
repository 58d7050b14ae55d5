-- `file_numbers::u32_in` meets its contract.
-- Assumes nothing.
use native.Mathlib.Omega.{arith}
use Rattle.file_numbers.proofs.ByteLaws.{number_four}
use Rattle.file_numbers.proofs.u32_in.Goals as goal

pub returns : goal.returns
returns c = omega (arith, c.from_be_bytes.ensures, number_four c.args.file.now c.args.at c.requires)

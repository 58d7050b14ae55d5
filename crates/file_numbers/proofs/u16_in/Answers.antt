-- `file_numbers::u16_in` meets its contract.
-- Assumes nothing.
use native.Mathlib.Omega.{arith}
use Rattle.file_numbers.proofs.ByteLaws.{number_two}
use Rattle.file_numbers.proofs.u16_in.Goals as goal

pub returns : goal.returns
returns c = omega (arith, c.from_be_bytes.ensures, number_two c.args.file.now c.args.at c.requires)

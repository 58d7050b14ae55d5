-- `file_numbers::u64_in` meets its contract.
-- Assumes nothing.
use borrow.Author.Rules.{rules}
use native.Mathlib.Omega.{arith}
use Rattle.file_numbers.proofs.ByteLaws.{number_cat}
use Rattle.file_numbers.proofs.u64_in.Goals as goal

pub returns : goal.returns
returns c =
    let a = c.before.before.before.args in
    omega (arith, number_cat 4 4 a.file.now a.at (search rules), c.before.u32_in-high.ensures, c.u32_in-low.ensures)

-- `turned::u64_turned` meets its contract.
-- Assumes nothing.
use borrow.Author.Rules.{rules}
use native.Mathlib.Omega.{arith}
use Rattle.file_numbers.proofs.ByteLaws.{number_cat}
use Rattle.turned.proofs.TurnLaws.{turn_eight}
use Rattle.turned.proofs.u64_turned.Goals as goal

pub returns : goal.returns
returns c =
    let a = c.args in
    let e = number_cat 4 4 a.file.now a.at (search rules) in
    (omega (arith, e, c.u32_turned-first.ensures.0, c.u32_turned-second.ensures.0), omega (arith, c.u32_turned-first.ensures.1, c.u32_turned-second.ensures.1, turn_eight _ _ _ c.u32_turned-second.ensures.0 e))

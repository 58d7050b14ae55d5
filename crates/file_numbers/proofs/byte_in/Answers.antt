-- `file_numbers::byte_in` meets its contract.
-- Assumes nothing.
use borrow.Author.Rules.{rules}
use mathlib.Core.Path.{sym}
use Rattle.file_numbers.proofs.ByteLaws.{number_one}
use Rattle.file_numbers.proofs.byte_in.Goals as goal

pub returns : goal.returns
returns c =
    let a = c.before.args in
    sym (number_one a.file.now a.at (search rules))

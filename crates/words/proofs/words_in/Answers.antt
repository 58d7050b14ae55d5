-- `words::words_in` meets its contract.
-- Assumes nothing.
use Prim.Native.Nat.{◌+◌, ◌*◌}
use mathlib.Core.Path.{sym, ◌∙◌}
use Rattle.file_numbers.specs.Numbers.{clause_at}
use borrow.Author.Rules.{rules}
use Rattle.file_numbers.proofs.ByteLaws.{number_in}
use Rattle.words.specs.Words.{words_at}
use Rattle.words.proofs.words_in.Goals as goal

pub returns : goal.returns
unfolding words_at clause_at
returns c =
    let a = c.args in
    let e₁ = c.u64_in.ensures ∙ sym (number_in 8 a.file.now (a.at + 16 * a.i) (search rules)) in
    let e₂ = c.u64_in-2.ensures ∙ sym (number_in 8 a.file.now (a.at + 16 * a.i + 8) (search rules)) in
    cc

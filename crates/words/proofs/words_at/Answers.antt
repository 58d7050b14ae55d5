-- `words::words_at` meets its contract.
-- Assumes nothing.
use Rattle.words.specs.Words.{words_at}
use Rattle.file_numbers.specs.Numbers.{clause_at}
use Rattle.words.proofs.words_at.Goals as goal

pub returns : goal.returns
unfolding words_at clause_at
returns c = cc

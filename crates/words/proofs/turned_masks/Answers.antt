-- `words::turned_masks` meets its contract.
-- Assumes nothing.
use Rattle.words.specs.Words.{turned_masks}
use Rattle.words.proofs.turned_masks.Goals as goal

pub returns : goal.returns
unfolding turned_masks
returns c = cc

-- `words::four_hit` meets its contract.
-- Assumes nothing.
use Rattle.words.proofs.HitLaws.{four_zero}
use Rattle.words.specs.Words.{Misses, words_at, turned_masks}
use Rattle.words.proofs.four_hit.Goals as goal

pub returns : goal.returns
returns c =
    let a = c.args in
    four_zero (λ j. Misses (turned_masks a.m) (words_at a.file.now a.at j)) a.i _ _ _ _
    c.hit-a.ensures.0 c.hit-b.ensures.0 c.hit-c.ensures.0
    c.hit-d.ensures.0

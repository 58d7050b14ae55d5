-- `parts::Parts::pair` meets its contract.
-- Assumes nothing.
use Rattle.parts.proofs.PartLaws.{sides_are}
use Rattle.parts.proofs.Parts.pair.Goals as goal

pub returns : goal.returns
returns c = sides_are _ _ _ _ c.one.ensures c.none.ensures c.one-2.ensures

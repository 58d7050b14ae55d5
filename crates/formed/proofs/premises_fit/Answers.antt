-- `formed::premises_fit` meets its contract: by the three places as one number.
-- Assumes nothing.
use borrow.Author.Rules.{rules}
use Rattle.formed.proofs.FormedLaws.{shifted, places_fit}
use Rattle.formed.proofs.premises_fit.Goals as goal

pub returns : goal.returns
returns c =
    let s = c.args in
    rw (shifted s.count c.requires)
    (places_fit s.premises.first s.premises.second s.premises.third s.k (search rules) (search rules) (search rules) s.count c.requires)

-- `is_lawful` meets its contract.
-- Assumes nothing.
use mathlib.Core.Path.{refl}
use Rattle.meaning.specs.Rounds.{lawful_count}
use Rattle.verifier.proofs.is_lawful.Goals as goal

pub returns : goal.returns
unfolding lawful_count
returns c = refl

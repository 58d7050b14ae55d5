-- `propagation::pass_span` meets its contract.
-- Assumes nothing.
use Rattle.propagation.proofs.PassLaws.{passed_any}
use Rattle.propagation.proofs.pass_span.Goals as goal

pub returns-in-None : goal.returns-in-None
returns-in-None c = passed_any _ _ _ _ c.pass_words.ensures

-- `propagation::fact_clause` meets its contract.
-- Assumes nothing.
use Rattle.propagation.specs.Clauses.{fact_clause}
use Rattle.propagation.proofs.fact_clause.Goals as goal

pub returns : goal.returns
unfolding fact_clause
returns c = cc

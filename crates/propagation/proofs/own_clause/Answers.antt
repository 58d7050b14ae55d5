-- `propagation::own_clause` meets its contract: each case gives its own clause.
-- Assumes nothing.
use Rattle.propagation.specs.Clauses.{fact_clause, clause_count, own_clause}
use Rattle.propagation.proofs.own_clause.Goals as goal

-- the initial states and the goal have a clause for each of 64 facts
pub fact_clause-requires : goal.fact_clause-requires
unfolding clause_count
fact_clause-requires c = rw c.in-Init.is at c.requires

pub fact_clause-requires-in-Goal : goal.fact_clause-requires-in-Goal
unfolding clause_count
fact_clause-requires-in-Goal c = rw c.in-Goal.is at c.requires

pub returns-in-Init : goal.returns-in-Init
unfolding own_clause
returns-in-Init c =
    rw c.in-Init.is (rw c.without.ensures at c.fact_clause.ensures)

pub returns-in-Empty : goal.returns-in-Empty
unfolding own_clause
returns-in-Empty c = rw c.in-Empty.is c.no_literal.ensures

pub returns-in-Goal : goal.returns-in-Goal
unfolding own_clause fact_clause
returns-in-Goal c = rw c.in-Goal.is c.fact_clause-in-Goal.ensures

pub returns-in-Explicit : goal.returns-in-Explicit
unfolding own_clause
returns-in-Explicit c = rw c.in-Explicit.is c.no_literal-in-Explicit.ensures

pub returns-in-Horn : goal.returns-in-Horn
unfolding own_clause
returns-in-Horn c = rw c.in-Horn.is c.no_literal-in-Horn.ensures

pub returns-in-TwoCnf : goal.returns-in-TwoCnf
unfolding own_clause
returns-in-TwoCnf c = rw c.in-TwoCnf.is c.no_literal-in-TwoCnf.ensures

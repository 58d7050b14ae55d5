-- `propagation::clause_count` meets its contract: each case gives its own count.
-- Assumes nothing.
use Rattle.propagation.specs.Clauses.{clause_count}
use Rattle.std.proofs.Common.{refl}
use Rattle.propagation.proofs.clause_count.Goals as goal

pub returns-in-Empty : goal.returns-in-Empty
unfolding clause_count
returns-in-Empty c = rw c.in-Empty.is refl

pub returns-in-Init : goal.returns-in-Init
unfolding clause_count
returns-in-Init c = rw c.in-Init.is refl

pub returns-in-Goal : goal.returns-in-Goal
unfolding clause_count
returns-in-Goal c = rw c.in-Goal.is refl

pub returns-in-Explicit : goal.returns-in-Explicit
unfolding clause_count
returns-in-Explicit c = rw c.in-Explicit.is refl

pub returns-in-Horn : goal.returns-in-Horn
unfolding clause_count
returns-in-Horn c = rw c.in-Horn.is refl

pub returns-in-TwoCnf : goal.returns-in-TwoCnf
unfolding clause_count
returns-in-TwoCnf c = rw c.in-TwoCnf.is refl

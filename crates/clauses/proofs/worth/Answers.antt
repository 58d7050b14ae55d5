-- `clauses::worth` meets its contract.
-- Assumes nothing.
use Rattle.clauses.proofs.StartLaws.{worth_two, worth_horn}
use Rattle.clauses.proofs.worth.Goals as goal

pub returns-then-q : goal.returns-then-q
returns-then-q c = worth_two _ _ _ c.args.q.now.usable _ c.if-q.true c.satisfiable.ensures

pub returns : goal.returns
returns c = worth_horn _ _ _ c.args.q.now.usable _ c.if-q.false

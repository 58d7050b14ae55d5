-- `index::order_sets` meets its contract. The invariant: the rows of the first `e` sets are there.
-- Assumes nothing.
use Rattle.certificate.specs.Rows.{WithRows}
use Rattle.certificate.proofs.index.order_sets.Given as goal

abbrev pub invariant-loop-e : goal.invariant-loop-e
invariant-loop-e l = WithRows l.file l.e l.initial.index l.index

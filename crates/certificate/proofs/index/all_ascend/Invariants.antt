-- `index::all_ascend` meets its contract. The invariant: the states of the first `e` sets ascend.
-- Assumes nothing.
use Rattle.certificate.specs.Rows.{AllAscend}
use Rattle.certificate.proofs.index.all_ascend.Given as goal

abbrev pub invariant-loop-e : goal.invariant-loop-e
invariant-loop-e l = AllAscend l.file l.index l.e

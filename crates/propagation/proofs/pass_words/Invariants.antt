-- `propagation::pass_words` meets its contract.
-- Assumes nothing.
use mathlib.Core.Bool.{true}
use Rattle.propagation.specs.Clauses.{OfWords, Below}
use Rattle.propagation.specs.Propagation.{PassedTo}
use Rattle.propagation.proofs.pass_words.Given as goal

abbrev pub invariant-loop-i : goal.invariant-loop-i
invariant-loop-i l = PassedTo true (Below (OfWords l.file l.s.at l.by) l.i) l.initial.x l.x

-- `propagation::clause_at` meets its contract: the clause is read, or is the set's own.
-- Assumes nothing.
use mathlib.Core.Path.{sym, ◌∙◌}
use Rattle.propagation.proofs.WordsLaws.{clause_there, clause_own}
use Rattle.propagation.proofs.clause_at.Goals as goal

pub returns-in-Some : goal.returns-in-Some
returns-in-Some c =
    c.words_at.ensures ∙ sym (clause_there _ _ _ _ (sym c.words_of.ensures ∙ c.in-Some.is))

pub returns-in-None : goal.returns-in-None
returns-in-None c =
    c.own_clause.ensures ∙ sym (clause_own _ _ _ _ (sym c.words_of.ensures ∙ c.in-None.is))

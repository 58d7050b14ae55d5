-- `propagation::pass_leaf` meets its contract: the clauses are read, or are the set's own.
-- Assumes nothing.
use mathlib.Core.Path.{sym, ◌∙◌}
use Rattle.propagation.proofs.PassLaws.{passed_any}
use Rattle.propagation.proofs.WordsLaws.{ruled_there, based_there, passed_there, passed_own}
use Rattle.propagation.proofs.pass_leaf.Goals as goal

pub pass_span-requires-clause-count_in_bounds : goal.pass_span-requires-clause-count_in_bounds
pass_span-requires-clause-count_in_bounds c =
    (ruled_there _ _ _ (sym c.words_of.ensures ∙ c.in-Some.is) c.requires.clausal).inside

pub pass_span-requires-clause-based : goal.pass_span-requires-clause-based
pass_span-requires-clause-based c =
    rw c.effect_of-by.ensures (based_there _ _ _ _ _ c.args.base _ (sym c.words_of.ensures ∙ c.in-Some.is) c.requires.based)

pub returns-in-Some : goal.returns-in-Some
returns-in-Some c =
    passed_there c.args.file.now c.args.k.ends c.args.leaf.set _ _ _ c.pass_span.result (sym c.words_of.ensures ∙ c.in-Some.is)
    (rw c.effect_of-by.ensures at c.pass_span.ensures)

pub returns-in-None : goal.returns-in-None
returns-in-None c =
    passed_own c.args.file.now c.args.k.ends c.args.leaf.set _ _ _ c.pass_own.result (sym c.words_of.ensures ∙ c.in-None.is)
    (passed_any c.args.k.two _ _ c.pass_own.result (rw c.effect_of-by.ensures at c.pass_own.ensures))

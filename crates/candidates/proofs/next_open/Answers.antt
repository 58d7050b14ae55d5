-- `candidates::next_open` meets its contract: only clauses in the file are passed over.
-- Assumes nothing.
use mathlib.Core.Path.{sym, ◌∙◌}
use native.Mathlib.Omega.{arith}
use Rattle.candidates.proofs.OpenLaws.{opened_words}
use Rattle.propagation.proofs.WordsLaws.{count_there, inside_there}
use Rattle.candidates.proofs.next_open.Goals as goal

pub next_hit-requires : goal.next_hit-requires
next_hit-requires c =
    let e = sym c.words_of.ensures ∙ c.in-Some.is in
    (omega (arith, c.requires.0, count_there _ e), inside_there _ _ e (c.requires.1 c.if-before.true))

pub returns-in-Some-clause-opens : goal.returns-in-Some-clause-opens
returns-in-Some-clause-opens c =
    let e = sym c.words_of.ensures ∙ c.in-Some.is in
    opened_words c.args.file.now c.args.set c.args.i c.args.before c.args.changed c.if-before.true e _ c.next_hit.ensures

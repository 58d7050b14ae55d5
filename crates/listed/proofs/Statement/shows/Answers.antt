-- `listed::Statement::shows` meets its contract.
-- Assumes nothing.
use mathlib.Core.Path.{sym, ◌∙◌}
use Rattle.listed.specs.Search.{told}
use Rattle.listed.proofs.ShownLaws.{shows_not_left, shows_rest}
use Rattle.listed.proofs.Statement.shows.Goals as goal

pub returns-then-each_is : goal.returns-then-each_is
unfolding told
returns-then-each_is c =
    c.each_is-then-each_is.ensures
    ∙ shows_rest _ _ _ _ _ _ _ c.requires.1 c.requires.0 (sym c.each_is.ensures ∙ c.if-each_is.true)

pub returns-else-each_is : goal.returns-else-each_is
unfolding told
returns-else-each_is c =
    c.if-each_is.false ∙ shows_not_left _ _ _ _ _ _ _ c.requires.1 c.requires.0 (sym c.each_is.ensures ∙ c.if-each_is.false)

-- `trees::is_literal` meets its contract: the constructor says it.
-- Assumes nothing.
use mathlib.Core.Path.{◌≡◌, ◌∙◌}
use mathlib.Core.Bool.{false}
use borrow.Author.Rules.{rules}
use Rattle.certificate.specs.Known.{decoded}
use Rattle.trees.proofs.TreeLaws.{literal_in, entry_literal}
use Rattle.trees.proofs.is_literal.Goals as goal

pub returns-in-Basic : goal.returns-in-Basic
unfolding literal_in
returns-in-Basic c = (search rules) ∙ entry_literal _ _ _ _ c.state_set.ensures

pub returns-in-Complement : goal.returns-in-Complement
unfolding literal_in
returns-in-Complement c = (search rules) ∙ entry_literal _ _ _ _ c.state_set.ensures

pub returns-in_default : goal.returns-in_default
unfolding literal_in
returns-in_default c =
    let s : false ≡ literal_in (decoded c.args.file.now.bytes.now) c.state_set.result = search rules in
    s ∙ entry_literal _ _ _ _ c.state_set.ensures

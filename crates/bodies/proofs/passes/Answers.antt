-- `bodies::passes` meets its contract.
-- Assumes nothing.
use mathlib.Core.Path.{ap, ◌∙◌, sym}
use mathlib.Core.Bool.{Bool}
use borrow.Author.Rules.{rules}
use Rattle.file_numbers.specs.ClauseRule.{clause_rule}
use Rattle.bodies.proofs.CountLaws.{horn_count, two_count}
use Rattle.bodies.proofs.passes.Goals as goal

pub returns-then-two : goal.returns-then-two
returns-then-two c =
    let a = c.args in
    two_count a.positive a.negative (search rules) (search rules)
    ∙ ap (λ (b : Bool). clause_rule b a.positive a.negative) (sym c.if-two.true)

pub returns-else-two : goal.returns-else-two
returns-else-two c =
    let a = c.args in
    horn_count a.positive a.negative (search rules)
    ∙ ap (λ (b : Bool). clause_rule b a.positive a.negative) (sym c.if-two.false)

-- `inclusion::is_countered`: with a bracket some action of its set, else the action that does nothing.
-- Assumes nothing.
use mathlib.Core.Path.{sym, subst, ◌∙◌}
use mathlib.Core.Logic.{◌↔◌}
use mathlib.Core.Bool.{Bool}
use lib.Dec.{T}
use Rattle.task.specs.Inner.{no_action}
use Rattle.inclusion.specs.Search.{WithBracket}
use Rattle.inclusion.proofs.is_countered.Goals as goal

pub returns : goal.returns
unfolding no_action
returns c =
    let q = sym c.has_bracket.ensures ∙ c.if-has_bracket.false in
    subst (λ (b : Bool). T c.one_refutes.result ↔ WithBracket c.args.file.now.entries.bytes.now c.args.file.now.ends c.args.x.now.left.now c.args.x.now.right.now c.args.x.now.told b)
    (sym q) c.one_refutes.ensures

-- `membership::meets_all` meets its contract.
-- Assumes nothing.
use mathlib.Core.Path.{ap, sym, ◌∙◌}
use borrow.Author.Rules.{rules}
use Rattle.meaning.specs.Sets.{meets}
use Rattle.membership.proofs.LoopLaws.{all_none, all_more, all_fails}
use Rattle.membership.proofs.meets_all.Goals as goal

pub loop-i-init : goal.loop-i-init
loop-i-init c = all_none _

pub returns-then-not-meets : goal.returns-then-not-meets
returns-then-not-meets c =
    all_fails _ _ c.loop-i.i (search rules) (ap (meets _) (sym c.words_in.ensures) ∙ sym c.meets.ensures ∙ c.if-not-meets.true)

pub loop-i-preserved : goal.loop-i-preserved
loop-i-preserved c =
    all_more _ _ c.loop-i.invariant (ap (meets _) (sym c.words_in.ensures) ∙ sym c.meets.ensures ∙ c.if-not-meets.false)

-- `dead::unsolvable` meets its contract: CI's and CG's tests, and nothing matches a judgement of another kind.
-- Assumes nothing.
use mathlib.Core.Path.{◌∙◌, ap}
use Rattle.patterns.specs.Matched.{matched}
use Rattle.rules.proofs.RuleLaws.{listed, not_dead, not_unsolvable, other_among}
use Rattle.dead.proofs.DeadRules.{ci, cg}
use Rattle.rules.proofs.Dispatch.{arm}
use Rattle.dead.proofs.unsolvable.Goals as goal

pub returns-in_default : goal.returns-in_default
unfolding listed
returns-in_default c = λ js. other_among _ 13 14 0 3 _ _ tt c.requires (not_unsolvable _ c.in_default.not-Unsolvable)

pub returns-in_default-p : goal.returns-in_default-p
unfolding listed
returns-in_default-p c = λ js. other_among _ 13 14 1 0 _ _ tt c.requires (not_dead _ c.in_default-p.not-Dead)

pub returns-in-13 : goal.returns-in-13
unfolding listed
returns-in-13 c =
    λ js. arm _ 13 _ _ c.in-13.is (c.is_init.ensures ∙ ap matched (ci _ _))
    c.in-Unsolvable.is (c.in-Dead.is, tt)

pub returns-in-14 : goal.returns-in-14
unfolding listed
returns-in-14 c =
    λ js. arm _ 14 _ _ c.in-14.is (c.is_goal.ensures ∙ ap matched (cg _ _))
    c.in-Unsolvable.is (c.in-Dead.is, tt)

-- `dead::by_rule` meets its contract: each arm is its rule's, or that of the rules which share premises.
-- Assumes nothing.
use mathlib.Core.Path.{refl, ap, ◌∙◌}
use native.Mathlib.Omega.{arith}
use Rattle.patterns.specs.Matched.{matched}
use Rattle.rules.proofs.RuleLaws.{listed, not_dead, other_among}
use Rattle.dead.proofs.DeadRules.{ed}
use Rattle.rules.proofs.Dispatch.{arm}
use Rattle.dead.proofs.by_rule.Goals as goal

pub returns-in_default : goal.returns-in_default
unfolding listed
returns-in_default c = other_among _ 6 12 0 0 _ _ tt (c.requires.0, omega arith) (not_dead _ c.in_default.not-Dead)

pub returns-in-6 : goal.returns-in-6
unfolding listed
returns-in-6 c =
    arm _ 6 _ _ c.in-6.is (c.is_empty.ensures ∙ ap matched (ed _ _)) c.in-Dead.is tt

pub returns-in-7 : goal.returns-in-7
unfolding listed
returns-in-7 c = arm _ 7 _ _ c.in-7.is c.ud.ensures c.in-Dead.is (refl, (refl, tt))

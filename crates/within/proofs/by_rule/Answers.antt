-- `within::by_rule` meets its contract: each arm is its rule's, or that of the rules with two inclusions for premises.
-- Assumes nothing.
use mathlib.Core.Path.{refl}
use Rattle.rules.proofs.RuleLaws.{listed, not_within, other_among}
use Rattle.rules.proofs.Dispatch.{arm}
use Rattle.within.proofs.by_rule.Goals as goal

pub returns-in_default : goal.returns-in_default
unfolding listed
returns-in_default c = λ js. other_among _ 20 28 0 1 _ _ tt c.requires (not_within _ c.in_default.not-Within)

pub returns-in_default-p : goal.returns-in_default-p
unfolding listed
returns-in_default-p c = λ js. other_among _ 20 28 1 1 _ _ tt c.requires (not_within _ c.in_default-p.not-Within)

pub returns-in-23 : goal.returns-in-23
unfolding listed
returns-in-23 c =
    λ js. arm _ 23 _ _ c.in-23.is c.at_fewer.ensures c.in-Within.is
    (c.in-Within-p.is, (refl, tt))

pub returns-in-27 : goal.returns-in-27
unfolding listed
returns-in-27 c =
    λ js. arm _ 27 _ _ c.in-27.is c.pr.ensures c.in-Within.is (c.in-Within-p.is, tt)

pub returns-in-28 : goal.returns-in-28
unfolding listed
returns-in-28 c =
    λ js. arm _ 28 _ _ c.in-28.is c.rp.ensures c.in-Within.is (c.in-Within-p.is, tt)

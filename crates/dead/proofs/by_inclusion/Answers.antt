-- `dead::by_inclusion` meets its contract: each arm is its rule's, and each of the rules asks for an inclusion and a dead set.
-- Assumes nothing.
use mathlib.Core.Path.{refl}
use Rattle.rules.proofs.RuleLaws.{listed, not_dead, not_within, other_among}
use Rattle.rules.proofs.Dispatch.{arm}
use Rattle.dead.proofs.by_inclusion.Goals as goal

pub returns-in_default : goal.returns-in_default
unfolding listed
returns-in_default c = other_among _ 8 12 1 1 _ _ tt c.requires (not_within _ c.in_default.not-Within)

pub returns-in_default-q : goal.returns-in_default-q
unfolding listed
returns-in_default-q c = other_among _ 8 12 2 0 _ _ tt c.requires (not_dead _ c.in_default-q.not-Dead)

pub returns-in-8 : goal.returns-in-8
unfolding listed
returns-in-8 c =
    arm _ 8 _ _ c.in-8.is (c.sd.ensures _) refl (c.in-Within.is, (c.in-Dead.is, tt))

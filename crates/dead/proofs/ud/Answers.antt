-- `dead::ud` meets its contract: UD's test, and nothing matches a judgement of another kind.
-- Assumes nothing.
use mathlib.Core.Path.{◌∙◌, ap}
use Rattle.patterns.specs.Matched.{matched}
use Rattle.rules.proofs.RuleLaws.{listed, not_dead, other_said}
use Rattle.dead.proofs.DeadRules.{ud}
use Rattle.dead.proofs.ud.Goals as goal

pub returns-in_default : goal.returns-in_default
unfolding listed
returns-in_default c = other_said _ 7 1 0 _ _ tt (not_dead _ c.in_default.not-Dead)

pub returns-in_default-q : goal.returns-in_default-q
unfolding listed
returns-in_default-q c = other_said _ 7 2 0 _ _ tt (not_dead _ c.in_default-q.not-Dead)

pub returns : goal.returns
returns c = rw (c.in-Dead.is, c.in-Dead-q.is) (c.is_union.ensures ∙ ap matched (ud _ _ _ _))

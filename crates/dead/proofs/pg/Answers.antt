-- `dead::pg` meets its contract: PG's tests in turn, and nothing matches a judgement of another kind.
-- Assumes nothing.
use mathlib.Core.Path.{◌∙◌, ap}
use borrow.Author.Rules.{rules}
use Rattle.patterns.specs.Matched.{matched}
use Rattle.rules.proofs.RuleLaws.{listed, not_dead, other_said}
use Rattle.dead.proofs.DeadRules.{pg}
use Rattle.patterns.proofs.Views.{went_on, stopped}
use Rattle.dead.proofs.pg.Goals as goal

pub returns-in_default : goal.returns-in_default
unfolding listed
returns-in_default c = other_said _ 9 3 0 _ _ tt (not_dead _ c.in_default.not-Dead)

pub returns-in_err-is_progression_of_all : goal.returns-in_err-is_progression_of_all
returns-in_err-is_progression_of_all c =
    rw c.in-Dead.is
    (stopped _ _ c.in_err-is_progression_of_all.ensures (search rules)
    ∙ ap matched (pg _ _ _ _ _ _))

pub returns-in_err-is_union : goal.returns-in_err-is_union
returns-in_err-is_union c =
    rw c.in-Dead.is
    (went_on _ _ c.in_ok-is_progression_of_all.ensures
    (stopped _ _ c.in_err-is_union.ensures (search rules))
    ∙ ap matched (pg _ _ _ _ _ _))

pub returns : goal.returns
returns c =
    rw c.in-Dead.is
    (went_on _ _ c.in_ok-is_progression_of_all.ensures
    (went_on _ _ c.in_ok-is_union.ensures
    c.is_goal_part.ensures)
    ∙ ap matched (pg _ _ _ _ _ _))

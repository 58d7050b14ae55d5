-- `within::di` meets its contract: DI's tests in turn, and nothing matches an entry of another kind.
-- Assumes nothing.
use mathlib.Core.Path.{◌∙◌, ap}
use borrow.Author.Rules.{rules}
use Rattle.patterns.specs.Matched.{matched}
use Rattle.rules.proofs.RuleLaws.{opened}
use Rattle.within.proofs.WithinRules.{di, di_none}
use Rattle.patterns.proofs.Views.{no_intersection, no_union, taken, refused, went_on, stopped}
use Rattle.within.proofs.di.Goals as goal

pub returns-in_default : goal.returns-in_default
unfolding opened
returns-in_default c = refused _ (rw (no_intersection _ _ c.state_set.ensures c.in_default.not-Intersection))

pub returns-in_default-state_set : goal.returns-in_default-state_set
unfolding opened
returns-in_default-state_set c =
    refused _
    (rw (
      taken _ _ c.state_set.ensures c.in-Intersection.is,
      no_union _ _ c.state_set-2.ensures c.in_default-state_set.not-Union,
    ))

pub returns-in_default-state_set-2 : goal.returns-in_default-state_set-2
unfolding opened
returns-in_default-state_set-2 c = refused _ (di_none _ _ _ (no_union _ _ c.state_set-3.ensures c.in_default-state_set-2.not-Union))

pub returns-in_err-is_intersection : goal.returns-in_err-is_intersection
returns-in_err-is_intersection c =
    stopped _ _ c.in_err-is_intersection.ensures (search rules)
    ∙ ap matched
    (di _ _ _ _ _ _ _ _ _ (taken _ _ c.state_set.ensures c.in-Intersection.is)
    (taken _ _ c.state_set-2.ensures c.in-Union.is)
    (taken _ _ c.state_set-3.ensures c.in-Union-state_set.is))

pub returns : goal.returns
returns c =
    went_on _ _ c.in_ok-is_intersection.ensures c.is_intersection-2.ensures
    ∙ ap matched
    (di _ _ _ _ _ _ _ _ _ (taken _ _ c.state_set.ensures c.in-Intersection.is)
    (taken _ _ c.state_set-2.ensures c.in-Union.is)
    (taken _ _ c.state_set-3.ensures c.in-Union-state_set.is))

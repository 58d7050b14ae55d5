-- `listed::shown` meets its contract: the action applies nowhere, or the anchor lists no state, the initial states, or those of a span.
-- Assumes nothing.
use native.Mathlib.Nat.{pos_of_ne-zero}
use mathlib.Core.Path.{subst}
use Rattle.leaves.specs.Leaves.{leaf_in}
use Rattle.leaves.specs.Holds.{Orderly}
use Rattle.listed.proofs.ShownLaws.{each_leaf, shown_other, shown_initial, shown_some}
use Rattle.task.proofs.Names.{applies_never}
use Rattle.listed.proofs.shown.Goals as goal

-- an action that needs a fact on and off makes nothing untrue
pub returns-then-a-ne0 : goal.returns-then-a-ne0
returns-then-a-ne0 c = ((λ x. absurd x), (λ w. applies_never _ w.state (pos_of_ne-zero c.if-a-ne0.true) w.allowed))

pub returns-in-Init : goal.returns-in-Init
unfolding leaf_in
returns-in-Init c =
    let p = c.requires.anchored in shown_initial _ _ _ _ _ _ p.0 p.1 c.initial_shows.result c.in-Init.is c.initial_shows.ensures

pub returns-in-Explicit : goal.returns-in-Explicit
unfolding leaf_in
returns-in-Explicit c =
    let p = c.requires.anchored in
    let o = subst (Orderly _ _) c.in-Explicit.is (each_leaf _ _ c.requires.each.0 _ p.0) in
    shown_some _ _ _ _ _ _ p.0 p.1 _ _ o c.in-Explicit.is c.one_shows.ensures

pub returns-in_default : goal.returns-in_default
unfolding leaf_in
returns-in_default c =
    let p = c.requires.anchored in shown_other _ _ _ _ _ _ p.0 p.1 c.in_default.not-Init c.in_default.not-Explicit

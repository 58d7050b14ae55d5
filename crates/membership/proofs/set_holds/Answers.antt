-- `membership::set_holds` meets its contract: each case by its own test.
-- Assumes nothing.
use native.Mathlib.Omega.{arith}
use Rattle.std.proofs.lemmas.Grind.{common_steps}
use mathlib.Core.Logic.{inl, inr}
use Rattle.leaves.specs.Holds.{meets_all, set_holds}
use Rattle.std.proofs.Common.{refl}
use Rattle.membership.proofs.set_holds.Goals as goal

pub returns-in-Empty : goal.returns-in-Empty
unfolding set_holds
returns-in-Empty c = rw c.in-Empty.is refl

pub returns-in-Init : goal.returns-in-Init
unfolding set_holds
returns-in-Init c = rw c.in-Init.is c.is_init.ensures

pub returns-in-Goal : goal.returns-in-Goal
unfolding set_holds
returns-in-Goal c = rw c.in-Goal.is c.is_goal.ensures

pub returns-in-Explicit : goal.returns-in-Explicit
unfolding set_holds
returns-in-Explicit c = rw c.in-Explicit.is grind (arith, common_steps)

pub returns-in-Horn : goal.returns-in-Horn
unfolding set_holds meets_all
returns-in-Horn c = elim c.in-Horn.is [ inl e ↦ rw e c.meets_all.ensures | inr e ↦ rw e c.meets_all.ensures ]

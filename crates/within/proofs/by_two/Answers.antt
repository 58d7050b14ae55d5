-- `within::by_two` meets its contract: each arm is its rule's, and each of the rules asks for an inclusion of state sets.
-- Assumes nothing.
use mathlib.Core.Path.{refl}
use Rattle.rules.proofs.RuleLaws.{listed, not_within, other_but}
use Rattle.rules.proofs.Dispatch.{arm}
use Rattle.within.proofs.by_two.Goals as goal

pub returns-in_default : goal.returns-in_default
unfolding listed
returns-in_default c =
    λ js. other_but _ 20 26 23 2 1 _ _ tt c.requires.le_rule c.requires.fact (not_within _ c.in_default.not-Within)

pub returns-in-20 : goal.returns-in-20
unfolding listed
returns-in-20 c = λ js. arm _ 20 _ _ c.in-20.is c.su.ensures refl (refl, (c.in-Within.is, tt))

pub returns-in-21 : goal.returns-in-21
unfolding listed
returns-in-21 c = λ js. arm _ 21 _ _ c.in-21.is c.si.ensures refl (refl, (c.in-Within.is, tt))

pub returns-in-22 : goal.returns-in-22
unfolding listed
returns-in-22 c = λ js. arm _ 22 _ _ c.in-22.is (c.st.ensures _) refl (refl, (c.in-Within.is, tt))

pub returns-in-24 : goal.returns-in-24
unfolding listed
returns-in-24 c = λ js. arm _ 24 _ _ c.in-24.is c.au.ensures refl (refl, (c.in-Within.is, tt))

pub returns-in-25 : goal.returns-in-25
unfolding listed
returns-in-25 c = λ js. arm _ 25 _ _ c.in-25.is c.pt.ensures refl (refl, (c.in-Within.is, tt))

pub returns-in-26 : goal.returns-in-26
unfolding listed
returns-in-26 c = λ js. arm _ 26 _ _ c.in-26.is c.pu.ensures refl (refl, (c.in-Within.is, tt))

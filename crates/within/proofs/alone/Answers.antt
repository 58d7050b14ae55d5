-- `within::alone` meets its contract: each arm is its rule's, and none of the rules gives a judgement of another kind.
-- Assumes nothing.
use Rattle.rules.proofs.RuleLaws.{listed, not_within, other_among}
use Rattle.rules.proofs.Dispatch.{arm}
use Rattle.within.proofs.alone.Goals as goal

pub returns-in_default : goal.returns-in_default
unfolding listed
returns-in_default c = λ js. other_among _ 15 19 0 1 _ _ tt c.requires (not_within _ c.in_default.not-Within)

pub returns-in-15 : goal.returns-in-15
unfolding listed
returns-in-15 c = λ js. arm _ 15 _ _ c.in-15.is c.ur.ensures c.in-Within.is tt

pub returns-in-16 : goal.returns-in-16
unfolding listed
returns-in-16 c = λ js. arm _ 16 _ _ c.in-16.is c.ul.ensures c.in-Within.is tt

pub returns-in-17 : goal.returns-in-17
unfolding listed
returns-in-17 c = λ js. arm _ 17 _ _ c.in-17.is c.ir.ensures c.in-Within.is tt

pub returns-in-18 : goal.returns-in-18
unfolding listed
returns-in-18 c = λ js. arm _ 18 _ _ c.in-18.is c.il.ensures c.in-Within.is tt

pub returns-in-19 : goal.returns-in-19
unfolding listed
returns-in-19 c = λ js. arm _ 19 _ _ c.in-19.is c.di.ensures c.in-Within.is tt

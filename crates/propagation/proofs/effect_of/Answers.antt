-- `propagation::effect_of` meets its contract.
-- Assumes nothing.
use Rattle.propagation.specs.Clauses.{acting, effect_of}
use Rattle.propagation.proofs.CodeLaws.{no_effect}
use Rattle.std.proofs.Common.{refl}
use Rattle.propagation.proofs.effect_of.Goals as goal

pub returns-then-through : goal.returns-then-through
unfolding effect_of acting
returns-then-through c = rw (c.if-through.true, c.without.ensures) refl

pub returns : goal.returns
unfolding acting
returns c = rw c.if-through.false no_effect

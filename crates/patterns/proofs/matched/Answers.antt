-- `patterns::matched` meets its contract: by cases.
-- Assumes nothing.
use Rattle.patterns.specs.Matched.{matched}
use Rattle.std.proofs.Common.{refl}
use Rattle.patterns.proofs.matched.Goals as goal

pub returns-then-holds : goal.returns-then-holds
unfolding matched
returns-then-holds c = rw c.if-holds.true refl

pub returns-else-holds : goal.returns-else-holds
unfolding matched
returns-else-holds c = rw c.if-holds.false refl

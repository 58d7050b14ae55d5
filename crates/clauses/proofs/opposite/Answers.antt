-- `clauses::opposite` meets its contract.
-- Assumes nothing.
use native.Mathlib.Omega.{arith}
use Rattle.clauses.proofs.AssumeLaws.{opposed, opposed_none}
use Rattle.clauses.proofs.opposite.Goals as goal

pub returns-then-on-off-ne0 : goal.returns-then-on-off-ne0
returns-then-on-off-ne0 c = opposed_none c.args.x c.args.c c.if-on-off-ne0.true

pub returns : goal.returns
returns c = opposed c.args.x c.args.c (omega (arith, c.if-on-off-ne0.false))

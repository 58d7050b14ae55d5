-- `propagation::solve` meets its contract.
-- Assumes nothing.
use mathlib.Core.Path.{refl}
use borrow.Author.Rules.{rules}
use Rattle.propagation.proofs.PassLaws.{solved_fixed, solved_from, unlike_less}
use Rattle.task.proofs.Tests.{holds}
use native.Mathlib.Omega.{arith}
use Rattle.propagation.proofs.solve.Goals as goal

pub returns-then-alike : goal.returns-then-alike
returns-then-alike c =
    solved_from c.args.start _ (search rules) refl
    (solved_fixed c.loop-y.invariant.0 c.in_ok-y.ensures (c.alike.ensures.finds (holds c.if-alike.true)))

pub loop-y-smaller : goal.loop-y-smaller
loop-y-smaller c = omega (arith, unlike_less c.alike.ensures c.if-alike.false c.in_ok-y.ensures.goes)

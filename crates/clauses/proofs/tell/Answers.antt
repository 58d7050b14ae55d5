-- `clauses::tell` meets its contract.
-- Assumes nothing.
use Rattle.clauses.proofs.SeekLaws.{fixed_already, fixed_off, fixed_on}
use Rattle.clauses.proofs.tell.Goals as goal

pub returns-then-x-i-eq1 : goal.returns-then-x-i-eq1
returns-then-x-i-eq1 c = fixed_already _ _ c.args.x c.args.i c.if-x-i-eq1.true

pub returns-in-Some : goal.returns-in-Some
returns-in-Some c = fixed_off _ _ _ c.args.i _ (rw c.fact-bit.ensures at c.in-Some.ensures)

pub returns : goal.returns
returns c =
    fixed_on _ _ _ c.args.i c.assume-2.result (rw c.fact-bit.ensures at c.in_default.ensures) (rw c.fact-bit.ensures at c.assume-2.ensures)

-- `bodies::two_references` meets its contract.
-- Assumes nothing.
use borrow.Author.Rules.{rules}
use Rattle.meaning.specs.Layout.{reference}
use Rattle.bodies.proofs.Faults.{from_on, from_stop, from_unit}
use Rattle.bodies.proofs.two_references.Goals as goal

pub returns-in_err-reference : goal.returns-in_err-reference
returns-in_err-reference c =
    let a = c.args in
    from_stop a.part.now.start (reference a.part.now.bytes.now a.bound 0) _ c.in_err-reference.was c.reference.ensures (search rules)

pub returns : goal.returns
returns c =
    let a = c.args in
    from_on a.part.now.start (reference a.part.now.bytes.now a.bound 0) _ c.in_ok-reference.was c.reference.ensures
    (from_unit a.part.now.start (reference a.part.now.bytes.now a.other 2) c.reference-2.ensures)

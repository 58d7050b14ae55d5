-- `bodies::body` meets its contract.
-- Assumes nothing.
use Prim.Native.Nat.{◌/◌}
use lib.ListN.{length}
use Rattle.meaning.specs.Layout.{items, ascending, mask, reference, clause}
use Rattle.file_numbers.specs.ClauseRule.{clause_rule}
use Rattle.bodies.proofs.Faults.{from_unit}
use Rattle.bodies.proofs.BodyLaws.{form_says}
use Rattle.bodies.proofs.body.Goals as goal

pub returns-in-Numbers : goal.returns-in-Numbers
returns-in-Numbers c =
    let a = c.args in
    form_says c.in-Numbers.is a.part.now.bytes.now a.part.now.start
    (from_unit a.part.now.start (ascending (reference a.part.now.bytes.now c.in-Numbers.bound) 2 0 0 (length a.part.now.bytes.now / 2))
    c.numbers.ensures)

pub returns-in-States : goal.returns-in-States
returns-in-States c =
    let a = c.args in
    form_says c.in-States.is a.part.now.bytes.now a.part.now.start
    (from_unit a.part.now.start (items (mask a.part.now.bytes.now c.in-States.facts) 8 0 (length a.part.now.bytes.now / 8)) c.states.ensures)

pub returns-in-Clauses : goal.returns-in-Clauses
returns-in-Clauses c =
    let a = c.args in
    form_says c.in-Clauses.is a.part.now.bytes.now a.part.now.start
    (from_unit a.part.now.start (items (clause a.part.now.bytes.now c.in-Clauses.facts (clause_rule c.in-Clauses.two)) 16 0 (length a.part.now.bytes.now / 16))
    c.clauses.ensures)

pub returns-in-One : goal.returns-in-One
returns-in-One c =
    let a = c.args in
    form_says c.in-One.is a.part.now.bytes.now a.part.now.start
    (from_unit a.part.now.start (reference a.part.now.bytes.now c.in-One.bound 0) c.reference.ensures)

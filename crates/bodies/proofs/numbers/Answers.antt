-- `bodies::numbers` meets its contract.
-- Assumes nothing.
use Prim.Native.Nat.{◌+◌, ◌*◌, ◌/◌}
use native.Mathlib.Omega.{arith}
use borrow.Author.Rules.{rules}
use lib.ListN.{length}
use Rattle.meaning.specs.Layout.{reference}
use Rattle.bodies.proofs.Faults.{found_from}
use Rattle.bodies.proofs.FieldLaws.{reference_found}
use Rattle.bodies.proofs.BodyLaws.{numbers_end, number_bad, number_low, number_next}
use Rattle.bodies.proofs.numbers.Goals as goal

pub returns-in_err-reference : goal.returns-in_err-reference
returns-in_err-reference c =
    let a = c.args in
    let l = c.loop-i in
    number_bad (reference a.part.now.bytes.now a.bound) 2 (length a.part.now.bytes.now / 2) a.part.now.start l.i l.low (2 * l.i) l.invariant
    (search rules) c.in_err-reference.was c.reference.ensures (search rules)

pub returns-then-x-low : goal.returns-then-x-low
returns-then-x-low c =
    let a = c.args in
    let l = c.loop-i in
    let r = found_from a.part.now.start (reference a.part.now.bytes.now a.bound (2 * l.i)) c.in_ok-reference.was c.reference.ensures in
    let e = reference_found a.part.now.bytes.now (2 * l.i) a.bound (search rules) r.1 in
    number_low (reference a.part.now.bytes.now a.bound) 2 (length a.part.now.bytes.now / 2) a.part.now.start l.i l.low (2 * l.i) l.invariant
    (search rules) r.1 (omega (arith, e, c.u16_at-x.ensures))

pub loop-i-preserved : goal.loop-i-preserved
loop-i-preserved c =
    let a = c.args in
    let l = c.loop-i in
    let r = found_from a.part.now.start (reference a.part.now.bytes.now a.bound (2 * l.i)) c.in_ok-reference.was c.reference.ensures in
    let e = reference_found a.part.now.bytes.now (2 * l.i) a.bound (search rules) r.1 in
    number_next (reference a.part.now.bytes.now a.bound) 2 (length a.part.now.bytes.now / 2) a.part.now.start l.i l.low (2 * l.i) l.invariant
    (search rules) r.1 _ (2 * (l.i + 1)) (omega (arith, e, c.u16_at-x.ensures)) (omega arith) (omega (arith, e, c.u16_at-x.ensures))

pub returns : goal.returns
returns c =
    let a = c.args in
    let l = c.loop-i in
    numbers_end (reference a.part.now.bytes.now a.bound) 2 (length a.part.now.bytes.now / 2) a.part.now.start l.i l.low (2 * l.i) l.invariant
    (search rules)

-- `bodies::reference` meets its contract.
-- Assumes nothing.
use mathlib.Core.Path.{ap}
use Rattle.meaning.specs.Layout.{reference}
use Rattle.bodies.proofs.Faults.{forget, from_fine, from_refused}
use Rattle.bodies.proofs.FieldLaws.{reference_in, reference_high}
use borrow.Author.Rules.{rules}
use Rattle.bodies.proofs.reference.Goals as goal

pub returns-then-u16_at-bound : goal.returns-then-u16_at-bound
returns-then-u16_at-bound c =
    let a = c.args in
    from_fine a.part.now.start (reference a.part.now.bytes.now a.bound a.at)
    (ap forget (reference_in a.part.now.bytes.now a.at a.bound c.u16_at.ensures (search rules) (search rules)))

pub returns-else-u16_at-bound : goal.returns-else-u16_at-bound
returns-else-u16_at-bound c =
    let a = c.args in
    from_refused a.part.now.start (reference a.part.now.bytes.now a.bound a.at) 6 a.at
    (ap forget (reference_high a.part.now.bytes.now a.at a.bound c.u16_at.ensures (search rules) (search rules)))

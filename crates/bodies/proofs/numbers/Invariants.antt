-- `bodies::numbers` meets its contract.
-- The loop's invariant: the numbers that are left say what all of them say.
-- Assumes nothing.
use Prim.Native.Nat.{◌*◌, ◌/◌}
use lib.ListN.{length}
use Rattle.meaning.specs.Layout.{reference}
use Rattle.bodies.proofs.BodyLaws.{AscendingLeft}
use Rattle.bodies.proofs.numbers.Given as goal

abbrev pub invariant-loop-i : goal.invariant-loop-i
invariant-loop-i l = AscendingLeft (reference l.part.bytes.now l.bound) 2 (length l.part.bytes.now / 2) l.low (2 * l.i) l.i

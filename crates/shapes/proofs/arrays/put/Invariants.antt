-- `arrays::put` meets its contract: the leaves of the entries passed so far stand in the array.
-- Assumes nothing.
use mathlib.Core.Path.{◌≡◌}
use Prim.Native.Nat.{ℕ, ◌+◌, ◌≤◌}
use mathlib.Core.Bool.{Bool}
use lib.ListN.{length, take}
use Rattle.std.specs.Prelude.{Option}
use Rattle.certificate.specs.Known.{decoded}
use Rattle.shapes.specs.Arrays.{taken, picked, Put}
use Rattle.shapes.proofs.arrays.put.Given as goal

abbrev pub invariant-loop-e : goal.invariant-loop-e
invariant-loop-e g l = record {
  few : l.n ≤ l.from + l.e-index;
  long : length l.out ≡ length l.initial.out;
  written : (turned all : Bool) → ((e : ℕ) (r : Option ℕ) → goal.F-post g l.take e r → r ≡ taken (decoded l.file.bytes.now) turned all e)
      → Put l.file.index.now (decoded l.file.bytes.now)
      (picked (decoded l.file.bytes.now) turned all l.after (take l.e-index l.e-items)) l.from l.initial.out l.out l.n;
}

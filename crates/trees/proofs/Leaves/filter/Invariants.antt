-- `trees::Leaves::filter`: of the entries passed so far those that pass the test are kept.
-- Assumes nothing.
use mathlib.Core.Path.{◌≡◌}
use Prim.Native.Nat.{ℕ, ◌≤◌}
use mathlib.Core.Bool.{Bool}
use lib.ListN.{take}
use Rattle.meaning.specs.Shapes.{keep}
use Rattle.trees.specs.Trees.{Lists}
use Rattle.trees.proofs.Leaves.filter.Given as goal

abbrev pub invariant-loop-e : goal.invariant-loop-e
invariant-loop-e g l = record {
  few : l.out.count ≤ l.e-index;
  kept : (t : ℕ → Bool) → ((e : ℕ) (r : Bool) → goal.F-post g l.wanted e r → r ≡ t e) → Lists l.out (keep t (take l.e-index l.e-items));
}

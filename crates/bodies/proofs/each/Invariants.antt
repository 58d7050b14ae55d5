-- `bodies::each` meets its contract.
-- The loop's invariant: the items that are left say what all of them say.
-- Assumes nothing.
use mathlib.Core.Path.{◌≡◌}
use Prim.Native.Nat.{ℕ, ◌-◌, ◌*◌, ◌<◌}
use Rattle.bodies.specs.Faults.{Answer, each}
use Rattle.bodies.proofs.each.Given as goal

abbrev pub invariant-loop-i : goal.invariant-loop-i
invariant-loop-i g l =
    (says : ℕ → Answer) → ((i : ℕ) (r : Answer) → i < l.count → goal.F-post g l.item (l.size * i) r → r ≡ says (l.size * i))
    → each says l.size (l.size * l.i) (l.count - l.i) ≡ each says l.size 0 l.count

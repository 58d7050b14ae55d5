-- `layout::rows::masks` meets its contract.
-- The loop's invariant: the masks that are left say what all of them say.
-- Assumes nothing.
use mathlib.Core.Path.{◌≡◌}
use Prim.Native.Nat.{◌≤◌}
use lib.ListN.{length}
use Rattle.layout.proofs.RowLaws.{MasksLeft}
use Rattle.layout.proofs.rows.masks.Given as goal

abbrev pub invariant-loop : goal.invariant-loop
invariant-loop l =
    record { same : l.r.src.now ≡ l.file; within : l.r.at ≤ length l.file; left : MasksLeft l.file l.facts l.count l.place l.counter l.r.at }

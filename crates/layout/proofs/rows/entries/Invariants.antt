-- `layout::rows::entries` meets its contract.
-- The loop's invariant: the entries that are left say what all of them say.
-- Assumes nothing.
use mathlib.Core.Path.{◌≡◌}
use Prim.Native.Nat.{◌≤◌}
use lib.ListN.{length}
use Rattle.layout.proofs.RowLaws.{EntriesLeft}
use Rattle.layout.proofs.rows.entries.Given as goal

abbrev pub invariant-loop-i : goal.invariant-loop-i
invariant-loop-i l =
    record { same : l.r.src.now ≡ l.file; within : l.r.at ≤ length l.file; left : EntriesLeft l.file l.section l.count l.place l.i l.r.at }

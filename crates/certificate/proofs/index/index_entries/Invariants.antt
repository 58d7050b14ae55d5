-- `index::index_entries` meets its contract. The loop's invariant: `at` is the place of entry k, and the table has the places of the k
-- entries before it.
-- Assumes nothing.
use mathlib.Core.Path.{◌≡◌}
use Prim.Native.Nat.{◌+◌, ◌*◌, ◌≤◌}
use Rattle.certificate.specs.Views.{entry_place}
use Rattle.certificate.specs.Index.{Indexed}
use Rattle.certificate.proofs.index.index_entries.Given as goal

abbrev pub invariant-loop-k : goal.invariant-loop-k
invariant-loop-k l =
    (l.at ≡ entry_place l.file l.first l.k) × (l.at ≤ l.first + 65537 * l.k) × Indexed l.file l.first l.k l.from l.initial.index l.index

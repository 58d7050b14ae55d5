-- `membership::Listed::search` meets its contract. The invariant: where the state is among them, it is one of those from `lo` on and
-- before `hi`, and so is the next one looked at.
-- Assumes nothing.
use Prim.Native.Nat.{◌-◌, ◌≤◌, ◌<◌, ◌^◌}
use Rattle.membership.proofs.SearchLaws.{Bracket}
use Rattle.membership.proofs.Listed.search.Given as goal

abbrev pub invariant-loop-lo : goal.invariant-loop-lo
invariant-loop-lo g l =
    Bracket l.self.bytes.now l.self.index.now l.self.span l.s l.lo l.hi × (l.lo < l.hi → (l.lo ≤ l.mid) × (l.mid < l.hi)) × (1 ≤ l.step) × (l.step < 2 ^ 33)

abbrev pub decreases-loop-lo : goal.decreases-loop-lo
decreases-loop-lo g l = l.hi - l.lo

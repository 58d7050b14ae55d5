-- `words::next_hit` meets its contract: the clauses before this one miss the masks.
-- Assumes nothing.
use Prim.Native.Nat.{◌≤◌}
use Rattle.words.specs.Words.{MissedAt, turned_masks}
use Rattle.words.proofs.next_hit.Given as goal

abbrev pub invariant-loop-j : goal.invariant-loop-j
invariant-loop-j l = (l.i ≤ l.j) × MissedAt l.file l.at (turned_masks l.m) l.i l.j

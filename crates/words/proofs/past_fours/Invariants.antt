-- `words::past_fours` meets its contract: the clauses before the next four miss the masks.
-- Assumes nothing.
use Rattle.words.specs.Words.{MissedAt, turned_masks}
use Prim.Native.Nat.{◌+◌, ◌*◌}
use Rattle.words.proofs.past_fours.Given as goal

abbrev pub invariant-loop-k : goal.invariant-loop-k
invariant-loop-k l = MissedAt l.file l.at (turned_masks l.m) l.i (l.i + 4 * l.k)

-- Version 1 as document 01 has it and version 2 as document 02, d, does; the version 2 file that says the same as one of version 1, and the
-- version 3 file that says the same as one of version 1 or 2.
-- Assumes nothing.
use Rattle.std.specs.Prelude.{ℕ, ◌+◌, ◌*◌, Bool, true, false, ◌&&◌, ◌||◌, List, ◌∷◌, ◌++◌, take, drop, leb, eqb}
use Rattle.std.specs.Int.Bits.{bit_and}
use Rattle.task.specs.Task.{Task}
use Rattle.task.specs.declared.Action.{Action}
use Rattle.meaning.specs.Result.{Result, found, ◌>>=◌, need}
use Rattle.meaning.specs.Bytes.{bytes_of, number}
use Rattle.meaning.specs.File.{File}
use Rattle.meaning.specs.Layout.{items, field, count, mask}
use Rattle.meaning.specs.declared.Reply.{Reply}
use Rattle.meaning.specs.declared.Reply.TheVariants as reply
use Rattle.meaning.specs.declared.Round.{Round}
use Rattle.meaning.specs.declared.Round.TheVariants as round
use Rattle.meaning.specs.declared.Answer.{Answer}
use Rattle.meaning.specs.declared.Answer.TheVariants as answer

-- ---- versions 1 and 2

-- document 01's event: it needs no fact off
unfoldable pub action₁ : List ℕ → ℕ → ℕ → Result Action
action₁ bytes n p = do
  a ← mask bytes n p
  b ← mask bytes n (p + 8)
  c ← mask bytes n (p + 16)
  found (record { pre = a; add = b; del = c; off = 0 })

-- document 01's task: the start is known, and the fields stand at fixed places
unfoldable pub read_task₁ : List ℕ → Result (Task × ℕ)
read_task₁ bytes = do
  v ← field bytes 1 4
  _ ← need (eqb v 1) 2 4
  n ← field bytes 1 5
  _ ← need (leb 1 n && leb n 64) 4 5
  s ← mask bytes n 6
  g ← mask bytes n 14
  m ← count bytes 0 256 22
  acts ← items (action₁ bytes n) 24 24 m
  found (record { facts = n; init = s; unknown = 0; goal = g; off = 0; actions = acts }, 24 + 24 * m)

-- that of document 02, d: the unknown facts stand behind the start
unfoldable pub read_task₂ : List ℕ → Result (Task × ℕ)
read_task₂ bytes = do
  v ← field bytes 1 4
  _ ← need (eqb v 2) 2 4
  n ← field bytes 1 5
  _ ← need (leb 1 n && leb n 64) 4 5
  s ← mask bytes n 6
  u ← mask bytes n 14
  _ ← need (eqb (bit_and s u) 0) 16 14
  g ← mask bytes n 22
  m ← count bytes 0 256 30
  acts ← items (action₁ bytes n) 24 32 m
  found (record { facts = n; init = s; unknown = u; goal = g; off = 0; actions = acts }, 32 + 24 * m)

-- ---- a version 1 file as version 2

-- its length is 8 more, its version 2, and eight zeros stand after the start
unfoldable pub twin : List ℕ → List ℕ
twin bytes = bytes_of 4 (number 4 bytes 0 + 8) ++ 2 ∷ take 9 (drop 5 bytes) ++ bytes_of 8 0 ++ drop 14 bytes

-- the refusals whose place is a byte of the file
unfoldable pub of_bytes : ℕ → Bool
of_bytes r = leb r 7 || eqb r 16 || eqb r 19

-- the place of a refusal there: a byte from 14 on has moved by 8
unfoldable pub moved_place : ℕ → ℕ → ℕ
moved_place r p = elim (of_bytes r && leb 14 p) [ true ↦ p + 8 | false ↦ p ]

-- what is said of it
unfoldable pub moved_reply : Reply → Reply
moved_reply reply.Accepted = reply.Accepted
moved_reply (reply.Refused r p) = reply.Refused r (moved_place r p)

unfoldable pub moved_round : Round → Round
moved_round round.Ended = round.Ended
moved_round (round.GoOn next) = round.GoOn next
moved_round (round.Refused r p) = round.Refused r (moved_place r p)

unfoldable pub moved_answer : Answer → Answer
moved_answer answer.In = answer.In
moved_answer answer.Out = answer.Out
moved_answer (answer.Refused r p) = answer.Refused r (moved_place r p)

-- ---- a file of version 1 or 2 as version 3

-- the same task, sets and steps; its bytes are those that are written of it
unfoldable pub as_version3 : File → File
as_version3 f = record { version = 3; task = f.task; action_sets = f.action_sets; state_sets = f.state_sets; steps = f.steps }

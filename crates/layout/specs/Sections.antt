-- Sections of a file as the code reads them, and what follows the actions.
-- Assumes nothing.
use Rattle.std.specs.Prelude.{ℕ, ◌+◌, ◌*◌, Bool, true, false, ◌&&◌, List, length, leb, eqb}
use Rattle.task.specs.declared.Ends.{Ends}
use Rattle.reader.specs.declared.TaskHead.{TaskHead}
use Rattle.entries.specs.declared.Section.{Section}
use Rattle.entries.specs.declared.Section.TheVariants.{ActionSets, StateSets}
use Rattle.meaning.specs.Result.{Result, found, ◌>>=◌, need}
use Rattle.file_numbers.specs.Numbers.{number_at}
use Rattle.meaning.specs.File.{Step}
use Rattle.meaning.specs.declared.Limits.{Limits}
use Rattle.meaning.specs.Layout.{items, goal_at, off_size, field, count, mask, off_mask, step, entries, unknown_mask}
use Rattle.entries.specs.Forms.{sets_of}

-- a lawful length, which the file's first four bytes tell
unfoldable pub is_whole : List ℕ → Bool
is_whole bytes = (leb 4 (length bytes) && leb (length bytes) 65536) && eqb (number_at 4 bytes 0 + 4) (length bytes)

-- how the task starts: the version, and the number of facts
unfoldable pub facts_at : List ℕ → Result (ℕ × ℕ)
facts_at bytes = do
  v ← field bytes 1 4
  _ ← need (leb 1 v && leb v 3) 2 4
  n ← field bytes 1 5
  _ ← need (leb 1 n && leb n 64) 4 5
  found (v, n)

-- the start, and the unknown facts
unfoldable pub start_at : List ℕ → ℕ → ℕ → Result (ℕ × ℕ)
start_at bytes v n = do
  s ← mask bytes n 6
  u ← unknown_mask bytes v n s
  found (s, u)

-- the number that stands for the unknown facts, and 0 where the version has none
unfoldable pub unknown_at : List ℕ → ℕ → ℕ
unknown_at bytes v = elim (eqb v 1) [ true ↦ 0 | false ↦ number_at 8 bytes 14 ]

-- the goal's masks: facts that are on, and facts that are off
unfoldable pub goals_at : List ℕ → ℕ → ℕ → Result (ℕ × ℕ)
goals_at bytes v n = do
  g ← mask bytes n (goal_at v)
  o ← off_mask bytes v n (goal_at v + 8)
  found (g, o)

-- the number that stands for the facts that are off, and 0 where the version has none
unfoldable pub goal_off_at : List ℕ → ℕ → ℕ
goal_off_at bytes v = elim (eqb (off_size v) 0) [ true ↦ 0 | false ↦ number_at 8 bytes (goal_at v + 8) ]

-- the task's ends, by its head
abbrev pub ends_at : List ℕ → ℕ → TaskHead → Ends
ends_at bytes v h = record { facts = h.facts; init = h.init; unknown = unknown_at bytes v; goal = h.goal; off = goal_off_at bytes v }

-- a section: its count, its entries, and the place after them
unfoldable pub section_at : (bytes : List ℕ) (s : Section) → ℕ → ℕ → Result (List (sets_of bytes s).Item × ℕ)
section_at bytes s high p = do
  c ← count bytes 0 high p
  entries bytes (sets_of bytes s).kinds 0 (p + 2) c

-- the count of the steps, of which at most `most` are allowed
unfoldable pub step_count_at : List ℕ → ℕ → ℕ → Result ℕ
step_count_at bytes most p = do
  k ← count bytes 1 2048 p
  _ ← need (leb k most) 19 p
  found k

-- the steps, and that nothing follows them
unfoldable pub steps_at : List ℕ → ℕ → ℕ → Result (List Step)
steps_at bytes most p = do
  k ← step_count_at bytes most p
  ks ← items (step bytes) 12 (p + 2) k
  _ ← need (leb (length bytes) (p + 2 + 12 * k)) 3 (p + 2 + 12 * k)
  found ks

-- all of it from place p on, for n facts and m actions: the places after the action sets and after the state sets
unfoldable pub rest_at : List ℕ → Limits → ℕ → ℕ → ℕ → Result (ℕ × ℕ)
rest_at bytes l n m p = do
  es ← section_at bytes (ActionSets m) 256 p
  ss ← section_at bytes (StateSets n (number_at 2 bytes p) l.states) 512 es.1
  _ ← steps_at bytes l.steps ss.1
  found (es.1, ss.1)

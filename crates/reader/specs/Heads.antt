-- What the reading place finds at the start of an entry and of the task.
-- Assumes nothing.
use Rattle.std.specs.Prelude.{ℕ, ◌+◌, List}
use Rattle.reader.specs.declared.EntryHead.{EntryHead}
use Rattle.reader.specs.declared.TaskHead.{TaskHead}
use Rattle.file_numbers.specs.Numbers.{number_at}

-- the entry at place p: the length of its rest, and its kind
abbrev pub entry_head_at : List ℕ → ℕ → EntryHead
entry_head_at bytes p = record { len = number_at 2 bytes p; kind = number_at 1 bytes (p + 2) }

-- the task: its fields stand one after the other from place 5, the goal's mask `span` bytes after the initial state's, and `off` bytes
-- between it and the count of actions
abbrev pub task_head_at : List ℕ → ℕ → ℕ → TaskHead
task_head_at bytes span off = record {
  facts = number_at 1 bytes 5;
  init = number_at 8 bytes 6;
  goal = number_at 8 bytes (6 + span);
  actions = number_at 2 bytes (6 + span + 8 + off);
}

-- What a reply says of the judgements that a file lists (document 02, k).
-- Assumes nothing.
use Rattle.std.specs.Prelude.{◌≡◌, ℕ, zero, suc, ◌≤◌, ◌<◌, List, length, T}
use Rattle.task.specs.Reach.{Unsolvable, Dead}
use Rattle.meaning.specs.Result.{found}
use Rattle.meaning.specs.File.{File, step_at}
use Rattle.meaning.specs.Layout.{read_file}
use Rattle.meaning.specs.Sets.{in_set, states_within, actions_within}
use Rattle.meaning.specs.declared.Reply.{Reply}
use Rattle.meaning.specs.declared.Reply.TheVariants.{Accepted, Refused}

-- what a judgement says of the file's task and sets, by its kind. A set called dead meets no sequence from an initial state to a goal state
abbrev pub Judged : File → ℕ → ℕ → ℕ → Type 0
Judged f zero a b = Dead f.task (in_set f a)
Judged f (suc zero) a b = T (states_within f a b)
Judged f (suc (suc zero)) a b = T (actions_within f a b)
Judged f (suc (suc (suc k))) a b = Unsolvable f.task

-- the judgement of each step before step n is true
abbrev pub TrueBefore : File → ℕ → Type 0
TrueBefore f n = (k : ℕ) → k < n → Judged f (step_at f k).kind (step_at f k).left (step_at f k).right

-- of the file that the bytes are: every judgement is true; each before the step p is
abbrev pub AllTrue : List ℕ → Type 0
AllTrue bytes = (f : File) × (read_file bytes ≡ found f) × TrueBefore f (length f.steps)

abbrev pub TrueUpTo : List ℕ → ℕ → Type 0
TrueUpTo bytes p = (f : File) × (read_file bytes ≡ found f) × (p < length f.steps) × TrueBefore f p

-- where the file is accepted, or no step fails and only 12 is returned, every judgement is true; where a step fails, with 8 to 11, each
-- before it is. Another refusal says nothing of the steps.
abbrev pub JudgedBy : List ℕ → Reply → Type 0
JudgedBy bytes reply =
    (reply ≡ Accepted → AllTrue bytes)
    × ((p : ℕ) → reply ≡ Refused 12 p → AllTrue bytes)
    × ((r p : ℕ) → 8 ≤ r → r ≤ 11 → reply ≡ Refused r p → TrueUpTo bytes p)

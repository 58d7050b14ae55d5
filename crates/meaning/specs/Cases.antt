-- The sample file and the twelve proved cases of document 01, each a change of the sample; files with unknown facts, with facts that are
-- needed off, and with a table that was altered.
-- Assumes nothing.
use Rattle.std.specs.Prelude.{ℕ, ◌/◌, ◌%◌, Bool, List, [], ◌∷◌, ◌++◌, length}
use Rattle.task.specs.Stricter.{stricter}
use Rattle.meaning.specs.Result.{Result, found, ◌>>=◌}
use Rattle.meaning.specs.Layout.{read_task}
use Rattle.meaning.specs.File.{all, empty, init, goal, explicit, basic, complement, intersection, union, progression, regression}
use Rattle.meaning.specs.File.{File}
use Rattle.meaning.specs.declared.Reply.{Reply}
use Rattle.meaning.specs.declared.Reply.TheVariants.{Accepted, Refused}

-- a mask of small weight, in 8 bytes
unfoldable pub word : ℕ → List ℕ
word m = 0 ∷ 0 ∷ 0 ∷ 0 ∷ 0 ∷ 0 ∷ 0 ∷ m ∷ []

-- the length field, mended
unfoldable pub with_length : List ℕ → List ℕ
with_length rest = 0 ∷ 0 ∷ length rest / 256 ∷ length rest % 256 ∷ rest

-- the two events; event set 0, all
unfoldable pub event_bytes : List ℕ
event_bytes =
    0 ∷ 2 ∷ word 0 ++ word 1 ++ word 2 ++ word 0 ++ word 2 ++ word 1
    ++ 0 ∷ 1 ∷ 0 ∷ 1 ∷ 0 ∷ []

-- version, n and start as given; forbidden 3
unfoldable pub table_bytes : ℕ → ℕ → ℕ → List ℕ
table_bytes version n start = version ∷ n ∷ word start ++ word 3 ++ event_bytes

-- the seven state sets, set 3 as given and set 5 the union of two
unfoldable pub set_bytes : List ℕ → ℕ → ℕ → List ℕ
set_bytes three a b =
    0 ∷ 7 ∷ 0 ∷ 1 ∷ 0 ∷ 0 ∷ 1 ∷ 1 ∷ 0 ∷ 1 ∷ 2 ∷ three
    ++ 0 ∷ 5 ∷ 9 ∷ 0 ∷ 3 ∷ 0 ∷ 0 ∷ 0 ∷ 5 ∷ 8 ∷ 0 ∷ a ∷ 0 ∷ b ∷ 0 ∷ 5 ∷ 7 ∷ 0 ∷ 3 ∷ 0 ∷ 2 ∷ []

unfoldable pub step_bytes : ℕ → ℕ → ℕ → ℕ → ℕ → ℕ → ℕ → List ℕ
step_bytes rule kind a b p q r = rule ∷ kind ∷ 0 ∷ a ∷ 0 ∷ b ∷ 0 ∷ p ∷ 0 ∷ q ∷ 0 ∷ r ∷ []

unfoldable pub first_steps : List ℕ
first_steps =
    step_bytes 6 0 0 0 0 0 0  -- 0 ED 0
    ++ step_bytes 2 1 4 5 0 0 0  -- 1 B2 4<5
    ++ step_bytes 1 1 6 0 0 0 0  -- 2 B1 6<0
    ++ step_bytes 8 0 6 0 2 0 0  -- 3 SD 6 (2, 0)
    ++ step_bytes 9 0 3 0 1 0 3  -- 4 PG 3 (1, 0, 3)
    ++ step_bytes 1 1 1 3 0 0 0  -- 5 B1 1<3
    ++ step_bytes 8 0 1 0 5 4 0  -- 6 SD 1 (5, 4)

unfoldable pub all_steps : List ℕ
all_steps = 0 ∷ 8 ∷ first_steps ++ step_bytes 13 3 0 0 6 0 0  -- 7 CI (6)

unfoldable pub explicit012 : List ℕ
explicit012 = 0 ∷ 25 ∷ 3 ∷ word 0 ++ word 1 ++ word 2

unfoldable pub file_bytes : ℕ → ℕ → ℕ → List ℕ → ℕ → ℕ → List ℕ → List ℕ
file_bytes version n start three a b steps = with_length (table_bytes version n start ++ set_bytes three a b ++ steps)

unfoldable pub sample : List ℕ
sample = file_bytes 1 2 0 explicit012 3 0 all_steps

pub record Case : Type 0 where
  pub bytes : List ℕ
  pub reply : Reply

unfoldable pub cases : List Case
cases =
    record { bytes = sample; reply = Accepted }
    ∷ record { bytes = file_bytes 1 2 0 (0 ∷ 17 ∷ 3 ∷ word 0 ++ word 1) 3 0 all_steps; reply = Refused 11 1 }  -- explicit 0 1
    ∷ record { bytes = file_bytes 1 2 3 explicit012 3 0 all_steps; reply = Refused 11 5 }  -- start 3
    ∷ record { bytes = file_bytes 1 2 0 explicit012 0 3 all_steps; reply = Refused 9 4 }  -- set 5 = 0+3
    ∷ record { bytes = file_bytes 1 2 0 (0 ∷ 17 ∷ 4 ∷ word 0 ++ word 3) 3 0 all_steps; reply = Accepted }  -- set 3 Horn
    ∷ record { bytes = file_bytes 1 2 0 explicit012 3 0 (0 ∷ 7 ∷ first_steps); reply = Refused 12 6 }  -- last step dropped
    ∷ record { bytes = file_bytes 1 0 0 explicit012 3 0 all_steps; reply = Refused 4 5 }  -- n 0
    ∷ record { bytes = file_bytes 1 65 0 explicit012 3 0 all_steps; reply = Refused 4 5 }  -- n 65
    ∷ record { bytes = file_bytes 1 1 0 explicit012 3 0 all_steps; reply = Refused 5 14 }  -- n 1
    ∷ record { bytes = file_bytes 0 2 0 explicit012 3 0 all_steps; reply = Refused 2 4 }  -- version 0
    ∷ record { bytes = sample ++ 0 ∷ []; reply = Refused 1 0 }  -- one byte appended
    ∷ record { bytes = []; reply = Refused 1 0 }  -- empty file
    ∷ []

-- ---- document 02, d

-- the sample as version 2, with start, unknown and forbidden facts as given
unfoldable pub unknown_bytes : ℕ → ℕ → ℕ → List ℕ
unknown_bytes start unknown forbidden =
    with_length (2 ∷ 2 ∷ word start ++ word unknown ++ word forbidden ++ event_bytes ++ set_bytes explicit012 3 0 ++ all_steps)

-- a file over 13 facts, some of them unknown, with the sets 0 empty, 1 initial, 2 explicit, 3 = 1*2, 4 = 1[0], 5 = ~0, 6 = 2+5
unfoldable pub leave_file : ℕ → File
leave_file unknown = record {
  version = 2;
  task = record { facts = 13; init = 0; unknown = unknown; goal = 0; off = 0; actions = [] };
  action_sets = all ∷ [];
  state_sets =
      basic empty ∷ basic init ∷ basic (explicit []) ∷ intersection 1 2 ∷ progression 1 0 ∷ complement 0 ∷ union 2 5 ∷ [];
  steps = [];
}

-- ---- document 02, j

-- the sample's table as version 3, with start, unknown facts and the two forbidden masks as given; its events clear nothing, the first sets
-- fact 0, the second fact 1, and what each needs off is given
unfoldable pub off_table : ℕ → ℕ → ℕ → ℕ → ℕ → ℕ → List ℕ
off_table start unknown forbidden off first second =
    3 ∷ 2 ∷ word start ++ word unknown ++ word forbidden ++ word off
    ++ 0 ∷ 2 ∷ word 0 ++ word 1 ++ word 0 ++ word first ++ word 0 ++ word 2 ++ word 0 ++ word second

-- with the sample's sets, set 3 and the steps as given
unfoldable pub off_bytes : List ℕ → List ℕ → List ℕ → List ℕ
off_bytes table three steps = with_length (table ++ 0 ∷ 1 ∷ 0 ∷ 1 ∷ 0 ∷ set_bytes three 3 0 ++ steps)

-- kind 2 is dead, since it is within the empty set
unfoldable pub goal_steps : List ℕ
goal_steps =
    0 ∷ 4 ∷ step_bytes 6 0 0 0 0 0 0  -- 0 ED 0
    ++ step_bytes 1 1 2 0 0 0 0  -- 1 B1 2<0
    ++ step_bytes 8 0 2 0 1 0 0  -- 2 SD 2 (1, 0)
    ++ step_bytes 14 3 0 0 2 0 0  -- 3 CG (2)

-- a file over 1 fact that is forbidden both on and off, with an action that adds it where it is off, and the sets 0 empty, 1 forbidden,
-- 2 explicit with the fact on, 3 = 1+1, 4 = 3+1, 5 = 0+0, 6 = 5+0, 7 = [0]2
unfoldable pub off_file : File
off_file = record {
  version = 3;
  task = record {
    facts = 1;
    init = 0;
    unknown = 0;
    goal = 1;
    off = 1;
    actions = record { pre = 0; add = 1; del = 0; off = 1 } ∷ [];
  };
  action_sets = all ∷ [];
  state_sets =
      basic empty ∷ basic goal ∷ basic (explicit (1 ∷ [])) ∷ union 1 1 ∷ union 3 1 ∷ union 0 0 ∷ union 5 0 ∷ regression 2 0 ∷ [];
  steps = [];
}

-- ---- document 02, k

-- a table over 2 facts, with the start 0, a forbidden mask and so many events: `adding` sets fact 1, `deleting` clears it
unfoldable pub plain_table : ℕ → ℕ → List ℕ → List ℕ
plain_table forbidden count events = 1 ∷ 2 ∷ word 0 ++ word forbidden ++ 0 ∷ count ∷ events

unfoldable pub adding : List ℕ
adding = word 0 ++ word 2 ++ word 0

unfoldable pub deleting : List ℕ
deleting = word 0 ++ word 0 ++ word 2

-- the same with forbidden 1 as version 3, with unknown facts as given: `deleting`, which needs fact 1 on now, then `adding` twice, which
-- needs fact 0 off, and the second time fact 1 off as well
unfoldable pub off_version : ℕ → List ℕ
off_version unknown =
    3 ∷ 2 ∷ word 0 ++ word unknown ++ word 1 ++ word 0 ++ 0 ∷ 3 ∷ word 2 ++ word 0 ++ word 2 ++ word 0
    ++ word 0 ++ word 2 ++ word 0 ++ word 1 ++ word 0 ++ word 2 ++ word 0 ++ word 3

-- event sets: all; all, and the list of 0 and 1
unfoldable pub all_events : List ℕ
all_events = 0 ∷ 1 ∷ 0 ∷ 1 ∷ 0 ∷ []

unfoldable pub listed_events : List ℕ
listed_events = 0 ∷ 2 ∷ 0 ∷ 1 ∷ 0 ∷ 0 ∷ 5 ∷ 1 ∷ 0 ∷ 0 ∷ 0 ∷ 1 ∷ []

-- a certificate that goes backwards from kind 2, with the sets 0 empty, 1 initial, 2 forbidden, 3 = [0]2, 4 = 2+0, 5 = ~2
unfoldable pub back_bytes : List ℕ → List ℕ → List ℕ
back_bytes table eventSets =
    with_length (table ++ eventSets
    ++ 0 ∷ 6 ∷ 0 ∷ 1 ∷ 0 ∷ 0 ∷ 1 ∷ 1 ∷ 0 ∷ 1 ∷ 2 ∷ 0 ∷ 5 ∷ 10 ∷ 0 ∷ 2 ∷ 0 ∷ 0 ∷ 0 ∷ 5 ∷ 8 ∷ 0 ∷ 2 ∷ 0 ∷ 0 ∷ 0 ∷ 3 ∷ 6 ∷ 0 ∷ 2
    ∷ 0 ∷ 5 ∷ step_bytes 6 0 0 0 0 0 0  -- 0 ED 0
    ++ step_bytes 3 1 3 4 0 0 0  -- 1 B3 3<4
    ++ step_bytes 1 1 1 5 0 0 0  -- 2 B1 1<5
    ++ step_bytes 12 0 2 0 1 0 2  -- 3 RI 2 (1, 0, 2)
    ++ step_bytes 14 3 0 0 3 0 0)  -- 4 CG (3)

-- whether the first table is stricter than the second
unfoldable pub stricter_table : List ℕ → List ℕ → Result Bool
stricter_table table other = do
  t ← read_task (with_length table)
  u ← read_task (with_length other)
  found (stricter t.0 u.0)

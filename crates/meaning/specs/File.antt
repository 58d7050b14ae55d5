-- What a file holds.
-- Assumes nothing.
use Rattle.std.specs.Prelude.{ℕ, List, [], get_or}
use Rattle.task.specs.Task.{Task}
use Rattle.meaning.specs.declared.Clause.{Clause}

-- kinds 0 to 2. Document 01 calls an action set an event set
pub data ActionSet : Type 0 where
  all : ActionSet
  listed : List ℕ → ActionSet
  either : ℕ → ℕ → ActionSet

-- kinds 0 to 5: the empty set, the initial states, the forbidden states, listed states, and two sorts of clauses
pub data Basic : Type 0 where
  empty init goal : Basic
  explicit : List ℕ → Basic
  horn two_cnf : List Clause → Basic

-- kinds 0 to 10; a number names an entry. Progression and regression name a state set, then an action set
pub data StateSet : Type 0 where
  basic : Basic → StateSet
  complement : ℕ → StateSet
  intersection union progression regression : ℕ → ℕ → StateSet

-- a judgement is its kind and two entry numbers; the premises are three step numbers
pub record Step : Type 0 where
  pub rule : ℕ
  pub kind : ℕ
  pub left : ℕ
  pub right : ℕ
  pub premises : List ℕ

pub record File : Type 0 where
  pub version : ℕ
  pub task : Task
  pub action_sets : List ActionSet
  pub state_sets : List StateSet
  pub steps : List Step

-- the entry or step with a number; the other value stands where the number names none
unfoldable pub action_set_at : File → ℕ → ActionSet
action_set_at f a = get_or f.action_sets a all

unfoldable pub state_set_at : File → ℕ → StateSet
state_set_at f e = get_or f.state_sets e (basic empty)

unfoldable pub step_at : File → ℕ → Step
step_at f k = get_or f.steps k (record { rule = 0; kind = 0; left = 0; right = 0; premises = [] })

-- the kinds' numbers
unfoldable pub action_kind : ActionSet → ℕ
action_kind all = 0
action_kind (listed is) = 1
action_kind (either a b) = 2

unfoldable pub basic_kind : Basic → ℕ
basic_kind empty = 0
basic_kind init = 1
basic_kind goal = 2
basic_kind (explicit ss) = 3
basic_kind (horn cs) = 4
basic_kind (two_cnf cs) = 5

unfoldable pub state_kind : StateSet → ℕ
state_kind (basic b) = basic_kind b
state_kind (complement a) = 6
state_kind (intersection a b) = 7
state_kind (union a b) = 8
state_kind (progression a e) = 9
state_kind (regression a e) = 10

-- an entry's first and second reference, and 0 where it has none
unfoldable pub first : StateSet → ℕ
first (basic b) = 0
first (complement a) = a
first (intersection a b) = a
first (union a b) = a
first (progression a e) = a
first (regression a e) = a

unfoldable pub second : StateSet → ℕ
second (basic b) = 0
second (complement a) = 0
second (intersection a b) = b
second (union a b) = b
second (progression a e) = e
second (regression a e) = e

unfoldable pub first_action : ActionSet → ℕ
first_action all = 0
first_action (listed is) = 0
first_action (either a b) = a

unfoldable pub second_action : ActionSet → ℕ
second_action all = 0
second_action (listed is) = 0
second_action (either a b) = b

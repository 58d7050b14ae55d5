-- The bytes of a file, and which files the format can hold.
-- Assumes nothing.
use Rattle.std.specs.Prelude.{ℕ, suc, ◌+◌, ◌^◌, ◌≤◌, ◌<◌, ◌≡◌, ◌⊎◌, Bool, true, false, List, [], ◌∷◌, ◌++◌, length, T, eqb}
use Rattle.std.specs.Int.Bits.{bit_and}
use Rattle.task.specs.Task.{Task}
use Rattle.task.specs.declared.Action.{Action}
use Rattle.meaning.specs.declared.Clause.{Clause}
use Rattle.meaning.specs.Result.{found}
use Rattle.meaning.specs.Bytes.{bytes_of}
use Rattle.meaning.specs.File.{ActionSet, all, listed, either, Basic, empty, init, goal, explicit, horn, two_cnf, StateSet, basic, complement, intersection, union, progression, regression, Step, File, action_kind, state_kind}
use Rattle.meaning.specs.declared.Limits.{Limits}
use Rattle.meaning.specs.Limits.{full}
use Rattle.meaning.specs.Layout.{horn_rule, two_cnf_rule, read_task}

-- ---- the bytes

-- the bytes of each item, one after the other
unfoldable pub each : {A : Type 0} → (A → List ℕ) → List A → List ℕ
each write [] = []
each write (x ∷ xs) = write x ++ each write xs

-- a mask of facts that are off; versions 1 and 2 have no such field
unfoldable pub write_off : ℕ → ℕ → List ℕ
write_off v m = elim (eqb v 3) [ true ↦ bytes_of 8 m | false ↦ [] ]

unfoldable pub write_action : ℕ → Action → List ℕ
write_action v a = bytes_of 8 a.pre ++ bytes_of 8 a.add ++ bytes_of 8 a.del ++ write_off v a.off

unfoldable pub write_clause : Clause → List ℕ
write_clause c = bytes_of 8 c.positive ++ bytes_of 8 c.negative

-- an entry: the length of its rest, its kind, its body
unfoldable pub write_entry : ℕ → List ℕ → List ℕ
write_entry kind body = bytes_of 2 (suc (length body)) ++ kind ∷ body

unfoldable pub action_body : ActionSet → List ℕ
action_body all = []
action_body (listed is) = each (bytes_of 2) is
action_body (either a b) = bytes_of 2 a ++ bytes_of 2 b

unfoldable pub basic_body : Basic → List ℕ
basic_body empty = []
basic_body init = []
basic_body goal = []
basic_body (explicit ss) = each (bytes_of 8) ss
basic_body (horn cs) = each write_clause cs
basic_body (two_cnf cs) = each write_clause cs

unfoldable pub state_body : StateSet → List ℕ
state_body (basic b) = basic_body b
state_body (complement a) = bytes_of 2 a
state_body (intersection a b) = bytes_of 2 a ++ bytes_of 2 b
state_body (union a b) = bytes_of 2 a ++ bytes_of 2 b
state_body (progression a e) = bytes_of 2 a ++ bytes_of 2 e
state_body (regression a e) = bytes_of 2 a ++ bytes_of 2 e

unfoldable pub write_action_set : ActionSet → List ℕ
write_action_set a = write_entry (action_kind a) (action_body a)

unfoldable pub write_state_set : StateSet → List ℕ
write_state_set x = write_entry (state_kind x) (state_body x)

unfoldable pub write_step : Step → List ℕ
write_step s = s.rule ∷ s.kind ∷ bytes_of 2 s.left ++ bytes_of 2 s.right ++ each (bytes_of 2) s.premises

-- a count, and the items
unfoldable pub counted : {A : Type 0} → (A → List ℕ) → List A → List ℕ
counted write xs = bytes_of 2 (length xs) ++ each write xs

-- the unknown facts; version 1 has no such field
unfoldable pub write_unknown : ℕ → Task → List ℕ
write_unknown v t = elim (eqb v 1) [ true ↦ [] | false ↦ bytes_of 8 t.unknown ]

-- the fields from the version up to and with the actions
unfoldable pub write_task : ℕ → Task → List ℕ
write_task v t =
    v ∷ t.facts ∷ bytes_of 8 t.init ++ write_unknown v t ++ bytes_of 8 t.goal ++ write_off v t.off
    ++ counted (write_action v) t.actions

-- the fields after them: the certificate
unfoldable pub write_certificate : List ActionSet → List StateSet → List Step → List ℕ
write_certificate es ss ks = counted write_action_set es ++ counted write_state_set ss ++ counted write_step ks

-- a table's bytes and a certificate's as one file, with the right length
unfoldable pub file_of : List ℕ → List ℕ → List ℕ
file_of table certificate = bytes_of 4 (length (table ++ certificate)) ++ (table ++ certificate)

unfoldable pub write_file : File → List ℕ
write_file f = file_of (write_task f.version f.task) (write_certificate f.action_sets f.state_sets f.steps)

-- ---- the files that the format can hold

-- each item of the list, the first of them number i, has the property
abbrev pub AllFrom : {A : Type 0} → (ℕ → A → Type 0) → ℕ → List A → Type 0
AllFrom P i [] = Unit {0}
AllFrom P i (x ∷ xs) = P i x × AllFrom P (suc i) xs

abbrev pub All : {A : Type 0} → (A → Type 0) → List A → Type 0
All P xs = AllFrom (λ i. P) 0 xs

-- strictly ascending numbers, none below `low`
abbrev pub Ascending : ℕ → List ℕ → Type 0
Ascending low [] = Unit {0}
Ascending low (x ∷ xs) = (low ≤ x) × Ascending (suc x) xs

-- masks over n facts
pub record FitsAction (n : ℕ) (a : Action) : Type 0 where
  pub pre : a.pre < 2 ^ n
  pub add : a.add < 2 ^ n
  pub del : a.del < 2 ^ n
  pub off : a.off < 2 ^ n

pub record FitsTask (t : Task) : Type 0 where
  pub some_facts : 1 ≤ t.facts
  pub few_facts : t.facts ≤ 64
  pub init : t.init < 2 ^ t.facts
  pub unknown : t.unknown < 2 ^ t.facts
  pub apart : bit_and t.init t.unknown ≡ 0
  pub goal : t.goal < 2 ^ t.facts
  pub off : t.off < 2 ^ t.facts
  pub few_actions : length t.actions ≤ 256
  pub actions : All (FitsAction t.facts) t.actions

-- no fact is needed off
pub record NoneOff (t : Task) : Type 0 where
  pub goal : t.off ≡ 0
  pub actions : All (λ a. a.off ≡ 0) t.actions

-- version 1 has no unknown facts, and in versions 1 and 2 no fact is needed off
abbrev pub FitsVersion : ℕ → Task → Type 0
FitsVersion v t = ((v ≡ 1) × (t.unknown ≡ 0) × NoneOff t) ⊎ ((v ≡ 2) × NoneOff t) ⊎ (v ≡ 3)

-- entry i of a file with m actions
abbrev pub FitsActionSet : ℕ → ℕ → ActionSet → Type 0
FitsActionSet m i all = Unit {0}
FitsActionSet m i (listed is) = (length is ≤ 256) × Ascending 0 is × All (λ j. j < m) is
FitsActionSet m i (either a b) = (a < i) × (b < i)

-- clauses over n facts, under the kind's rule
abbrev pub FitsClauses : ℕ → (ℕ → ℕ → Bool) → List Clause → Type 0
FitsClauses n rule cs =
    (length cs ≤ 256)
    × All (λ c. (c.positive < 2 ^ n) × (c.negative < 2 ^ n) × T (rule c.positive c.negative)) cs

abbrev pub FitsBasic : ℕ → Basic → Type 0
FitsBasic n empty = Unit {0}
FitsBasic n init = Unit {0}
FitsBasic n goal = Unit {0}
FitsBasic n (explicit ss) = (length ss ≤ full.states) × All (λ s. s < 2 ^ n) ss
FitsBasic n (horn cs) = FitsClauses n horn_rule cs
FitsBasic n (two_cnf cs) = FitsClauses n two_cnf_rule cs

-- entry i of a file with n facts and m action sets
abbrev pub FitsStateSet : ℕ → ℕ → ℕ → StateSet → Type 0
FitsStateSet n m i (basic b) = FitsBasic n b
FitsStateSet n m i (complement a) = a < i
FitsStateSet n m i (intersection a b) = (a < i) × (b < i)
FitsStateSet n m i (union a b) = (a < i) × (b < i)
FitsStateSet n m i (progression a e) = (a < i) × (e < m)
FitsStateSet n m i (regression a e) = (a < i) × (e < m)

pub record FitsStep (s : Step) : Type 0 where
  pub rule : s.rule < 256
  pub kind : s.kind < 256
  pub left : s.left < 65536
  pub right : s.right < 65536
  pub three : length s.premises ≡ 3
  pub premises : All (λ p. p < 65536) s.premises

-- what follows the task
pub record FitsCertificate (t : Task) (es : List ActionSet) (ss : List StateSet) (ks : List Step) : Type 0 where
  pub few_action_sets : length es ≤ 256
  pub action_sets_hold : AllFrom (FitsActionSet (length t.actions)) 0 es
  pub few_state_sets : length ss ≤ 512
  pub state_sets_hold : AllFrom (FitsStateSet t.facts (length es)) 0 ss
  pub some_steps : 1 ≤ length ks
  pub few_steps : length ks ≤ full.steps
  pub steps : All FitsStep ks

-- how many states a set lists
unfoldable pub listed_states : StateSet → ℕ
listed_states (basic empty) = 0
listed_states (basic init) = 0
listed_states (basic goal) = 0
listed_states (basic (explicit ss)) = length ss
listed_states (basic (horn cs)) = 0
listed_states (basic (two_cnf cs)) = 0
listed_states (complement a) = 0
listed_states (intersection a b) = 0
listed_states (union a b) = 0
listed_states (progression a e) = 0
listed_states (regression a e) = 0

-- state sets and steps that a check's limits allow
pub record Allowed (l : Limits) (ss : List StateSet) (ks : List Step) : Type 0 where
  pub states : All (λ x. listed_states x ≤ l.states) ss
  pub steps : length ks ≤ l.steps

-- everything within the format's and a check's limits but the length of the whole
pub record Fits (l : Limits) (f : File) : Type 0 where
  pub version : FitsVersion f.version f.task
  pub task : FitsTask f.task
  pub certificate : FitsCertificate f.task f.action_sets f.state_sets f.steps
  pub allowed : Allowed l f.state_sets f.steps

-- the length of the whole
abbrev pub FitsSize : Limits → ℕ → Type 0
FitsSize l n = (n ≤ full.size) × (n ≤ l.size)

-- the bytes are those of a task, whole, in which 2 to 7 and 16 find no fault. Document 01: a lawful table
abbrev pub Lawful : List ℕ → Task → Type 0
Lawful table t = read_task (file_of table []) ≡ found (t, 4 + length table)

-- How a file is read, front to back, with replies 1 to 7 and 16 at the written places and in the written order, and 19 for a check's own
-- limits.
-- Assumes nothing.
use Rattle.std.specs.Prelude.{ℕ, zero, suc, ◌+◌, ◌-◌, ◌*◌, ◌/◌, ◌%◌, ◌^◌, Bool, true, false, ◌&&◌, List, [], ◌∷◌, length, leb, ltb, eqb}
use Rattle.std.proofs.Math.ListN.{get_elem?}
use Rattle.std.specs.Int.Bits.{bit_and}
use Rattle.task.specs.Facts.{ones_in}
use Rattle.task.specs.Task.{Task}
use Rattle.task.specs.declared.Action.{Action}
use Rattle.meaning.specs.declared.Clause.{Clause}
use Rattle.meaning.specs.Result.{Result, found, ◌>>=◌, need, known}
use Rattle.meaning.specs.Bytes.{number, inside}
use Rattle.meaning.specs.declared.Limits.{Limits}
use Rattle.meaning.specs.Limits.{full}
use Rattle.meaning.specs.File.{ActionSet, all, listed, either, Basic, empty, init, goal, explicit, horn, two_cnf, StateSet, basic, complement, intersection, union, progression, regression, Step, File}

-- ---- clauses

-- at most one positive fact
unfoldable pub horn_rule : ℕ → ℕ → Bool
horn_rule positive negative = leb (ones_in 64 positive) 1

-- at most two in the two masks together
unfoldable pub two_cnf_rule : ℕ → ℕ → Bool
two_cnf_rule positive negative = leb (ones_in 64 positive + ones_in 64 negative) 2

-- ---- items one after the other

-- k items, each of `size` bytes, from place p
unfoldable pub items : {A : Type 0} → (ℕ → Result A) → ℕ → ℕ → ℕ → Result (List A)
items read size p zero = found []
items read size p (suc k) = do
  x ← read p
  xs ← items read size (p + size) k
  found (x ∷ xs)

-- the same, of numbers that must ascend strictly: 7 at the first that is below `low`, one more than the number before it
unfoldable pub ascending : (ℕ → Result ℕ) → ℕ → ℕ → ℕ → ℕ → Result (List ℕ)
ascending read size low p zero = found []
ascending read size low p (suc k) = do
  x ← read p
  _ ← need (leb low x) 7 p
  xs ← ascending read size (suc x) (p + size) k
  found (x ∷ xs)

-- ---- places that depend on the version

-- the goal's mask, which stands behind the start or behind the unknown facts
unfoldable pub goal_at : ℕ → ℕ
goal_at v = elim (eqb v 1) [ true ↦ 14 | false ↦ 22 ]

-- how many bytes a mask of facts that are off takes: version 3 has such masks, versions 1 and 2 do not
unfoldable pub off_size : ℕ → ℕ
off_size v = elim (eqb v 3) [ true ↦ 8 | false ↦ 0 ]

-- the count of the actions, behind the goal's masks
unfoldable pub action_count_at : ℕ → ℕ
action_count_at v = goal_at v + 8 + off_size v

-- how long an action is
unfoldable pub action_size : ℕ → ℕ
action_size v = 24 + off_size v

-- the place after m actions
unfoldable pub after_actions : ℕ → ℕ → ℕ
after_actions v m = action_count_at v + 2 + action_size v * m

-- ---- fields

module _ (bytes : List ℕ) where
  -- a number of k bytes
  unfoldable pub field : ℕ → ℕ → Result ℕ
  field k p = do
    _ ← need (inside k bytes p) 3 p
    found (number k bytes p)

  -- a count from `low` to `high`
  unfoldable pub count : ℕ → ℕ → ℕ → Result ℕ
  count low high p = do
    c ← field 2 p
    _ ← need (leb low c && leb c high) 4 p
    found c

  -- a mask or state over n facts
  unfoldable pub mask : ℕ → ℕ → Result ℕ
  mask n p = do
    m ← field 8 p
    _ ← need (ltb m (2 ^ n)) 5 p
    found m

  -- an action or entry number below `bound`
  unfoldable pub reference : ℕ → ℕ → Result ℕ
  reference bound p = do
    r ← field 2 p
    _ ← need (ltb r bound) 6 p
    found r

  -- a mask of facts that are off; in versions 1 and 2 there are none
  unfoldable pub off_mask : ℕ → ℕ → ℕ → Result ℕ
  off_mask v n p = elim (eqb v 3) [ true ↦ mask n p | false ↦ found 0 ]

  -- document 01: needs, sets, clears; document 02, j: needs-off
  unfoldable pub action : ℕ → ℕ → ℕ → Result Action
  action v n p = do
    a ← mask n p
    b ← mask n (p + 8)
    c ← mask n (p + 16)
    d ← off_mask v n (p + 24)
    found (record { pre = a; add = b; del = c; off = d })

  -- a clause whose masks pass the kind's rule
  unfoldable pub clause : ℕ → (ℕ → ℕ → Bool) → ℕ → Result Clause
  clause n rule p = do
    a ← mask n p
    b ← mask n (p + 8)
    _ ← need (rule a b) 7 p
    found (record { positive = a; negative = b })

  -- a step is one item: 3 at its first byte
  unfoldable pub step : ℕ → Result Step
  step p = do
    _ ← need (inside 12 bytes p) 3 p
    found (record {
      rule = number 1 bytes p;
      kind = number 1 bytes (p + 1);
      left = number 2 bytes (p + 2);
      right = number 2 bytes (p + 4);
      premises = number 2 bytes (p + 6) ∷ number 2 bytes (p + 8) ∷ number 2 bytes (p + 10) ∷ [];
    })

-- ---- entries

-- a kind of entry: which lengths of a body fit it, which of these a check's limits allow, and what a body at a place, of that length, holds
pub record Kind (A : Type 0) : Type 0 where
  pub fits : ℕ → Bool
  pub allowed : ℕ → Bool
  pub body : ℕ → ℕ → Result A

-- up to `most` items of `size` bytes each
unfoldable pub up_to : ℕ → ℕ → ℕ → Bool
up_to size most len = eqb (len % size) 0 && leb (len / size) most

-- no body
unfoldable pub plain : {A : Type 0} → A → Kind A
plain a = record { fits = λ len. eqb len 0; allowed = λ len. true; body = λ p len. found a }

module _ (bytes : List ℕ) where
  -- one reference, or two, each below its bound
  unfoldable pub one : {A : Type 0} → (ℕ → A) → ℕ → Kind A
  one make bound = record {
    fits = λ len. eqb len 2;
    allowed = λ len. true;
    body = λ p len. do
      a ← reference bytes bound p
      found (make a);
  }

  unfoldable pub two : {A : Type 0} → (ℕ → ℕ → A) → ℕ → ℕ → Kind A
  two make bound bound' = record {
    fits = λ len. eqb len 4;
    allowed = λ len. true;
    body = λ p len. do
      a ← reference bytes bound p
      b ← reference bytes bound' (p + 2)
      found (make a b);
  }

  -- clauses of 16 bytes each, under the kind's rule
  unfoldable pub clauses : ℕ → (ℕ → ℕ → Bool) → (List Clause → Basic) → Kind StateSet
  clauses n rule make = record {
    fits = up_to 16 256;
    allowed = λ len. true;
    body = λ p len. do
      cs ← items (clause bytes n rule) 16 p (len / 16)
      found (basic (make cs));
  }

  -- the kinds of action set, 0 to 2, for entry i of a file with m actions
  unfoldable pub action_kinds : ℕ → ℕ → List (Kind ActionSet)
  action_kinds m i =
      plain all
      ∷ record {
        fits = up_to 2 256;
        allowed = λ len. true;
        body = λ p len. do
          is ← ascending (reference bytes m) 2 0 p (len / 2)
          found (listed is);
      }
      ∷ two either i i
      ∷ []

  -- the kinds of state set, 0 to 10, for entry i of a file with n facts and m action sets, where `most` listed states are allowed
  unfoldable pub state_kinds : ℕ → ℕ → ℕ → ℕ → List (Kind StateSet)
  state_kinds most n m i =
      plain (basic empty)
      ∷ plain (basic init)
      ∷ plain (basic goal)
      ∷ record {
        fits = up_to 8 full.states;
        allowed = up_to 8 most;
        body = λ p len. do
          ss ← items (mask bytes n) 8 p (len / 8)
          found (basic (explicit ss));
      }
      ∷ clauses n horn_rule horn
      ∷ clauses n two_cnf_rule two_cnf
      ∷ one complement i
      ∷ two intersection i i
      ∷ two union i i
      ∷ two progression i m
      ∷ two regression i m
      ∷ []

  -- the entry at place p: whether it ends within the file, its kind, its length against the kind and against the limits, its body
  unfoldable pub entry : {A : Type 0} → List (Kind A) → ℕ → Result A
  entry kinds p = do
    len ← field bytes 2 p
    _ ← need (inside (2 + len) bytes p) 3 p
    _ ← need (leb 1 len) 4 p
    k ← known (get_elem? kinds (number 1 bytes (p + 2))) 4 (p + 2)
    _ ← need (k.fits (len - 1)) 4 p
    _ ← need (k.allowed (len - 1)) 19 p
    k.body (p + 3) (len - 1)

  -- k entries from place p, the first of them entry i; and the place after them
  unfoldable pub entries : {A : Type 0} → (ℕ → List (Kind A)) → ℕ → ℕ → ℕ → Result (List A × ℕ)
  entries kinds i p zero = found ([], p)
  entries kinds i p (suc k) = do
    x ← entry (kinds i) p
    r ← entries kinds (suc i) (p + 2 + number 2 bytes p) k
    found (x ∷ r.0, r.1)

  -- ---- the task

  -- the facts that may be on or off at the start s, of n facts: 16 where one of them is on there; in version 1 there are none
  unfoldable pub unknown_mask : ℕ → ℕ → ℕ → Result ℕ
  unknown_mask v n s = elim (eqb v 1) [
    | true ↦ found 0
    | false ↦ do
      u ← mask bytes n 14
      _ ← need (eqb (bit_and s u) 0) 16 14
      found u
  ]

  -- the fields from the version up to and with the actions, and the place after them
  unfoldable pub read_task : Result (Task × ℕ)
  read_task = do
    v ← field bytes 1 4
    _ ← need (leb 1 v && leb v 3) 2 4
    n ← field bytes 1 5
    _ ← need (leb 1 n && leb n 64) 4 5
    s ← mask bytes n 6
    u ← unknown_mask v n s
    g ← mask bytes n (goal_at v)
    o ← off_mask bytes v n (goal_at v + 8)
    m ← count bytes 0 256 (action_count_at v)
    acts ← items (action bytes v n) (action_size v) (action_count_at v + 2) m
    found (record { facts = n; init = s; unknown = u; goal = g; off = o; actions = acts }, after_actions v m)

-- ---- the file

-- a file, by a check with limits of its own
unfoldable pub read_within : Limits → List ℕ → Result File
read_within l bytes = do
  _ ← need (leb 4 (length bytes) && leb (length bytes) full.size) 1 0
  _ ← need (eqb (number 4 bytes 0 + 4) (length bytes)) 1 0
  _ ← need (leb (length bytes) l.size) 19 0
  t ← read_task bytes
  ac ← count bytes 0 256 t.1
  es ← entries bytes (action_kinds bytes (length t.0.actions)) 0 (t.1 + 2) ac
  sc ← count bytes 0 512 es.1
  ss ← entries bytes (state_kinds bytes l.states t.0.facts ac) 0 (es.1 + 2) sc
  kc ← count bytes 1 full.steps ss.1
  _ ← need (leb kc l.steps) 19 ss.1
  ks ← items (step bytes) 12 (ss.1 + 2) kc
  _ ← need (leb (length bytes) (ss.1 + 2 + 12 * kc)) 3 (ss.1 + 2 + 12 * kc)
  found (record { version = number 1 bytes 4; task = t.0; action_sets = es.0; state_sets = ss.0; steps = ks })

-- by document 01's limits
unfoldable pub read_file : List ℕ → Result File
read_file bytes = read_within full bytes

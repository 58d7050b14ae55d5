-- Readings as the code answers them: a value is forgotten, a refusal keeps its number and place.
-- Assumes nothing.
use Rattle.std.specs.Prelude.{ℕ, zero, suc, ◌+◌, ◌/◌, Bool, true, false, List, eqb, Option, Some, None}
use Rattle.std.specs.declared.result.Result as code
use Rattle.std.specs.declared.result.Result.TheVariants.{Ok, Err}
use Rattle.bodies.specs.declared.Form.{Form}
use Rattle.bodies.specs.declared.Form.TheVariants.{Bare, Numbers, States, Clauses, One, Two}
use Rattle.meaning.specs.declared.Fault.{Fault}
use Rattle.meaning.specs.Told.{told}
use Rattle.meaning.specs.Result.{Result, refuse, found, ◌>>=◌}
use Rattle.file_numbers.specs.ClauseRule.{clause_rule}
use Rattle.meaning.specs.Layout.{items, ascending, mask, reference, clause, up_to}

-- what the code says of a part of the file
abbrev pub Answer : Type 0
Answer = code.Result (Unit {0}) Fault

abbrev pub fault : {A : Type 0} → Result A → Answer
fault r = told (λ a. tt) r

-- the same of a part of the file, which starts at place d
abbrev pub fault_from : {A : Type 0} → ℕ → Result A → Answer
fault_from d (refuse r p) = Err (record { number = r; place = d + p })
fault_from d (found a) = Ok tt

-- the first of two answers that is a fault
abbrev pub first : Answer → Answer → Answer
first (Err e) next = Err e
first (Ok a) next = next

-- k items, each of `size` bytes, from place p, of which each says something: the first fault
abbrev pub each : (ℕ → Answer) → ℕ → ℕ → ℕ → Answer
each says size p zero = Ok tt
each says size p (suc k) = first (says p) (each says size (p + size) k)

-- ---- bodies by what they hold

-- which lengths fit
abbrev pub form_fits : Form → ℕ → Bool
form_fits Bare len = eqb len 0
form_fits (Numbers m) len = up_to 2 256 len
form_fits (States n most) len = up_to 8 4096 len
form_fits (Clauses n two) len = up_to 16 256 len
form_fits (One a) len = eqb len 2
form_fits (Two a b) len = eqb len 4

-- which of these a check's limits allow
abbrev pub form_allows : Form → ℕ → Bool
form_allows Bare len = true
form_allows (Numbers m) len = true
form_allows (States n most) len = up_to 8 most len
form_allows (Clauses n two) len = true
form_allows (One a) len = true
form_allows (Two a b) len = true

-- the same of a kind that may have no form: no length fits, and the limits say nothing
abbrev pub may_fit : Option Form → ℕ → Bool
may_fit None len = false
may_fit (Some form) len = form_fits form len

abbrev pub may_allow : Option Form → ℕ → Bool
may_allow None len = true
may_allow (Some form) len = form_allows form len

-- what a body at a place, of that length, says
abbrev pub form_body : List ℕ → Form → ℕ → ℕ → Result (Unit {0})
form_body bytes Bare p len = found tt
form_body bytes (Numbers m) p len = do
  _ ← ascending (reference bytes m) 2 0 p (len / 2)
  found tt
form_body bytes (States n most) p len = do
  _ ← items (mask bytes n) 8 p (len / 8)
  found tt
form_body bytes (Clauses n two) p len = do
  _ ← items (clause bytes n (clause_rule two)) 16 p (len / 16)
  found tt
form_body bytes (One a) p len = do
  _ ← reference bytes a p
  found tt
form_body bytes (Two a b) p len = do
  _ ← reference bytes a p
  _ ← reference bytes b (p + 2)
  found tt

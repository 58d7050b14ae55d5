-- What the code is given of a file: where the parts are, and an entry, an action or a step as a value, with the places of its items.
-- Assumes nothing.
use Rattle.std.specs.Prelude.{ℕ, zero, suc, ◌+◌, ◌-◌, ◌/◌, Bool, true, false, ◌&&◌, List, [], ◌∷◌, length, get_or, eqb}
use Rattle.task.specs.declared.Action.{Action}
use Rattle.task.specs.Inner.{ends_of}
use Rattle.certificate.specs.declared.Places.{Places}
use Rattle.certificate.specs.declared.Span.{Span}
use Rattle.certificate.specs.declared.Actions.{Actions}
use Rattle.certificate.specs.declared.ActionEntry.{ActionEntry}
use Rattle.certificate.specs.declared.ActionEntry.TheVariants.{All, Listed, Either}
use Rattle.certificate.specs.declared.BasicEntry.{BasicEntry}
use Rattle.certificate.specs.declared.BasicEntry.TheVariants.{Empty, Init, Goal, Explicit, Horn, TwoCnf}
use Rattle.certificate.specs.declared.StateEntry.{StateEntry}
use Rattle.certificate.specs.declared.StateEntry.TheVariants.{Basic, Complement, Intersection, Union, Progression, Regression}
use Rattle.certificate.specs.declared.Judgement.{Judgement}
use Rattle.certificate.specs.declared.Judgement.TheVariants.{Dead, Within, ActionsWithin, Unsolvable}
use Rattle.certificate.specs.declared.Premises.{Premises}
use Rattle.certificate.specs.declared.Step as code
use Rattle.std.specs.declared.result.Result as result
use Rattle.certificate.specs.declared.views.Head.{Head}
use Rattle.meaning.specs.declared.Fault.{Fault}
use Rattle.meaning.specs.Told.{told}
use Rattle.meaning.specs.File as file
use Rattle.meaning.specs.File.{ActionSet, all, listed, either, empty, init, goal, explicit, horn, two_cnf}
use Rattle.meaning.specs.File.{StateSet, basic, complement, intersection, union, progression, regression, Step, File, step_at}
use Rattle.meaning.specs.declared.Limits.{Limits}
use Rattle.meaning.specs.Layout.{action_count_at, action_size, after_actions, read_within}
use Rattle.file_numbers.specs.Numbers.{number_at}

-- the place after the entry at place p
unfoldable pub after_entry : List ℕ → ℕ → ℕ
after_entry bytes p = p + 2 + number_at 2 bytes p

-- the place of the k-th of the entries that start at place p
unfoldable pub entry_place : List ℕ → ℕ → ℕ → ℕ
entry_place bytes p zero = p
entry_place bytes p (suc k) = after_entry bytes (entry_place bytes p k)

-- the numbers of a file that was read, and the places of its entries and steps
unfoldable pub places_of : List ℕ → File → Places
places_of bytes f =
    let a : ℕ = after_actions f.version (length f.task.actions) + 2 in
    let s : ℕ = entry_place bytes a (length f.action_sets) + 2 in
    let k : ℕ = entry_place bytes s (length f.state_sets) + 2 in
    record {
      ends = ends_of f.task;
      actions = length f.task.actions;
      action_sets = length f.action_sets;
      state_sets = length f.state_sets;
      steps = length f.steps;
      action_sets_at = a;
      state_sets_at = s;
      steps_at = k;
    }

-- what the layout check says: where everything is, or the number and place of documents 01 and 02
unfoldable pub outline_of : Limits → List ℕ → result.Result Places Fault
outline_of l bytes = told (places_of bytes) (read_within l bytes)

-- ---- an entry as it stands at place p: its kind picks the case

-- the numbers of the entry: its kind, the place and the length of its body, and two references
unfoldable pub head_at : List ℕ → ℕ → Head
head_at bytes p = record {
  kind = number_at 1 bytes (p + 2);
  at = p + 3;
  len = number_at 2 bytes p - 1;
  first = number_at 2 bytes (p + 3);
  second = number_at 2 bytes (p + 5);
}

module _ (h : Head) where
  -- the body's items, of `size` bytes each
  unfoldable pub span_of : ℕ → Span
  span_of size = record { at = h.at; count = h.len / size }

  -- the state set and the action set with these numbers
  unfoldable pub state_table : List StateEntry
  state_table =
      Basic Empty ∷ Basic Init ∷ Basic Goal ∷ Basic (Explicit (span_of 8)) ∷ Basic (Horn (span_of 16)) ∷ Basic (TwoCnf (span_of 16))
      ∷ Complement h.first ∷ Intersection h.first h.second ∷ Union h.first h.second
      ∷ Progression h.first h.second ∷ Regression h.first h.second ∷ []

  unfoldable pub state_of : StateEntry
  state_of = get_or state_table h.kind (Basic Empty)

  unfoldable pub action_table : List ActionEntry
  action_table = All ∷ Listed (span_of 2) ∷ Either h.first h.second ∷ []

  unfoldable pub actions_of : ActionEntry
  actions_of = get_or action_table h.kind All

unfoldable pub state_entry_at : List ℕ → ℕ → StateEntry
state_entry_at bytes p = state_of (head_at bytes p)

unfoldable pub action_entry_at : List ℕ → ℕ → ActionEntry
action_entry_at bytes p = actions_of (head_at bytes p)

-- ---- the same of an entry of a file that was read, which stands at place p

unfoldable pub span : ℕ → {A : Type 0} → List A → Span
span p xs = record { at = p + 3; count = length xs }

unfoldable pub view_of_basic : ℕ → file.Basic → BasicEntry
view_of_basic p empty = Empty
view_of_basic p init = Init
view_of_basic p goal = Goal
view_of_basic p (explicit ss) = Explicit (span p ss)
view_of_basic p (horn cs) = Horn (span p cs)
view_of_basic p (two_cnf cs) = TwoCnf (span p cs)

unfoldable pub view_of : ℕ → StateSet → StateEntry
view_of p (basic b) = Basic (view_of_basic p b)
view_of p (complement a) = Complement a
view_of p (intersection a b) = Intersection a b
view_of p (union a b) = Union a b
view_of p (progression a e) = Progression a e
view_of p (regression a e) = Regression a e

unfoldable pub view_of_actions : ℕ → ActionSet → ActionEntry
view_of_actions p all = All
view_of_actions p (listed is) = Listed (span p is)
view_of_actions p (either a b) = Either a b

-- ---- actions and steps

-- where the actions of a file that was read stand, how long each is, and how many there are
unfoldable pub actions_in : File → Actions
actions_in f = record { at = action_count_at f.version + 2; size = action_size f.version; count = length f.task.actions }

-- what the action of `size` bytes at place p needs off: a fourth mask has it, and where there is none no fact
unfoldable pub off_in : List ℕ → ℕ → ℕ → ℕ
off_in bytes size p = elim (eqb size 32) [ true ↦ number_at 8 bytes (p + 24) | false ↦ 0 ]

-- the action of `size` bytes at place p
unfoldable pub action_in : List ℕ → ℕ → ℕ → Action
action_in bytes size p = record {
  pre = number_at 8 bytes p;
  add = number_at 8 bytes (p + 8);
  del = number_at 8 bytes (p + 16);
  off = off_in bytes size p;
}

-- the step at place p, put together from the numbers that stand there
unfoldable pub step_read : List ℕ → ℕ → Step
step_read bytes p = record {
  rule = number_at 1 bytes p;
  kind = number_at 1 bytes (p + 1);
  left = number_at 2 bytes (p + 2);
  right = number_at 2 bytes (p + 4);
  premises = number_at 2 bytes (p + 6) ∷ number_at 2 bytes (p + 8) ∷ number_at 2 bytes (p + 10) ∷ [];
}

-- a judgement of kind k about entries a and b
unfoldable pub judgement_of : ℕ → ℕ → ℕ → Judgement
judgement_of k a b = get_or (Dead a ∷ Within a b ∷ ActionsWithin a b ∷ []) k Unsolvable

-- the kind is one of 0 to 3, and the places that it does not use are zero
unfoldable pub clean_of : ℕ → ℕ → ℕ → Bool
clean_of k a b = get_or (eqb b 0 ∷ true ∷ true ∷ (eqb a 0 && eqb b 0) ∷ []) k false

-- three premises as the code holds them, and as a list
abbrev pub premises_in : List ℕ → Premises
premises_in ps = record { first = get_or ps 0 0; second = get_or ps 1 0; third = get_or ps 2 0 }

abbrev pub premise_list : Premises → List ℕ
premise_list p = p.first ∷ p.second ∷ p.third ∷ []

-- a step of a file that was read, as the code holds it
unfoldable pub step_of : Step → code.Step
step_of s = record {
  rule = s.rule;
  judgement = judgement_of s.kind s.left s.right;
  clean = clean_of s.kind s.left s.right;
  premises = premises_in s.premises;
}

-- what step k says
unfoldable pub judgement_at : File → ℕ → Judgement
judgement_at f k = judgement_of (step_at f k).kind (step_at f k).left (step_at f k).right

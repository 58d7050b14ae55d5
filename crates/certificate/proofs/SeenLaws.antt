-- From a view back to what a file that is read holds: the entry that the code sees in a case is the file's entry of that kind, and its
-- span holds the items.
-- Assumes nothing.
use mathlib.Core.Path.{◌≡◌, refl, sym, ◌∙◌, subst}
use Prim.Native.Nat.{ℕ}
use mathlib.Core.List.{List}
use lib.ListN.{length}
use Rattle.meaning.specs.declared.Clause.{Clause}
use Rattle.certificate.specs.declared.Span.{Span}
use Rattle.certificate.specs.declared.ActionEntry.{ActionEntry}
use Rattle.certificate.specs.declared.ActionEntry.TheVariants.{All, Listed, Either}
use Rattle.certificate.specs.declared.BasicEntry.{BasicEntry}
use Rattle.certificate.specs.declared.BasicEntry.TheVariants.{Empty, Init, Goal, Explicit, Horn, TwoCnf}
use Rattle.certificate.specs.declared.StateEntry.{StateEntry}
use Rattle.certificate.specs.declared.StateEntry.TheVariants.{Basic, Complement, Intersection, Union, Progression, Regression}
use Rattle.meaning.specs.File as file
use Rattle.meaning.specs.File.{ActionSet, all, listed, either, empty, init, goal, explicit, horn, two_cnf, StateSet, basic, complement}
use Rattle.meaning.specs.File.{intersection, union, progression, regression}
use Rattle.certificate.specs.Views.{action_entry_at, span, view_of_basic, view_of, view_of_actions}
use Rattle.file_numbers.specs.Numbers.{number_at, clause_at}
use Rattle.certificate.proofs.ItemLaws.{Items}
use Rattle.certificate.proofs.EntryLaws.{BasicItems, StateItems, ActionItems, ActionSetStands}

-- the span counts the items, and they stand in it
pub record Holds {A : Type 0} (bytes : List ℕ) (size : ℕ) (at : ℕ → A) (s : Span) (xs : List A) : Type 0 where
  pub count : s.count ≡ length xs
  pub items : Items bytes size at s.at xs

module _ (bytes : List ℕ) where
  -- the basic set x is what the view says; the state set x is
  abbrev pub BasicSeen : BasicEntry → file.Basic → Type 0
  BasicSeen Empty x = x ≡ empty
  BasicSeen Init x = x ≡ init
  BasicSeen Goal x = x ≡ goal
  BasicSeen (Explicit s) x = (ss : List ℕ) × (x ≡ explicit ss) × Holds bytes 8 (number_at 8 bytes) s ss
  BasicSeen (Horn s) x = (cs : List Clause) × (x ≡ horn cs) × Holds bytes 16 (clause_at bytes) s cs
  BasicSeen (TwoCnf s) x = (cs : List Clause) × (x ≡ two_cnf cs) × Holds bytes 16 (clause_at bytes) s cs

  abbrev pub StateSeen : StateEntry → StateSet → Type 0
  StateSeen (Basic v) x = (b : file.Basic) × (x ≡ basic b) × BasicSeen v b
  StateSeen (Complement a) x = x ≡ complement a
  StateSeen (Intersection a b) x = x ≡ intersection a b
  StateSeen (Union a b) x = x ≡ union a b
  StateSeen (Progression a b) x = x ≡ progression a b
  StateSeen (Regression a b) x = x ≡ regression a b

  abbrev pub ActionsSeen : ActionEntry → ActionSet → Type 0
  ActionsSeen All x = x ≡ all
  ActionsSeen (Listed s) x = (is : List ℕ) × (x ≡ listed is) × Holds bytes 2 (number_at 2 bytes) s is
  ActionsSeen (Either a b) x = x ≡ either a b

  pub basic_seen : (p : ℕ) (b : file.Basic) → BasicItems bytes p b → BasicSeen (view_of_basic p b) b
  unfolding view_of_basic span
  basic_seen p empty h = refl
  basic_seen p init h = refl
  basic_seen p goal h = refl
  basic_seen p (explicit ss) h = (ss, refl, record { count = refl; items = h })
  basic_seen p (horn cs) h = (cs, refl, record { count = refl; items = h })
  basic_seen p (two_cnf cs) h = (cs, refl, record { count = refl; items = h })

  pub view_seen : (p : ℕ) (x : StateSet) → StateItems bytes p x → StateSeen (view_of p x) x
  unfolding view_of
  view_seen p (basic b) h = (b, refl, basic_seen p b h)
  view_seen p (complement a) h = refl
  view_seen p (intersection a b) h = refl
  view_seen p (union a b) h = refl
  view_seen p (progression a e) h = refl
  view_seen p (regression a e) h = refl

  actions_view_seen : (p : ℕ) (x : ActionSet) → ActionItems bytes p x → ActionsSeen (view_of_actions p x) x
  unfolding view_of_actions span
  actions_view_seen p all h = refl
  actions_view_seen p (listed is) h = (is, refl, record { count = refl; items = h })
  actions_view_seen p (either a b) h = refl

  pub actions_seen : (p : ℕ) (x : ActionSet) → ActionSetStands bytes p x → (v : ActionEntry) → v ≡ action_entry_at bytes p → ActionsSeen v x
  actions_seen p x s v e = subst (λ w. ActionsSeen w x) (sym (e ∙ s.view)) (actions_view_seen p x s.items)

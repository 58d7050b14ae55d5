-- What an entry's view tells of the entry: its kind and what it names. A `let .. else` on one case leaves the others.
-- Assumes nothing.
use Prim.Native.Nat.{ℕ, ◌<◌}
use native.Mathlib.Omega.{arith}
use mathlib.Core.Path.{◌≡◌, refl, sym, ap, subst, ◌∙◌}
use mathlib.Core.Bool.{Bool, true, false, ◌&&◌}
use lib.Dec.{T, eqb}
use borrow.Author.Tests.{ne_eqb}
use Rattle.std.specs.Prelude.{Result, Ok, Err, is_ok}
use Rattle.certificate.specs.declared.StateEntry.{StateEntry}
use Rattle.certificate.specs.declared.StateEntry.TheVariants.{Basic, Complement, Intersection, Union, Progression, Regression}
use Rattle.certificate.specs.declared.BasicEntry.{BasicEntry}
use Rattle.certificate.specs.declared.BasicEntry.TheVariants.{Empty, Init, Goal, Explicit, Horn, TwoCnf}
use Rattle.certificate.specs.declared.StepFault.{StepFault}
use Rattle.certificate.specs.declared.StepFault.TheVariants.{NotDerived}
use Rattle.certificate.specs.declared.ActionEntry.{ActionEntry}
use Rattle.certificate.specs.declared.ActionEntry.TheVariants.{All, Listed, Either}
use Rattle.meaning.specs.File as file
use Rattle.meaning.specs.File.{ActionSet, all, listed, either, empty, init, goal, explicit, horn, two_cnf, StateSet}
use Rattle.meaning.specs.File.{basic, complement, intersection, union, progression, regression, action_kind, basic_kind, state_kind, first}
use Rattle.meaning.specs.File.{second}
use Rattle.patterns.specs.Tests.{of_sort, names, names_both, names_complement, names_goal, names_complement_goal, names_all}
use Rattle.patterns.specs.Matched.{matched}
use Rattle.certificate.specs.Views.{view_of, view_of_basic, view_of_actions}

-- ---- state sets

-- what an entry is that has a view; of a basic one its kind
abbrev kind_shown : BasicEntry → ℕ
kind_shown Empty = 0
kind_shown Init = 1
kind_shown Goal = 2
kind_shown (Explicit s) = 3
kind_shown (Horn s) = 4
kind_shown (TwoCnf s) = 5

abbrev pub Is : StateSet → StateEntry → Type 0
Is v (Basic b) = state_kind v ≡ kind_shown b
Is v (Complement a) = v ≡ complement a
Is v (Intersection a b) = v ≡ intersection a b
Is v (Union a b) = v ≡ union a b
Is v (Progression a b) = v ≡ progression a b
Is v (Regression a b) = v ≡ regression a b

basic_is : (p : ℕ) (b : file.Basic) → basic_kind b ≡ kind_shown (view_of_basic p b)
unfolding view_of_basic basic_kind
basic_is p empty = refl
basic_is p init = refl
basic_is p goal = refl
basic_is p (explicit ss) = refl
basic_is p (horn cs) = refl
basic_is p (two_cnf cs) = refl

view_is : (p : ℕ) (v : StateSet) → Is v (view_of p v)
unfolding view_of state_kind
view_is p (basic b) = basic_is p b
view_is p (complement a) = refl
view_is p (intersection a b) = refl
view_is p (union a b) = refl
view_is p (progression a b) = refl
view_is p (regression a b) = refl

module _ (p : ℕ) (v : StateSet) {r : StateEntry} (q : r ≡ view_of p v) where
  -- the case that was wanted
  pub taken : {e : StateEntry} → r ≡ e → Is v e
  taken h = subst (Is v) (sym q ∙ h) (view_is p v)

-- any other case than the wanted one
pub no_basic : (p : ℕ) (v : StateSet) {r : StateEntry} → r ≡ view_of p v → ((b : BasicEntry) → r ≡ Basic b → ⊥)
    → (k : ℕ) → k < 6 → eqb (state_kind v) k ≡ false
unfolding view_of state_kind
no_basic p (basic b) q h k l = absurd (h _ q)
no_basic p (complement a) q h k l = ne_eqb 6 k (λ e. omega arith)
no_basic p (intersection a b) q h k l = ne_eqb 7 k (λ e. omega arith)
no_basic p (union a b) q h k l = ne_eqb 8 k (λ e. omega arith)
no_basic p (progression a b) q h k l = ne_eqb 9 k (λ e. omega arith)
no_basic p (regression a b) q h k l = ne_eqb 10 k (λ e. omega arith)

basic_below : (b : file.Basic) → basic_kind b < 6
unfolding basic_kind
basic_below empty = omega arith
basic_below init = omega arith
basic_below goal = omega arith
basic_below (explicit ss) = omega arith
basic_below (horn cs) = omega arith
basic_below (two_cnf cs) = omega arith

not_basic : (b : file.Basic) (k : ℕ) → 5 < k → eqb (basic_kind b) k ≡ false
not_basic b k l = let m = basic_below b in ne_eqb (basic_kind b) k (λ e. omega arith)

pub no_complement : (p : ℕ) (v : StateSet) {r : StateEntry} → r ≡ view_of p v → ((a : ℕ) → r ≡ Complement a → ⊥)
    → eqb (state_kind v) 6 ≡ false
unfolding view_of state_kind
no_complement p (basic b) q h = not_basic b 6 (omega arith)
no_complement p (complement a) q h = absurd (h _ q)
no_complement p (intersection a b) q h = refl
no_complement p (union a b) q h = refl
no_complement p (progression a b) q h = refl
no_complement p (regression a b) q h = refl

pub no_intersection : (p : ℕ) (v : StateSet) {r : StateEntry} → r ≡ view_of p v → ((a b : ℕ) → r ≡ Intersection a b → ⊥)
    → eqb (state_kind v) 7 ≡ false
unfolding view_of state_kind
no_intersection p (basic b) q h = not_basic b 7 (omega arith)
no_intersection p (complement a) q h = refl
no_intersection p (intersection a b) q h = absurd (h _ _ q)
no_intersection p (union a b) q h = refl
no_intersection p (progression a b) q h = refl
no_intersection p (regression a b) q h = refl

pub no_union : (p : ℕ) (v : StateSet) {r : StateEntry} → r ≡ view_of p v → ((a b : ℕ) → r ≡ Union a b → ⊥)
    → eqb (state_kind v) 8 ≡ false
unfolding view_of state_kind
no_union p (basic b) q h = not_basic b 8 (omega arith)
no_union p (complement a) q h = refl
no_union p (intersection a b) q h = refl
no_union p (union a b) q h = absurd (h _ _ q)
no_union p (progression a b) q h = refl
no_union p (regression a b) q h = refl

pub no_progression : (p : ℕ) (v : StateSet) {r : StateEntry} → r ≡ view_of p v → ((a b : ℕ) → r ≡ Progression a b → ⊥)
    → eqb (state_kind v) 9 ≡ false
unfolding view_of state_kind
no_progression p (basic b) q h = not_basic b 9 (omega arith)
no_progression p (complement a) q h = refl
no_progression p (intersection a b) q h = refl
no_progression p (union a b) q h = refl
no_progression p (progression a b) q h = absurd (h _ _ q)
no_progression p (regression a b) q h = refl

pub no_regression : (p : ℕ) (v : StateSet) {r : StateEntry} → r ≡ view_of p v → ((a b : ℕ) → r ≡ Regression a b → ⊥)
    → eqb (state_kind v) 10 ≡ false
unfolding view_of state_kind
no_regression p (basic b) q h = not_basic b 10 (omega arith)
no_regression p (complement a) q h = refl
no_regression p (intersection a b) q h = refl
no_regression p (union a b) q h = refl
no_regression p (progression a b) q h = refl
no_regression p (regression a b) q h = absurd (h _ _ q)

-- a basic entry's case
pub not_empty : (b : BasicEntry) → (b ≡ Empty → ⊥) → eqb (kind_shown b) 0 ≡ false
not_empty Empty h = absurd (h refl)
not_empty Init h = refl
not_empty Goal h = refl
not_empty (Explicit s) h = refl
not_empty (Horn s) h = refl
not_empty (TwoCnf s) h = refl

pub not_init : (b : BasicEntry) → (b ≡ Init → ⊥) → eqb (kind_shown b) 1 ≡ false
not_init Empty h = refl
not_init Init h = absurd (h refl)
not_init Goal h = refl
not_init (Explicit s) h = refl
not_init (Horn s) h = refl
not_init (TwoCnf s) h = refl

pub not_goal : (b : BasicEntry) → (b ≡ Goal → ⊥) → eqb (kind_shown b) 2 ≡ false
not_goal Empty h = refl
not_goal Init h = refl
not_goal Goal h = absurd (h refl)
not_goal (Explicit s) h = refl
not_goal (Horn s) h = refl
not_goal (TwoCnf s) h = refl

-- ---- action sets

abbrev pub Isᴬ : ActionSet → ActionEntry → Type 0
Isᴬ v All = v ≡ all
Isᴬ v (Listed s) = Unit {0}
Isᴬ v (Either a b) = v ≡ either a b

view_isᴬ : (p : ℕ) (v : ActionSet) → Isᴬ v (view_of_actions p v)
unfolding view_of_actions
view_isᴬ p all = refl
view_isᴬ p (listed is) = tt
view_isᴬ p (either a b) = refl

pub takenᴬ : (p : ℕ) (v : ActionSet) {r : ActionEntry} → r ≡ view_of_actions p v → {e : ActionEntry} → r ≡ e → Isᴬ v e
takenᴬ p v q h = subst (Isᴬ v) (sym q ∙ h) (view_isᴬ p v)

pub not_all : (p : ℕ) (v : ActionSet) {r : ActionEntry} → r ≡ view_of_actions p v → (r ≡ All → ⊥) → eqb (action_kind v) 0 ≡ false
unfolding view_of_actions action_kind
not_all p all q h = absurd (h q)
not_all p (listed is) q h = refl
not_all p (either a b) q h = refl

pub not_either : (p : ℕ) (v : ActionSet) {r : ActionEntry} → r ≡ view_of_actions p v → ((a b : ℕ) → r ≡ Either a b → ⊥)
    → eqb (action_kind v) 2 ≡ false
unfolding view_of_actions action_kind
not_either p all q h = refl
not_either p (listed is) q h = refl
not_either p (either a b) q h = absurd (h _ _ q)

-- ---- a test, and one after another

ok_not_err : {u : Unit {0}} {fault : StepFault} → Ok u ≡ Err fault → ⊥
ok_not_err h = let z : true ≡ false = ap is_ok h in subst T z tt

pub passed : (b : Bool) → true ≡ b → Ok tt ≡ matched b
unfolding matched
passed b h = rw (← h)

pub refused : (b : Bool) → false ≡ b → Err NotDerived ≡ matched b
unfolding matched
refused b h = rw (← h)

-- the first of two tests passed, and the second decides
pub went_on : (p q : Bool) {u : Unit {0}} {r : Result (Unit {0}) StepFault} → Ok u ≡ matched p → r ≡ matched q → r ≡ matched (p && q)
unfolding matched
went_on true q h e = e
went_on false q h e = absurd (ok_not_err h)

-- the first did not, and its fault is handed on
pub stopped : (p q : Bool) {fault : StepFault} {r : Result (Unit {0}) StepFault} → Err fault ≡ matched p → r ≡ Err fault → r ≡ matched (p && q)
unfolding matched
stopped true q h e = absurd (ok_not_err (sym h))
stopped false q h e = e ∙ h

-- `unfolding tests` opens the tests of entries
unfoldable pub tests : Unit {0}
unfolding action_kind basic_kind state_kind first second of_sort names names_both names_complement names_goal names_complement_goal names_all
tests = tt

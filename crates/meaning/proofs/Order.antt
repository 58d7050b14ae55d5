-- What stands at an index, and what follows for a file that is read: references name earlier entries.
-- Assumes nothing.
use mathlib.Core.Path.{◌≡◌, subst}
use Prim.Native.Nat.{ℕ, zero, suc, ◌+◌, ◌<◌, ◌≤◌}
use native.Mathlib.Nat.{zero-add}
use native.Mathlib.Omega.{arith}
use mathlib.Core.List.{List, [], ◌∷◌}
use lib.ListN.{length, get_or}
use Rattle.meaning.specs.File.{ActionSet, all, listed, either, empty, StateSet, basic, complement, intersection, union, progression}
use Rattle.meaning.specs.File.{regression, File, action_set_at, state_set_at}
use Rattle.meaning.specs.Writing.{AllFrom, FitsActionSet, FitsStateSet}
use Rattle.meaning.proofs.Reading.{Read}

module _ {A : Type 0} (P : ℕ → A → Type 0) (d : A) where
  -- the item at an index, or the other value past the end
  at_or_past : (i : ℕ) (xs : List A) → AllFrom P i xs → (j : ℕ) → (length xs ≤ j → P (i + j) d) → P (i + j) (get_or xs j d)
  at_or_past i [] h j past = past (omega arith)
  at_or_past i (x ∷ xs) h zero past = subst (λ (m : ℕ). P m x) (omega arith) h.0
  at_or_past i (x ∷ xs) h (suc j) past =
      let e : suc i + j ≡ i + suc j = omega arith in
      subst (λ (m : ℕ). P m (get_or xs j d)) e
      (at_or_past (suc i) xs h.1 j (λ l. subst (λ (m : ℕ). P m d) (omega arith) (past (omega arith))))

  -- the item at an index within the list
  pub all_at : (i : ℕ) (xs : List A) → AllFrom P i xs → (j : ℕ) → j < length xs → P (i + j) (get_or xs j d)
  all_at i xs h j l = at_or_past i xs h j (λ g. absurd (omega arith))

  -- for a list that is counted from 0, where the other value has the property too
  pub all_anywhere : (xs : List A) → AllFrom P 0 xs → ((j : ℕ) → P j d) → (j : ℕ) → P j (get_or xs j d)
  all_anywhere xs h past j = subst (λ (m : ℕ). P m (get_or xs j d)) (zero-add j) (at_or_past 0 xs h j (λ _. past (0 + j)))

-- ---- the entry with any number

module _ (bytes : List ℕ) (f : File) (r : Read bytes f) where
  pub action_set_fits : (e : ℕ) → FitsActionSet (length f.task.actions) e (action_set_at f e)
  unfolding action_set_at
  action_set_fits = all_anywhere (FitsActionSet (length f.task.actions)) all f.action_sets r.action_sets_hold (λ _. tt)

  pub state_set_fits : (e : ℕ) → FitsStateSet f.task.facts (length f.action_sets) e (state_set_at f e)
  unfolding state_set_at
  state_set_fits = all_anywhere (FitsStateSet f.task.facts (length f.action_sets)) (basic empty) f.state_sets r.state_sets_hold
      (λ _. tt)

-- ---- references name earlier entries

abbrev pub Earlier : ℕ → StateSet → Type 0
Earlier e (basic b) = Unit {0}
Earlier e (complement a) = a < e
Earlier e (intersection a b) = (a < e) × (b < e)
Earlier e (union a b) = (a < e) × (b < e)
Earlier e (progression a x) = a < e
Earlier e (regression a x) = a < e

abbrev pub EarlierActions : ℕ → ActionSet → Type 0
EarlierActions e all = Unit {0}
EarlierActions e (listed is) = Unit {0}
EarlierActions e (either a b) = (a < e) × (b < e)

-- also for a number that names no entry
pub record Ordered (f : File) : Type 0 where
  pub states : (e : ℕ) → Earlier e (state_set_at f e)
  pub actions : (e : ℕ) → EarlierActions e (action_set_at f e)

earlier : (n m e : ℕ) (x : StateSet) → FitsStateSet n m e x → Earlier e x
earlier n m e (basic b) h = tt
earlier n m e (complement a) h = h
earlier n m e (intersection a b) h = h
earlier n m e (union a b) h = h
earlier n m e (progression a x) h = h.0
earlier n m e (regression a x) h = h.0

earlier_actions : (m e : ℕ) (x : ActionSet) → FitsActionSet m e x → EarlierActions e x
earlier_actions m e all h = tt
earlier_actions m e (listed is) h = tt
earlier_actions m e (either a b) h = h

-- in a file that is read, references name earlier entries
pub ordered : (bytes : List ℕ) (f : File) → Read bytes f → Ordered f
ordered bytes f r = record {
  states = λ e. earlier f.task.facts (length f.action_sets) e (state_set_at f e) (state_set_fits bytes f r e);
  actions = λ e. earlier_actions (length f.task.actions) e (action_set_at f e) (action_set_fits bytes f r e);
}

-- A field of facts that are off, an action's or the goal's: it is there or not, as the version says. All that the proofs know of it.
-- Assumes nothing.
use mathlib.Core.Path.{◌≡◌, refl, sym, ap, ◌∙◌}
use Prim.Native.Nat.{ℕ, suc, ◌^◌, ◌<◌}
use mathlib.Core.Logic.{inl, inr}
use mathlib.Core.Bool.{true, false, true≢false}
use mathlib.Core.List.{List, [], ◌∷◌}
use lib.ListN.{length}
use lib.Dec.{eqb}
use Rattle.task.specs.Task.{Task}
use Rattle.task.specs.declared.Action.{Action}
use Rattle.meaning.specs.Result.{found}
use Rattle.meaning.specs.Bytes.{bytes_of}
use Rattle.meaning.specs.Layout.{off_size, mask, off_mask}
use Rattle.meaning.specs.Writing.{write_off, AllFrom, All, FitsAction, FitsVersion, NoneOff}
use Rattle.meaning.proofs.Numbers.{length_bytes_of}
use Rattle.meaning.proofs.Places.{by_test, off_none, off_some}

-- a mask over n facts, and an action: none is needed off but in version 3
abbrev pub FitsOff : ℕ → ℕ → ℕ → Type 0
FitsOff v n m = (m < 2 ^ n) × (eqb v 3 ≡ false → m ≡ 0)

abbrev pub FitsActionOf : ℕ → ℕ → Action → Type 0
FitsActionOf v n a = FitsAction n a × (eqb v 3 ≡ false → a.off ≡ 0)

-- how it is read
pub read_off : (bytes : List ℕ) (v n p : ℕ) → eqb v 3 ≡ true → off_mask bytes v n p ≡ mask bytes n p
unfolding off_mask
read_off bytes v n p e = rw (off_mask, e) refl

pub read_no_off : (bytes : List ℕ) (v n p : ℕ) → eqb v 3 ≡ false → off_mask bytes v n p ≡ found 0
unfolding off_mask
read_no_off bytes v n p e = rw (off_mask, e) refl

-- how it is written
pub written_off : (v m : ℕ) → eqb v 3 ≡ true → write_off v m ≡ bytes_of 8 m
unfolding write_off
written_off v m e = rw (write_off, e) refl

pub written_no_off : (v m : ℕ) → eqb v 3 ≡ false → write_off v m ≡ []
unfolding write_off
written_no_off v m e = rw (write_off, e) refl

pub length_off : (v m : ℕ) → length (write_off v m) ≡ off_size v
length_off v m =
    by_test (eqb v 3)
    (λ e. ap length (written_off v m e) ∙ length_bytes_of 8 m ∙ sym (off_some v e))
    (λ e. ap length (written_no_off v m e) ∙ sym (off_none v e))

-- ---- a task of a version

-- a condition before each item, or before all of them
each_given : {C : Type 0} (P : Action → Type 0) (i : ℕ) (xs : List Action) → AllFrom (λ _ a. C → P a) i xs → C → AllFrom (λ _. P) i xs
each_given P i [] h c = tt
each_given P i (x ∷ xs) h c = (h.0 c, each_given P (suc i) xs h.1 c)

given_each : {C : Type 0} (P : Action → Type 0) (i : ℕ) (xs : List Action) → (C → AllFrom (λ _. P) i xs) → AllFrom (λ _ a. C → P a) i xs
given_each P i [] h = tt
given_each P i (x ∷ xs) h = ((λ c. (h c).0), given_each P (suc i) xs (λ c. (h c).1))

-- but in version 3 its goal and its actions need no fact off
pub none_off : (v n : ℕ) (t : Task) → FitsOff v n t.off → All (λ a. eqb v 3 ≡ false → a.off ≡ 0) t.actions → eqb v 3 ≡ false
    → NoneOff t
none_off v n t h k e = record { goal = h.1 e; actions = each_given (λ a. a.off ≡ 0) 0 t.actions k e }

version_off : (v : ℕ) (t : Task) → FitsVersion v t → eqb v 3 ≡ false → NoneOff t
version_off v t (inl h) e = h.2
version_off v t (inr (inl h)) e = h.1
version_off v t (inr (inr h)) e = absurd (true≢false (rw h at e))

pub goal_off : (v : ℕ) (t : Task) → FitsVersion v t → eqb v 3 ≡ false → t.off ≡ 0
goal_off v t h e = (version_off v t h e).goal

pub actions_off : (v : ℕ) (t : Task) → FitsVersion v t → All (λ a. eqb v 3 ≡ false → a.off ≡ 0) t.actions
actions_off v t h = given_each (λ a. a.off ≡ 0) 0 t.actions (λ e. (version_off v t h e).actions)

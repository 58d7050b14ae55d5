-- A `match` on a number against a table with a default: the arm that is left over.
-- Assumes nothing.
use mathlib.Core.Path.{◌≡◌, refl, sym}
use Prim.Native.Nat.{ℕ, zero, suc, ◌+◌, ◌≤◌}
use native.Mathlib.Omega.{arith}
use mathlib.Core.Bool.{true, false, ◌&&◌}
use mathlib.Core.List.{List, [], ◌∷◌}
use lib.ListN.{length, get_or, drop, get_or-eq_default}
use lib.Dec.{eqb}
use Rattle.certificate.specs.declared.ActionEntry.TheVariants.{All}
use Rattle.certificate.specs.declared.BasicEntry.TheVariants.{Empty}
use Rattle.certificate.specs.declared.StateEntry.TheVariants.{Basic}
use Rattle.certificate.specs.declared.Judgement.TheVariants.{Dead, Within, ActionsWithin, Unsolvable}
use Rattle.certificate.specs.declared.views.Head.{Head}
use Rattle.certificate.specs.Views.{state_table, state_of, action_table, actions_of, judgement_of, clean_of}

-- k is none of the n numbers from `from` on
abbrev pub NoneOf : ℕ → ℕ → ℕ → Type 0
NoneOf from zero k = Unit {0}
NoneOf from (suc n) k = NoneOf from n k × (k ≡ from + n → ⊥)

-- and not below them
pub beyond : (from n k : ℕ) → from ≤ k → NoneOf from n k → from + n ≤ k
beyond from zero k h r = omega arith
beyond from (suc n) k h r = let l = beyond from n k h r.0 in let q = r.1 in omega arith

-- k is past the table
past_table : {A : Type 0} (xs : List A) (d : A) (k : ℕ) → NoneOf 0 (length xs) k → d ≡ get_or xs k d
past_table xs d k r = sym (get_or-eq_default xs d (let b = beyond 0 (length xs) k (omega arith) r in omega arith))

-- k is past the table or 0, where the default stands too
pub past_or_first : {A : Type 0} (xs : List A) (d : A) (k : ℕ) → NoneOf 1 (length xs) k → d ≡ get_or (d ∷ xs) k d
past_or_first xs d zero r = refl
past_or_first xs d (suc k) r = sym (get_or-eq_default xs d (let b = beyond 1 (length xs) (suc k) (omega arith) r in omega arith))

-- ---- the tables

pub state_left : (h : Head) → NoneOf 1 10 h.kind → Basic Empty ≡ state_of h
unfolding state_of state_table
state_left h = past_or_first (drop 1 (state_table h)) (Basic Empty) h.kind

pub actions_left : (h : Head) → NoneOf 1 2 h.kind → All ≡ actions_of h
unfolding actions_of action_table
actions_left h = past_or_first (drop 1 (action_table h)) All h.kind

pub judgement_left : (k a b : ℕ) → NoneOf 0 3 k → Unsolvable ≡ judgement_of k a b
unfolding judgement_of
judgement_left k a b = past_table (Dead a ∷ Within a b ∷ ActionsWithin a b ∷ []) Unsolvable k

pub clean_left : (k a b : ℕ) → NoneOf 0 4 k → false ≡ clean_of k a b
unfolding clean_of
clean_left k a b = past_table (eqb b 0 ∷ true ∷ true ∷ (eqb a 0 && eqb b 0) ∷ []) false k

-- Laws of the places that depend on the version: all that the proofs know of them.
-- Assumes nothing.
use mathlib.Core.Path.{◌≡◌, refl}
use Prim.Native.Nat.{ℕ, ◌+◌, ◌*◌, ◌≤◌}
use native.Mathlib.Omega.{arith}
use mathlib.Core.List.{List}
use mathlib.Core.Bool.{Bool, true, false}
use lib.Dec.{eqb}
use Rattle.meaning.specs.Bytes.{number}
use Rattle.meaning.specs.Layout.{goal_at, off_size, action_count_at, action_size, after_actions}
use Rattle.meaning.specs.Structure.{action_set_count}

-- a test that decides between two things
pub by_test : {X : Type 0} (b : Bool) → (b ≡ true → X) → (b ≡ false → X) → X
by_test true h k = h refl
by_test false h k = k refl

-- the goal's mask stands at 14 or 22, a mask of facts that are off has 8 bytes or none, and the count of the actions stands behind it
pub record Placed (v : ℕ) : Type 0 where
  pub low : 14 ≤ goal_at v
  pub high : goal_at v ≤ 22
  pub off : off_size v ≤ 8
  pub next : action_count_at v ≡ goal_at v + 8 + off_size v
  pub size : action_size v ≡ 24 + off_size v

pub goal_first : (v : ℕ) → eqb v 1 ≡ true → goal_at v ≡ 14
unfolding goal_at
goal_first v e = rw (goal_at, e) refl

pub goal_later : (v : ℕ) → eqb v 1 ≡ false → goal_at v ≡ 22
unfolding goal_at
goal_later v e = rw (goal_at, e) refl

pub off_none : (v : ℕ) → eqb v 3 ≡ false → off_size v ≡ 0
unfolding off_size
off_none v e = rw (off_size, e) refl

pub off_some : (v : ℕ) → eqb v 3 ≡ true → off_size v ≡ 8
unfolding off_size
off_some v e = rw (off_size, e) refl

pub places : (v : ℕ) → Placed v
unfolding action_count_at action_size
places v = record {
  low = by_test (eqb v 1) (λ e. omega (arith, goal_first v e)) (λ e. omega (arith, goal_later v e));
  high = by_test (eqb v 1) (λ e. omega (arith, goal_first v e)) (λ e. omega (arith, goal_later v e));
  off = by_test (eqb v 3) (λ e. omega (arith, off_some v e)) (λ e. omega (arith, off_none v e));
  next = refl;
  size = refl;
}

pub after_actions_lem : (v m : ℕ) → after_actions v m ≡ action_count_at v + 2 + action_size v * m
unfolding after_actions
after_actions_lem v m = refl

pub behind_task : (v m : ℕ) → 24 ≤ after_actions v m
behind_task v m = let o = places v in let e = after_actions_lem v m in omega arith

-- the action sets stand behind the count and the actions
pub behind_count : (bytes : List ℕ) → action_count_at (number 1 bytes 4) + 2 ≤ action_set_count bytes
unfolding action_set_count
behind_count bytes = let v : ℕ = number 1 bytes 4 in let e = after_actions_lem v (number 2 bytes (action_count_at v)) in omega arith

pub behind_actions : (bytes : List ℕ) → 24 ≤ action_set_count bytes
unfolding action_set_count
behind_actions bytes = behind_task (number 1 bytes 4) _

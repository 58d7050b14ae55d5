-- The planning task, and what an action does to a state. Document 01 calls the task a table.
-- Assumes nothing.
use Rattle.std.specs.Prelude.{ℕ, Bool, true, false, ◌&&◌, List, [], ◌∷◌, get_or, eqb}
use Rattle.std.specs.Int.Bits.{bit_or}
use Rattle.task.specs.Facts.{all_on, all_off, without}
use Rattle.task.specs.declared.Action.{Action}

pub record Task : Type 0 where
  pub facts : ℕ
  -- document 01: the start
  pub init : ℕ
  -- document 02, d: the facts that may be on or off there
  pub unknown : ℕ
  -- document 01: the forbidden mask
  pub goal : ℕ
  -- document 02, j: the forbidden-off mask
  pub off : ℕ
  pub actions : List Action

-- the action with a number; the other value stands where the number names none
unfoldable pub action_at : Task → ℕ → Action
action_at t i = get_or t.actions i (record { pre = 0; add = 0; del = 0; off = 0 })

-- the state agrees with the start on the facts that are known there
unfoldable pub is_init : Task → ℕ → Bool
is_init t s = eqb (without s t.unknown) (without t.init t.unknown)

-- forbidden: both masks are met, every fact of the one is on and every fact of the other is off
unfoldable pub is_goal : Task → ℕ → Bool
is_goal t s = all_on t.goal s && all_off t.off s

-- all its needs are on, and what it needs off is off
unfoldable pub applies : Action → ℕ → Bool
applies a s = all_on a.pre s && all_off a.off s

-- the state without what is cleared, joined with what is set: a fact in both ends on
unfoldable pub after : Action → ℕ → ℕ
after a s = bit_or (without s a.del) a.add

-- one action of a sequence: where it does not apply, it leaves the state as it is
unfoldable pub next : Action → ℕ → ℕ
next a s = elim (applies a s) [ true ↦ after a s | false ↦ s ]

-- the state that a sequence of action numbers leads to from s
unfoldable pub run : Task → ℕ → List ℕ → ℕ
run t s [] = s
run t s (i ∷ is) = run t (next (action_at t i) s) is

-- the states that it passes, the first and the last among them
unfoldable pub trace : Task → ℕ → List ℕ → List ℕ
trace t s [] = s ∷ []
trace t s (i ∷ is) = s ∷ trace t (next (action_at t i) s) is

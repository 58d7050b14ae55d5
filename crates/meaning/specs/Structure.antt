-- Where the parts of a file stand, by its version, lengths, counts and kinds alone: nothing is read in between.
-- Assumes nothing.
use Rattle.std.specs.Prelude.{ℕ, zero, suc, ◌+◌, ◌-◌, ◌/◌, true, false, List, eqb}
use Rattle.meaning.specs.Bytes.{number}
use Rattle.meaning.specs.Layout.{action_count_at, after_actions}

module _ (bytes : List ℕ) where
  -- the place after k entries from place p
  unfoldable pub after_entries : ℕ → ℕ → ℕ
  after_entries p zero = p
  after_entries p (suc k) = after_entries (p + 2 + number 2 bytes p) k

  -- the places of the counts of action sets, of state sets and of steps
  unfoldable pub action_set_count : ℕ
  action_set_count = let v : ℕ = number 1 bytes 4 in after_actions v (number 2 bytes (action_count_at v))

  unfoldable pub state_set_count : ℕ
  state_set_count = after_entries (action_set_count + 2) (number 2 bytes action_set_count)

  unfoldable pub step_count : ℕ
  step_count = after_entries (state_set_count + 2) (number 2 bytes state_set_count)

  -- how many states the state set at place p lists, if it is explicit
  unfoldable pub listed_at : ℕ → ℕ
  listed_at p = elim (eqb (number 1 bytes (p + 2)) 3) [ true ↦ (number 2 bytes p - 1) / 8 | false ↦ 0 ]

  -- the place of state set e
  unfoldable pub set_at : ℕ → ℕ
  set_at e = after_entries (state_set_count + 2) e

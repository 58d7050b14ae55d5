-- The places in the table of entries: action sets at 0 to 255, state sets at 256 to 767, and 0 where there is no entry.
-- Assumes nothing.
use Rattle.std.specs.Prelude.{ℕ, ◌+◌, ◌≤◌, ◌<◌, min, ◌≡◌, true, false, List, length, get_or, ltb}
use Rattle.certificate.specs.declared.Places.{Places}
use Rattle.certificate.specs.Views.{entry_place}

-- a place as two bytes hold it. Every entry of a file that is read stands below 65,536
abbrev pub capped : ℕ → ℕ
capped p = min p 65535

-- the table after the places of `count` entries, of which the first is at place p, were put at `from` and after it, as far as the
-- table goes
pub record Indexed (bytes : List ℕ) (p count from : ℕ) (before after : List ℕ) : Type 0 where
  pub size : length after ≡ length before
  pub here : (k : ℕ) → k < count → from + k < length before → get_or after (from + k) 0 ≡ capped (entry_place bytes p k)
  pub below : (j : ℕ) → j < from → get_or after j 0 ≡ get_or before j 0
  pub above : (j : ℕ) → from + count ≤ j → get_or after j 0 ≡ get_or before j 0

-- where the table says that the entries stand
unfoldable pub state_place : List ℕ → ℕ → ℕ
state_place index e = elim (ltb e 512) [ true ↦ get_or index (256 + e) 0 | false ↦ 0 ]

unfoldable pub action_place : List ℕ → ℕ → ℕ
action_place index a = elim (ltb a 256) [ true ↦ get_or index a 0 | false ↦ 0 ]

-- the table of a file's entries
pub record Table (bytes : List ℕ) (at : Places) (index : List ℕ) : Type 0 where
  pub action_sets : (e : ℕ) → e < at.action_sets → action_place index e ≡ capped (entry_place bytes at.action_sets_at e)
  pub state_sets : (e : ℕ) → e < at.state_sets → state_place index e ≡ capped (entry_place bytes at.state_sets_at e)
  pub no_action_set : (e : ℕ) → at.action_sets ≤ e → action_place index e ≡ 0
  pub no_state_set : (e : ℕ) → at.state_sets ≤ e → state_place index e ≡ 0

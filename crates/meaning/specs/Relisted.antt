-- Files that list the states of their explicit sets in another order or with other repeats (document 02, b), by their bytes alone.
-- Assumes nothing.
use Rattle.std.specs.Prelude.{◌≡◌, ℕ, zero, suc, ◌+◌, ◌*◌, ◌^◌, ◌≤◌, ◌<◌, true, false, List, [], ◌∷◌, length, get_or, ltb}
use Rattle.task.specs.Reach.{member}
use Rattle.meaning.specs.Bytes.{number}
use Rattle.meaning.specs.Structure.{state_set_count, listed_at, set_at}

module _ (bytes : List ℕ) where
  -- k states from place p
  unfoldable pub states_from : ℕ → ℕ → List ℕ
  states_from p zero = []
  states_from p (suc k) = number 8 bytes p ∷ states_from (p + 8) k

  -- the places of those that name a fact of n or above
  unfoldable pub wrong_from : ℕ → ℕ → List ℕ
  wrong_from p zero = []
  wrong_from p (suc k) =
      elim (ltb (number 8 bytes p) (2 ^ number 1 bytes 5)) [ true ↦ wrong_from (p + 8) k | false ↦ p ∷ wrong_from (p + 8) k ]

  -- the same of the states that state set e lists, if it is explicit
  unfoldable pub states_in : ℕ → List ℕ
  states_in e = states_from (set_at bytes e + 3) (listed_at bytes (set_at bytes e))

  unfoldable pub wrong_in : ℕ → List ℕ
  wrong_in e = wrong_from (set_at bytes e + 3) (listed_at bytes (set_at bytes e))

  -- place p is in a state that an explicit set lists
  abbrev pub InState : ℕ → Type 0
  InState p =
      (e : ℕ) × (e < number 2 bytes (state_set_count bytes))
      × (set_at bytes e + 3 ≤ p) × (p < set_at bytes e + 3 + 8 * listed_at bytes (set_at bytes e))

-- the bytes are the same but for the states in explicit sets, and each set lists the same states, in any order and each as often as it
-- may be
pub record Relisted (a b : List ℕ) : Type 0 where
  pub size : length a ≡ length b
  pub others : (p : ℕ) → (InState a p → ⊥) → get_or a p 0 ≡ get_or b p 0
  pub states : (e : ℕ) → e < number 2 a (state_set_count a) → (s : ℕ) → member s (states_in a e) ≡ member s (states_in b e)

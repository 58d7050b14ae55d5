-- An action set worked out as 256 marks, four words of 64.
-- Assumes nothing.
use Rattle.std.specs.Prelude.{◌≡◌, ℕ, ◌+◌, ◌*◌, ◌/◌, ◌%◌, ◌<◌, Bool, ◌⊎◌, List, get_or, T, eqb}
use Rattle.meaning.specs.File.{File}
use Rattle.file_numbers.specs.Numbers.{number_at}
use Rattle.meaning.specs.Sets.{some_below, in_actions}
use Rattle.task.specs.Inner.{has}

-- number i is marked
unfoldable pub marked : List ℕ → ℕ → Bool
marked words i = has (get_or words (i / 64) 0) (i % 64)

-- just the numbers that pass the test are marked
abbrev pub Marks : List ℕ → (ℕ → Bool) → Type 0
Marks words t = (i : ℕ) → i < 256 → marked words i ≡ t i

-- the marks of an action set that is being worked out: `found` so far, and the entries that are still wanted, all below `left`
pub record Looking (f : File) (a left : ℕ) (wanted found : List ℕ) : Type 0 where
  pub sound : (i : ℕ) → i < 256 → T (marked found i) → T (in_actions f a i)
  pub wanted_sound : (e : ℕ) → e < left → T (marked wanted e) → (i : ℕ) → T (in_actions f e i) → T (in_actions f a i)
  pub complete : (i : ℕ) → i < 256 → T (in_actions f a i)
      → T (marked found i) ⊎ ((e : ℕ) × (e < left) × T (marked wanted e) × T (in_actions f e i))

-- j is among the `count` numbers of 2 bytes from place `at`
unfoldable pub listed_in : List ℕ → ℕ → ℕ → ℕ → Bool
listed_in bytes at count j = some_below count (λ i. eqb (number_at 2 bytes (at + 2 * i)) j)

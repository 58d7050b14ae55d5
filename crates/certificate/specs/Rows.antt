-- The states of explicit sets in ascending order, by rows in the table of entries from 768 on: row k of a set is the number that the k-th
-- of its states by size has in the file. There are no rows where all sets ascend as they stand. Only the code's inner promises speak of
-- this.
-- Assumes nothing.
use Rattle.std.specs.Prelude.{◌≡◌, ℕ, suc, ◌+◌, ◌-◌, ◌*◌, ◌/◌, ◌≤◌, ◌<◌, Bool, true, false, not, List, length, get_or, T, eqb}
use Rattle.file_numbers.specs.Numbers.{number_at}
use Rattle.meaning.specs.Sets.{some_below}
use Rattle.sorting.specs.Rows.{state_at, Ascends, Ordered}
use Rattle.certificate.specs.declared.Span.{Span}
use Rattle.certificate.specs.declared.BasicEntry.{BasicEntry}
use Rattle.certificate.specs.declared.BasicEntry.TheVariants.{Empty, Init, Goal, Explicit, Horn, TwoCnf}
use Rattle.certificate.specs.declared.StateEntry.{StateEntry}
use Rattle.certificate.specs.declared.StateEntry.TheVariants.{Basic, Complement, Intersection, Union, Progression, Regression}
use Rattle.certificate.specs.Views.{state_entry_at, after_entry}

-- the states that an entry lists; none where it lists none
unfoldable pub listed_by : BasicEntry → Span
listed_by Empty = record { at = 0; count = 0 }
listed_by Init = record { at = 0; count = 0 }
listed_by Goal = record { at = 0; count = 0 }
listed_by (Explicit x) = x
listed_by (Horn x) = record { at = 0; count = 0 }
listed_by (TwoCnf x) = record { at = 0; count = 0 }

unfoldable pub states_of : StateEntry → Span
states_of (Basic b) = listed_by b
states_of (Complement a) = record { at = 0; count = 0 }
states_of (Intersection a b) = record { at = 0; count = 0 }
states_of (Union a b) = record { at = 0; count = 0 }
states_of (Progression a b) = record { at = 0; count = 0 }
states_of (Regression a b) = record { at = 0; count = 0 }

-- where the rows of states at a place start. Bodies of entries do not overlap, and so neither do rows
abbrev pub first_row : ℕ → ℕ
first_row at = 768 + at / 8

-- the file's states are in order by their rows
unfoldable pub by_rows : List ℕ → Bool
by_rows index = not (eqb (get_or index 8960 0) 0)

-- the number in the file of the k-th state by size, and that state
unfoldable pub row_of : List ℕ → Span → ℕ → ℕ
row_of index x k = elim (by_rows index) [ true ↦ get_or index (first_row x.at + k) 0 | false ↦ k ]

abbrev pub state_in : List ℕ → List ℕ → Span → ℕ → ℕ
state_in bytes index x k = number_at 8 bytes (x.at + 8 * row_of index x k)

-- the states stand within the file, each of them is one of those with these numbers, and these ascend
pub record InOrder (bytes index : List ℕ) (x : Span) : Type 0 where
  pub inside : x.at + 8 * x.count ≤ length bytes
  pub short : length bytes ≤ 65536
  pub below : (k : ℕ) → k < x.count → row_of index x k < x.count
  pub every : (j : ℕ) → j < x.count → T (some_below x.count (λ k. eqb (state_in bytes index x k) (state_at bytes x.at j)))
  pub ascend : (i j : ℕ) → i ≤ j → j < x.count → state_in bytes index x i ≤ state_in bytes index x j

-- ---- before the rows are put there

-- the states that the entry in a table at 256 + e lists
abbrev pub states_at : List ℕ → List ℕ → ℕ → Span
states_at bytes index e = states_of (state_entry_at bytes (get_or index (256 + e) 0))

-- a table of the places of `count` state sets within the file, one behind the other
pub record Tabled (bytes index : List ℕ) (count : ℕ) : Type 0 where
  pub few : count ≤ 512
  pub short : length bytes ≤ 65536
  pub size : length index ≡ 8961
  pub head : (e : ℕ) → e < count → get_or index (256 + e) 0 + 7 ≤ length bytes
  pub inside : (e : ℕ) → e < count → get_or index (256 + e) 0 + 3 + (number_at 2 bytes (get_or index (256 + e) 0) - 1) ≤ length bytes
  pub next : (e : ℕ) → suc e < count → get_or index (256 + suc e) 0 ≡ after_entry bytes (get_or index (256 + e) 0)

-- all states of these sets ascend as they stand
abbrev pub AllAscend : List ℕ → List ℕ → ℕ → Type 0
AllAscend bytes index count = (e : ℕ) → e < count → Ascends bytes (states_at bytes index e).at (states_at bytes index e).count

-- the table after the rows of the first `count` state sets were put there
pub record WithRows (bytes : List ℕ) (count : ℕ) (before after : List ℕ) : Type 0 where
  pub size : length after ≡ length before
  pub places : (j : ℕ) → j < 768 → get_or after j 0 ≡ get_or before j 0
  pub mark : get_or after 8960 0 ≡ get_or before 8960 0
  pub ordered : (e : ℕ) → e < count
      → Ordered bytes (states_at bytes before e).at (states_at bytes before e).count after (first_row (states_at bytes before e).at)

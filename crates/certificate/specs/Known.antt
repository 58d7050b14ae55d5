-- What the layers above the layout check may count on: the file was read, these are its places, and this is the table of its entries.
-- Assumes nothing.
use Rattle.std.specs.Prelude.{◌≡◌, ℕ, ◌<◌, List, [], length}
use Rattle.certificate.specs.declared.Places.{Places}
use Rattle.meaning.specs.Result.{Result, refuse, found}
use Rattle.meaning.specs.File.{File}
use Rattle.meaning.specs.Layout.{read_file}
use Rattle.certificate.specs.Views.{places_of, state_entry_at}
use Rattle.certificate.specs.Index.{state_place, Table}
use Rattle.certificate.specs.Rows.{states_of, InOrder}

-- the file that was read; the other value stands where none was
unfoldable pub read_or : Result File → File
read_or (refuse r p) = record {
  version = 0;
  task = record { facts = 0; init = 0; unknown = 0; goal = 0; off = 0; actions = [] };
  action_sets = [];
  state_sets = [];
  steps = [];
}
read_or (found f) = f

unfoldable pub decoded : List ℕ → File
decoded bytes = read_or (read_file bytes)

abbrev pub IsRead : List ℕ → Type 0
IsRead bytes = read_file bytes ≡ found (decoded bytes)

-- and these are its places
pub record Placed (bytes : List ℕ) (at : Places) : Type 0 where
  pub read : IsRead bytes
  pub places : at ≡ places_of bytes (decoded bytes)

-- and this is the table of its entries, by which the states that each lists are in order
pub record Known (bytes : List ℕ) (index : List ℕ) : Type 0 where
  pub read : IsRead bytes
  pub table : Table bytes (places_of bytes (decoded bytes)) index
  pub ordered : (e : ℕ) → e < length (decoded bytes).state_sets → InOrder bytes index (states_of (state_entry_at bytes (state_place index e)))

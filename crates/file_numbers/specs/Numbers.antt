-- A number at any place of a file, as the code reads it, and a clause, which is two.
-- Assumes nothing.
use Rattle.std.specs.Prelude.{ℕ, ◌+◌, true, false, List}
use Rattle.meaning.specs.Bytes.{number, inside}
use Rattle.meaning.specs.declared.Clause.{Clause}

-- the number in the k bytes from place p, and 0 where they run past the end
unfoldable pub number_at : ℕ → List ℕ → ℕ → ℕ
number_at k bytes p = elim (inside k bytes p) [ true ↦ number k bytes p | false ↦ 0 ]

-- the clause at place p
unfoldable pub clause_at : List ℕ → ℕ → Clause
clause_at bytes p = record { positive = number_at 8 bytes p; negative = number_at 8 bytes (p + 8) }

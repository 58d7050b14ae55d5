-- Clauses in the file, and those of them that have a fact in common with masks. Only the code's inner promises speak of this.
-- Assumes nothing.
use Rattle.std.specs.Prelude.{◌≡◌, true, List, ℕ, ◌+◌, ◌*◌, ◌≤◌, ◌<◌, Option, Some, None}
use Rattle.std.specs.Int.Bits.{bit_and}
use Rattle.meaning.specs.declared.Clause.{Clause}
use Rattle.file_numbers.specs.Numbers.{clause_at}
use Rattle.turned.specs.Turned.{turned8}
use Rattle.words.specs.declared.Masks.{Masks}

-- clause i of those that stand in the file from a place
unfoldable pub words_at : List ℕ → ℕ → ℕ → Clause
words_at bytes at i = clause_at bytes (at + 16 * i)

-- masks in the machine's byte order
unfoldable pub turned_masks : Masks → Masks
turned_masks m = record { two = m.two; off = turned8 m.off; on = turned8 m.on }

-- the clause has no negative fact of the mask `on` and no positive fact of the mask `off`; where only Horn clauses matter (`two` is
-- false), the latter is not asked
abbrev pub Misses : Masks → Clause → Type 0
Misses m c = (m.two ≡ true → bit_and c.positive m.off ≡ 0) × (bit_and c.negative m.on ≡ 0)

-- each of the clauses in the file from i up to k misses the masks
abbrev pub MissedAt : List ℕ → ℕ → Masks → ℕ → ℕ → Type 0
MissedAt bytes at m i k = (j : ℕ) → i ≤ j → j < k → Misses m (words_at bytes at j)

-- of so many clauses from place p, r is the first from i on that does not miss them
pub record HitAt (bytes : List ℕ) (p count : ℕ) (m : Masks) (i r : ℕ) : Type 0 where
  pub from : i ≤ r
  pub within : r < count
  pub past : MissedAt bytes p m i r
  pub there : Misses m (words_at bytes p r) → ⊥

-- so it is where there is one; else each clause from i on misses them
abbrev pub FirstHit : List ℕ → ℕ → ℕ → Masks → ℕ → Option ℕ → Type 0
FirstHit bytes p count m i None = MissedAt bytes p m i count
FirstHit bytes p count m i (Some r) = HitAt bytes p count m i r

-- What the code makes of a caller's list of rule numbers.
-- Assumes nothing.
use Rattle.std.specs.Prelude.{◌≡◌, ℕ, ◌<◌, List, get_or}

-- the table has the rule that each byte stands for
abbrev pub Stands : List ℕ → (ℕ → ℕ) → Type 0
Stands table meant = (x : ℕ) → x < 256 → get_or table x 0 ≡ meant x

-- The bytes of a number in the other order. Only the code's inner promises speak of this.
-- Assumes nothing.
use Rattle.std.specs.Prelude.{ℕ, ◌+◌, ◌*◌, ◌/◌, ◌%◌}

-- two bytes, four and eight
unfoldable pub turned2 : ℕ → ℕ
turned2 x = x % 256 * 256 + x / 256

unfoldable pub turned4 : ℕ → ℕ
turned4 x = turned2 (x % 65536) * 65536 + turned2 (x / 65536)

unfoldable pub turned8 : ℕ → ℕ
turned8 x = turned4 (x % 4294967296) * 4294967296 + turned4 (x / 4294967296)

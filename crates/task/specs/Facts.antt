-- States and masks. Either is the number whose bit f, of weight 2 ^ f, says whether fact f is on.
-- Assumes nothing.
use Rattle.std.specs.Prelude.{ℕ, zero, suc, ◌+◌, ◌-◌, ◌/◌, ◌%◌, Bool, eqb}
use Rattle.std.specs.Int.Bits.{bit_and}

-- every fact of the mask m is on in s
unfoldable pub all_on : ℕ → ℕ → Bool
all_on m s = eqb (bit_and s m) m

-- every fact of the mask m is off in s
unfoldable pub all_off : ℕ → ℕ → Bool
all_off m s = eqb (bit_and s m) 0

-- s without the facts of m
unfoldable pub without : ℕ → ℕ → ℕ
without s m = s - bit_and s m

-- how many of the first k facts a mask has
unfoldable pub ones_in : ℕ → ℕ → ℕ
ones_in zero m = 0
ones_in (suc k) m = m % 2 + ones_in k (m / 2)

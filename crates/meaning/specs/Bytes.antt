-- Big-endian numbers in a list of bytes.
-- Assumes nothing.
use Rattle.std.specs.Prelude.{ℕ, zero, suc, ◌+◌, ◌*◌, ◌/◌, ◌%◌, Bool, List, [], ◌∷◌, ◌++◌, length, take, drop, leb, ltb, T}
use Rattle.task.specs.Reach.{every}

-- the bytes as one number; `a` is the number of those before them
unfoldable pub big_endian : ℕ → List ℕ → ℕ
big_endian a [] = a
big_endian a (b ∷ bs) = big_endian (a * 256 + b) bs

-- a number as k bytes
unfoldable pub bytes_of : ℕ → ℕ → List ℕ
bytes_of zero x = []
bytes_of (suc k) x = bytes_of k (x / 256) ++ x % 256 ∷ []

-- the number in the k bytes from place p
unfoldable pub number : ℕ → List ℕ → ℕ → ℕ
number k bytes p = big_endian 0 (take k (drop p bytes))

-- k bytes from place p do not run past the end
unfoldable pub inside : ℕ → List ℕ → ℕ → Bool
inside k bytes p = leb (p + k) (length bytes)

-- each number of the list is a byte
abbrev pub AreBytes : List ℕ → Type 0
AreBytes bytes = T (every (λ b. ltb b 256) bytes)

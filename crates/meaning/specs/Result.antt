-- What a check gives: a value, or a refusal with document 01's number and place.
-- Assumes nothing.
use Rattle.std.specs.Prelude.{ℕ, Bool, true, false}
use Rattle.std.proofs.Math.Option.{Option, none, some}

pub data Result (A : Type 0) : Type 0 where
  refuse : ℕ → ℕ → Result A
  found : A → Result A

infixl 10 ◌>>=◌
-- the first refusal stands; what comes after it is not looked at
unfoldable pub ◌>>=◌ : {A B : Type 0} → Result A → (A → Result B) → Result B
◌>>=◌ (refuse r p) f = refuse r p
◌>>=◌ (found a) f = f a

-- refusal r at place p unless the test passes
unfoldable pub need : Bool → ℕ → ℕ → Result (Unit {0})
need true r p = found tt
need false r p = refuse r p

-- the same for a value that may be missing
unfoldable pub known : {A : Type 0} → Option A → ℕ → ℕ → Result A
known none r p = refuse r p
known (some a) r p = found a

-- What a search among listed states tells. Only the code's inner promises speak of this.
-- Assumes nothing.
use Rattle.std.specs.Prelude.{◌≡◌, ℕ, ◌<◌, true, false, List, Option, None, Some}
use Rattle.task.specs.Reach.{member}
use Rattle.certificate.specs.declared.Span.{Span}
use Rattle.certificate.specs.Rows.{state_in}
use Rattle.leaves.specs.Holds.{states_at}

-- a state is among those listed, and is the k-th of them by size; or it is none of them
abbrev pub Found : List ℕ → List ℕ → Span → ℕ → Option ℕ → Type 0
Found bytes index x s None = member s (states_at bytes x.at x.count) ≡ false
Found bytes index x s (Some k) = (k < x.count) × (state_in bytes index x k ≡ s) × (member s (states_at bytes x.at x.count) ≡ true)

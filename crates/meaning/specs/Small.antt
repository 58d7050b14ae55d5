-- The same check with smaller limits (document 02, l): 19 where a file breaks one of them.
-- Assumes nothing.
use Rattle.std.specs.Prelude.{ℕ, zero, suc, ◌+◌, ◌≤◌, ◌<◌, ◌⊎◌, true, false, List, [], ◌∷◌, ◌++◌, length, leb}
use Rattle.meaning.specs.Result.{◌>>=◌}
use Rattle.meaning.specs.Bytes.{number}
use Rattle.meaning.specs.Structure.{state_set_count, step_count, listed_at}
use Rattle.meaning.specs.declared.Limits.{Limits}
use Rattle.meaning.specs.Limits.{small}
use Rattle.meaning.specs.Layout.{read_within}
use Rattle.meaning.specs.declared.Reply.{Reply}
use Rattle.meaning.specs.declared.Reply.TheVariants.{Accepted, Refused}
use Rattle.meaning.specs.Reply.{check_file, reply_to}

unfoldable pub reply_within : Limits → List ℕ → Reply
reply_within l bytes = reply_to (read_within l bytes >>= check_file)

unfoldable pub reply_small : List ℕ → Reply
reply_small bytes = reply_within small bytes

-- ---- where a file breaks limits, by its structure alone

-- the place p where x is more than `most`
unfoldable pub above : ℕ → ℕ → ℕ → List ℕ
above most x p = elim (leb x most) [ true ↦ [] | false ↦ p ∷ [] ]

module _ (bytes : List ℕ) where
  -- of k state sets from place p, those that list more than `most`
  unfoldable pub long_lists : ℕ → ℕ → ℕ → List ℕ
  long_lists most p zero = []
  long_lists most p (suc k) = above most (listed_at bytes p) p ++ long_lists most (p + 2 + number 2 bytes p) k

  -- all breaches, in the written order
  unfoldable pub breaches : Limits → List ℕ
  breaches l =
      above l.size (length bytes) 0
      ++ long_lists l.states (state_set_count bytes + 2) (number 2 bytes (state_set_count bytes))
      ++ above l.steps (number 2 bytes (step_count bytes)) (step_count bytes)

-- place p comes before what a reply refuses, if anything: a refusal from 8 to 12 is of a step, and comes after the whole layout
abbrev pub Before : ℕ → Reply → Type 0
Before p Accepted = Unit {0}
Before p (Refused r q) = ((8 ≤ r) × (r ≤ 12)) ⊎ (p < q)

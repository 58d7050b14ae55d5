-- Which states a leaf's set holds, by the bytes of the file. Only the code's inner promises speak of this.
-- Assumes nothing.
use Rattle.std.specs.Prelude.{ℕ, zero, suc, ◌+◌, ◌*◌, ◌≤◌, ◌<◌, Bool, false, List, [], ◌∷◌, length, T}
use Rattle.task.specs.declared.Ends.{Ends}
use Rattle.task.specs.Inner.{at_init, at_goal}
use Rattle.task.specs.Reach.{member}
use Rattle.file_numbers.specs.Numbers.{number_at}
use Rattle.file_numbers.specs.ClauseRule.{clause_rule}
use Rattle.meaning.specs.Sets.{all_below, meets}
use Rattle.words.specs.Words.{words_at}
use Rattle.certificate.specs.declared.Span.{Span}
use Rattle.certificate.specs.declared.BasicEntry.{BasicEntry}
use Rattle.certificate.specs.declared.BasicEntry.TheVariants.{Empty, Init, Goal, Explicit, Horn, TwoCnf}
use Rattle.certificate.specs.Rows.{InOrder}

-- `count` states of 8 bytes from place `at`
unfoldable pub states_at : List ℕ → ℕ → ℕ → List ℕ
states_at bytes at zero = []
states_at bytes at (suc k) = number_at 8 bytes at ∷ states_at bytes (at + 8) k

module _ (bytes : List ℕ) (ends : Ends) where
  -- state s meets each clause of a span
  unfoldable pub meets_all : Span → ℕ → Bool
  meets_all x s = all_below x.count (λ i. meets s (words_at bytes x.at i))

  -- a set holds state s: none, the start, the forbidden states, listed states, and states that meet each clause
  unfoldable pub set_holds : BasicEntry → ℕ → Bool
  set_holds Empty s = false
  set_holds Init s = at_init ends s
  set_holds Goal s = at_goal ends s
  set_holds (Explicit x) s = member s (states_at bytes x.at x.count)
  set_holds (Horn x) s = meets_all x s
  set_holds (TwoCnf x) s = meets_all x s

-- a set's listed states are in order by the table of entries; its clauses stand within the file
abbrev pub Orderly : List ℕ → List ℕ → BasicEntry → Type 0
Orderly bytes index Empty = Unit {0}
Orderly bytes index Init = Unit {0}
Orderly bytes index Goal = Unit {0}
Orderly bytes index (Explicit x) = InOrder bytes index x
Orderly bytes index (Horn x) = x.at + 16 * x.count ≤ length bytes
Orderly bytes index (TwoCnf x) = x.at + 16 * x.count ≤ length bytes

-- clauses stand within the file, and keep the rule of two-literal or of Horn clauses
pub record Ruled (bytes : List ℕ) (two : Bool) (x : Span) : Type 0 where
  pub inside : x.at + 16 * x.count ≤ length bytes
  pub shape : (i : ℕ) → i < x.count → T (clause_rule two (words_at bytes x.at i).positive (words_at bytes x.at i).negative)

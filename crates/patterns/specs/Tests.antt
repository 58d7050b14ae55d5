-- Tests of an entry: its kind, and what it names.
-- Assumes nothing.
use Rattle.std.specs.Prelude.{ℕ, Bool, ◌&&◌, eqb}
use Rattle.meaning.specs.File.{File, action_set_at, state_set_at, action_kind, state_kind, first, second}

module _ (f : File) where
  -- state set e is of kind k
  unfoldable pub of_sort : ℕ → ℕ → Bool
  of_sort k e = eqb (state_kind (state_set_at f e)) k

  -- and names x first
  unfoldable pub names : ℕ → ℕ → ℕ → Bool
  names k e x = of_sort k e && eqb (first (state_set_at f e)) x

  -- and names x and y, in this order
  unfoldable pub names_both : ℕ → ℕ → ℕ → ℕ → Bool
  names_both k e x y = of_sort k e && (eqb (first (state_set_at f e)) x && eqb (second (state_set_at f e)) y)

  -- and names the complement of x and then y
  unfoldable pub names_complement : ℕ → ℕ → ℕ → ℕ → Bool
  names_complement k e x y = of_sort k e && (names 6 (first (state_set_at f e)) x && eqb (second (state_set_at f e)) y)

  -- an intersection of x and the goal
  unfoldable pub names_goal : ℕ → ℕ → Bool
  names_goal e x = of_sort 7 e && (eqb (first (state_set_at f e)) x && of_sort 2 (second (state_set_at f e)))

  -- and of the complement of x and the goal
  unfoldable pub names_complement_goal : ℕ → ℕ → Bool
  names_complement_goal e x = of_sort 7 e && (names 6 (first (state_set_at f e)) x && of_sort 2 (second (state_set_at f e)))

  -- of kind k, and names x and then a set of all actions, which is so by its kind
  unfoldable pub names_all : ℕ → ℕ → ℕ → Bool
  names_all k e x = of_sort k e && (eqb (first (state_set_at f e)) x && eqb (action_kind (action_set_at f (second (state_set_at f e)))) 0)

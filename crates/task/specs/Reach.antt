-- What sequences of actions reach, and when a task is safe.
-- Assumes nothing.
use Rattle.std.specs.Prelude.{◌≡◌, ℕ, ◌≤◌, ◌<◌, Bool, true, not, ◌&&◌, ◌||◌, false, List, [], ◌∷◌, length, T, eqb}
use Rattle.task.specs.Task.{Task, is_init, is_goal, run, trace}

-- x is in the list
unfoldable pub member : ℕ → List ℕ → Bool
member x [] = false
member x (y ∷ ys) = eqb x y || member x ys

-- each element of the list passes the test
unfoldable pub every : {A : Type 0} → (A → Bool) → List A → Bool
every t [] = true
every t (x ∷ xs) = t x && every t xs

-- no two elements of the list are equal
unfoldable pub distinct : List ℕ → Bool
distinct [] = true
distinct (x ∷ xs) = not (member x xs) && distinct xs

-- a sequence: a list of numbers of the task's actions
abbrev pub Sequence : Task → List ℕ → Type 0
Sequence t [] = Unit {0}
Sequence t (i ∷ is) = (i < length t.actions) × Sequence t is

-- no sequence from an initial state passes a goal state, its first and last state included
abbrev pub Safe : Task → Type 0
Safe t = (s : ℕ) (is : List ℕ) → T (is_init t s) → Sequence t is → T (every (λ x. not (is_goal t x)) (trace t s is))

-- no sequence from an initial state leads to a goal state
abbrev pub Unsolvable : Task → Type 0
Unsolvable t = (s : ℕ) (is : List ℕ) → T (is_init t s) → Sequence t is → T (not (is_goal t (run t s is)))

-- no sequence from an initial state to a goal state passes a state of the set, its first and last state included
abbrev pub Dead : Task → (ℕ → Bool) → Type 0
Dead t set =
    (s : ℕ) (is : List ℕ) → T (is_init t s) → Sequence t is → T (is_goal t (run t s is))
    → T (every (λ x. not (set x)) (trace t s is))

-- a sequence from an initial state leads to s
abbrev pub Reachable : Task → ℕ → Type 0
Reachable t s = (i : ℕ) × (is : List ℕ) × T (is_init t i) × Sequence t is × (run t i is ≡ s)

-- at most k states are within reach: no list of so many different ones is longer
abbrev pub AtMostReachable : ℕ → Task → Type 0
AtMostReachable k t =
    (ss : List ℕ) → T (distinct ss) → ((s : ℕ) → T (member s ss) → Reachable t s) → length ss ≤ k

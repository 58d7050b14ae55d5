-- Stricter tasks (document 02, k): what may be altered in a task so that it allows no more.
-- Assumes nothing.
use Rattle.std.specs.Prelude.{◌≡◌, ℕ, Bool, false, ◌&&◌, ◌||◌, List, [], ◌∷◌, ◌++◌, eqb}
use Rattle.std.specs.Int.Bits.{bit_or}
use Rattle.task.specs.Facts.{all_on}
use Rattle.task.specs.Task.{Task}
use Rattle.task.specs.Reach.{every}
use Rattle.task.specs.declared.Action.{Action}

-- ---- of two tasks, as a test

-- some element of the list passes the test
unfoldable pub any : {A : Type 0} → (A → Bool) → List A → Bool
any p [] = false
any p (x ∷ xs) = p x || any p xs

-- a has the needs of b, on and off, and perhaps more
unfoldable pub keeps_needs : Action → Action → Bool
keeps_needs a b = all_on b.pre a.pre && all_on b.off a.off

-- and the same effects
unfoldable pub needs_more : Action → Action → Bool
needs_more a b = keeps_needs a b && eqb a.add b.add && eqb a.del b.del

-- both masks of t's goal have the facts of u's, and perhaps more
unfoldable pub keeps_goal : Task → Task → Bool
keeps_goal t u = all_on u.goal t.goal && all_on u.off t.off

-- t is stricter than u: over the same facts and from the same initial states, its goal keeps u's masks, and each of its actions is one of
-- u's, perhaps with more needs. It says nothing of the order of the actions, nor of how often one stands there: a sequence names actions
-- as it likes, so neither changes what is reached. It allows no other facts, start or effects, of which k does not speak.
unfoldable pub stricter : Task → Task → Bool
stricter t u =
    eqb t.facts u.facts && eqb t.init u.init && eqb t.unknown u.unknown && keeps_goal t u
    && every (λ a. any (needs_more a) u.actions) t.actions

-- ---- as k says it, by single alterations

-- the action with needs added, these facts on and those off
unfoldable pub with_needs : Action → ℕ → ℕ → Action
with_needs a on off = record { pre = bit_or a.pre on; add = a.add; del = a.del; off = bit_or a.off off }

-- the task with other actions
unfoldable pub with_actions : Task → List Action → Task
with_actions t actions =
    record { facts = t.facts; init = t.init; unknown = t.unknown; goal = t.goal; off = t.off; actions = actions }

-- the task with facts added to the forbidden masks, to the one on and to the other off
unfoldable pub with_forbidden : Task → ℕ → ℕ → Task
with_forbidden t on off = record {
  facts = t.facts;
  init = t.init;
  unknown = t.unknown;
  goal = bit_or t.goal on;
  off = bit_or t.off off;
  actions = t.actions;
}

-- one alteration of t, which makes it u
pub data Altered (t u : Task) : Type 0 where
  -- an action is taken away
  taken_away : (xs ys : List Action) (a : Action) → t.actions ≡ xs ++ a ∷ ys → u ≡ with_actions t (xs ++ ys) → Altered t u
  -- needs are added to one
  needs_added : (xs ys : List Action) (a : Action) (on off : ℕ) → t.actions ≡ xs ++ a ∷ ys
      → u ≡ with_actions t (xs ++ with_needs a on off ∷ ys) → Altered t u
  -- facts are added to the forbidden masks
  facts_added : (on off : ℕ) → u ≡ with_forbidden t on off → Altered t u
  -- one is written once more, at any place: with the first this makes any order and any repeats
  repeated : (xs ys vs ws : List Action) (a : Action) → t.actions ≡ xs ++ a ∷ ys → t.actions ≡ vs ++ ws
      → u ≡ with_actions t (vs ++ a ∷ ws) → Altered t u

-- any number of them, one after the other
pub data Alterations (t : Task) : Task → Type 0 where
  unaltered : Alterations t t
  then : {u v : Task} → Alterations t u → Altered u v → Alterations t v

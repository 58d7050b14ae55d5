-- Which states and actions the entries hold, and when an inclusion is true.
-- Assumes nothing.
use Rattle.std.specs.Prelude.{ℕ, zero, suc, ◌^◌, Bool, true, false, not, ◌&&◌, ◌||◌, length, ltb, eqb}
use Rattle.std.specs.Int.Bits.{bit_and}
use Rattle.task.specs.Facts.{all_on}
use Rattle.task.specs.Task.{Task, action_at, is_init, is_goal, applies, after}
use Rattle.task.specs.Reach.{member, every}
use Rattle.meaning.specs.declared.Clause.{Clause}
use Rattle.meaning.specs.File.{ActionSet, all, listed, either, Basic, empty, init, goal, explicit, horn, two_cnf, StateSet, basic, complement, intersection, union, progression, regression, File, action_set_at, state_set_at}

-- the test passes at each number below k; at some number below k
unfoldable pub all_below : ℕ → (ℕ → Bool) → Bool
all_below zero t = true
all_below (suc k) t = elim (t k) [ true ↦ all_below k t | false ↦ false ]

unfoldable pub some_below : ℕ → (ℕ → Bool) → Bool
some_below zero t = false
some_below (suc k) t = elim (t k) [ true ↦ true | false ↦ some_below k t ]

-- a value for each entry, from the values of the entries that it names: after d rounds, and settled.
-- References name earlier entries, so entry e is settled after e + 1 rounds
unfoldable pub rounds : {R : Type 0} → ((ℕ → R) → ℕ → R) → R → ℕ → ℕ → R
rounds node none zero e = none
rounds node none (suc d) e = node (rounds node none d) e

unfoldable pub settled : {R : Type 0} → ((ℕ → R) → ℕ → R) → R → ℕ → R
settled node none e = rounds node none (suc e) e

-- ---- action sets

-- action i is in the entry, given what the entries that it names hold
unfoldable pub action_node : Task → (ℕ → ℕ → Bool) → ActionSet → ℕ → Bool
action_node t holds all i = ltb i (length t.actions)
action_node t holds (listed is) i = member i is
action_node t holds (either a b) i = holds a i || holds b i

-- action i is in action set a
unfoldable pub in_actions : File → ℕ → ℕ → Bool
in_actions f a = settled (λ holds a. action_node f.task holds (action_set_at f a)) (λ i. false) a

-- ---- state sets

-- some positive fact is on or some negative fact is off
unfoldable pub meets : ℕ → Clause → Bool
meets s c = not (eqb (bit_and s c.positive) 0) || not (all_on c.negative s)

unfoldable pub in_basic : Task → Basic → ℕ → Bool
in_basic t empty s = false
in_basic t init s = is_init t s
in_basic t goal s = is_goal t s
in_basic t (explicit ss) s = member s ss
in_basic t (horn cs) s = every (meets s) cs
in_basic t (two_cnf cs) s = every (meets s) cs

-- some action of `chosen` applies at s and leads into `target`
unfoldable pub some_action : Task → (ℕ → Bool) → ℕ → (ℕ → Bool) → Bool
some_action t chosen s target =
    some_below (length t.actions) (λ i. chosen i && applies (action_at t i) s && target (after (action_at t i) s))

-- S[A]: what the actions of A make of states in S where they apply
unfoldable pub progressed : Task → (ℕ → Bool) → (ℕ → Bool) → ℕ → Bool
progressed t states chosen s = some_below (2 ^ t.facts) (λ s₀. states s₀ && some_action t chosen s₀ (λ s₁. eqb s₁ s))

-- [A]S: the states from which some action of A applies and leads into S
unfoldable pub regressed : Task → (ℕ → Bool) → (ℕ → Bool) → ℕ → Bool
regressed t states chosen s = some_action t chosen s states

-- state s is in the entry, given what the entries that it names hold
unfoldable pub state_node : File → (ℕ → ℕ → Bool) → StateSet → ℕ → Bool
state_node f holds (basic b) s = in_basic f.task b s
state_node f holds (complement a) s = not (holds a s)
state_node f holds (intersection a b) s = holds a s && holds b s
state_node f holds (union a b) s = holds a s || holds b s
state_node f holds (progression a e) s = progressed f.task (holds a) (in_actions f e) s
state_node f holds (regression a e) s = regressed f.task (holds a) (in_actions f e) s

-- state s is in state set e
unfoldable pub in_set : File → ℕ → ℕ → Bool
in_set f e = settled (λ holds e. state_node f holds (state_set_at f e)) (λ s. false) e

-- ---- inclusions

-- every state below 2 ^ n that is in state set a is in state set b
unfoldable pub states_within : File → ℕ → ℕ → Bool
states_within f a b = all_below (2 ^ f.task.facts) (λ s. not (in_set f a s) || in_set f b s)

-- every action that is in action set a is in action set b
unfoldable pub actions_within : File → ℕ → ℕ → Bool
actions_within f a b = all_below (length f.task.actions) (λ i. not (in_actions f a i) || in_actions f b i)

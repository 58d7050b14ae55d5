-- What only inner promises use: a fact of a mask, the action that does nothing, and the task's ends as one value.
-- Assumes nothing.
use Rattle.std.specs.Prelude.{ℕ, ◌/◌, ◌%◌, ◌^◌, Bool, ◌&&◌, leb, eqb}
use Rattle.task.specs.Facts.{all_on, all_off, without, ones_in}
use Rattle.task.specs.Task.{Task}
use Rattle.task.specs.declared.Action.{Action}
use Rattle.task.specs.declared.Ends.{Ends}

-- 1 where fact f is on in m, 0 where it is off; and the same as a test
unfoldable pub bit : ℕ → ℕ → ℕ
bit f m = m / 2 ^ f % 2

unfoldable pub has : ℕ → ℕ → Bool
has m f = eqb (bit f m) 1

-- the action that does nothing and always applies
unfoldable pub no_action : Action
no_action = record { pre = 0; add = 0; del = 0; off = 0 }

-- a task's ends; `is_init`, which tasks have few initial states, and `is_goal` by them
unfoldable pub ends_of : Task → Ends
ends_of t = record { facts = t.facts; init = t.init; unknown = t.unknown; goal = t.goal; off = t.off }

unfoldable pub at_init : Ends → ℕ → Bool
at_init e s = eqb (without s e.unknown) (without e.init e.unknown)

-- at most 12 facts are unknown
unfoldable pub few_unknown : Ends → Bool
few_unknown e = leb (ones_in 64 e.unknown) 12

unfoldable pub at_goal : Ends → ℕ → Bool
at_goal e s = all_on e.goal s && all_off e.off s

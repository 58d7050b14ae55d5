-- The numbers of the task's head, by the version.
-- Assumes nothing.
use mathlib.Core.Path.{◌≡◌, sym, ap, ◌∙◌}
use Prim.Native.Nat.{ℕ, ◌+◌}
use mathlib.Core.List.{List}
use Rattle.file_numbers.specs.Numbers.{number_at}
use Rattle.reader.specs.declared.TaskHead.{TaskHead}
use Rattle.reader.specs.Heads.{task_head_at}
use Rattle.meaning.specs.Layout.{goal_at, off_size, action_count_at}
use Rattle.meaning.proofs.Places.{places}

module _ (bytes : List ℕ) (v span off : ℕ) {h : TaskHead} (s : 6 + span ≡ goal_at v) (o : off ≡ off_size v)
    (e : h ≡ task_head_at bytes span off) where
  pub head_goal : h.goal ≡ number_at 8 bytes (goal_at v)
  head_goal = (λ i. (e i).goal) ∙ ap (number_at 8 bytes) s

  pub head_actions : h.actions ≡ number_at 2 bytes (action_count_at v)
  head_actions = (λ i. (e i).actions) ∙ (λ i. number_at 2 bytes (s i + 8 + o i)) ∙ ap (number_at 2 bytes) (sym (places v).next)

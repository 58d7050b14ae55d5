-- `layout::goal_off` meets its contract.
-- Assumes nothing.
use mathlib.Core.Path.{sym, ap, ◌∙◌}
use Prim.Native.Nat.{ℕ, ◌+◌}
use Rattle.file_numbers.specs.Numbers.{number_at}
use Rattle.layout.proofs.TaskLaws.{goal_off_none, goal_off_some}
use Rattle.layout.proofs.goal_off.Goals as goal

pub returns-then-off_size-eq0 : goal.returns-then-off_size-eq0
returns-then-off_size-eq0 c = goal_off_none _ _ (sym c.off_size.ensures ∙ c.if-off_size-eq0.true)

pub returns-else-off_size-eq0 : goal.returns-else-off_size-eq0
returns-else-off_size-eq0 c =
    let bytes = c.args.file.now in
    c.u64_at.ensures
    ∙ ap (λ (p : ℕ). number_at 8 bytes (p + 8)) c.goal_at.ensures
    ∙ goal_off_some bytes _ (λ z. c.if-off_size-eq0.false (c.off_size.ensures ∙ z))

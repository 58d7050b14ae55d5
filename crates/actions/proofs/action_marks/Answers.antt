-- `actions::action_marks`: the walk from entry a down to entry 0.
-- Assumes nothing.
use native.Mathlib.Omega.{arith}
use Rattle.actions.proofs.SearchLaws.{looking_first}
use Rattle.actions.proofs.EntryActions.{small}
use Rattle.actions.proofs.action_marks.Goals as goal

pub with_mark-requires : goal.with_mark-requires
with_mark-requires c = small _ _ c.args.file.now.known c.args.a c.requires

pub overflow_step-e : goal.overflow_step-e
overflow_step-e c = let h = small _ _ c.args.file.now.known c.args.a c.requires in omega arith

pub loop-e-init : goal.loop-e-init
loop-e-init c = looking_first _ c.args.a _ (small _ _ c.args.file.now.known c.args.a c.requires) c.with_mark.ensures

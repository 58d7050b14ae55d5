-- `marks::is_marked`: the mark of a number in its word.
-- Assumes nothing.
use mathlib.Core.Path.{refl}
use Rattle.task.specs.Inner.{bit, has}
use Rattle.actions.specs.Marks.{marked}
use Rattle.actions.proofs.marks.is_marked.Goals as goal

pub returns : goal.returns
unfolding marked has bit
returns c = refl

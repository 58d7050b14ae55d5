-- `trees::Leaves::all` meets its contract: the call's result is the test's over the entries.
-- Assumes nothing.
use mathlib.Core.Path.{ap, ◌∙◌}
use Rattle.std.proofs.Common.{rules, tests}
use Rattle.std.proofs.lemmas.Iterator.{YieldsList-from_slice}
use Rattle.std.proofs.lemmas.Iterator.Search.{all_from_yields_List}
use Rattle.task.specs.Reach.{every}
use Rattle.trees.proofs.TreeLaws.{every_all}
use Rattle.trees.proofs.Leaves.all.Goals as goal

pub returns : goal.returns
returns g c = λ t h.
    all_from_yields_List t _ _ _ c.all.ensures.ran (YieldsList-from_slice _ cc) (λ x b q k. (search (rules, tests, h))) ∙ every_all t _
    ∙ ap (every t) c.entries.ensures

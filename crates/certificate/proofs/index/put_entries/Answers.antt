-- `index::put_entries` meets its contract: two fillings of a table of zeros, the second of which leaves the first as it is, and then the
-- rows, where the states of some set do not ascend.
-- Assumes nothing.
use mathlib.Core.Path.{refl}
use borrow.Author.Tests.{not-false}
use Rattle.task.proofs.Tests.{holds}
use Rattle.certificate.proofs.OrderLaws.{to_order, known_ascending, to_order_marked, known_rows}
use Rattle.std.proofs.lemmas.Bool.{not_from_true}
use Rattle.certificate.proofs.index.put_entries.Goals as goal

pub all_ascend-requires : goal.all_ascend-requires
all_ascend-requires c =
    to_order c.requires.0 c.requires.1 c.requires.2 c.index_entries.ensures c.index_entries-2.ensures

pub order_sets-requires : goal.order_sets-requires
order_sets-requires c =
    to_order_marked c.requires.0 c.requires.1 c.requires.2 c.index_entries.ensures c.index_entries-2.ensures refl

pub returns-then-not-all_ascend : goal.returns-then-not-all_ascend
returns-then-not-all_ascend c =
    known_rows c.requires.0 c.requires.1 c.requires.2 c.index_entries.ensures c.index_entries-2.ensures refl
    c.order_sets.ensures

pub returns-else-not-all_ascend : goal.returns-else-not-all_ascend
returns-else-not-all_ascend c =
    let b = c.all_ascend.result in
    known_ascending c.requires.0 c.requires.1 c.requires.2 c.index_entries.ensures c.index_entries-2.ensures
    (c.all_ascend.ensures.0 (holds {b = b} (not-false b (not_from_true _ c.if-not-all_ascend.false))))

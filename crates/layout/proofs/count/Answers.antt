-- `layout::count` meets its contract.
-- Assumes nothing.
use mathlib.Core.Path.{sym, ap}
use Rattle.meaning.specs.Told.{told}
use Rattle.layout.proofs.SectionChecks.{count_cut, count_in, count_out}
use Rattle.layout.proofs.count.Goals as goal

pub returns-then-not-inside : goal.returns-then-not-inside
returns-then-not-inside c =
    let a = c.args in
    sym (ap (told _) (count_cut a.file.now a.low a.high a.place c.inside.ensures c.if-not-inside.true))

pub returns-then-not-low-c : goal.returns-then-not-low-c
returns-then-not-low-c c =
    let a = c.args in
    sym (ap (told _) (count_out a.file.now a.low a.high a.place c.inside.ensures c.if-not-inside.false c.u16_at-c.ensures c.if-not-low-c.true))

pub returns : goal.returns
returns c =
    let a = c.args in
    sym (ap (told _) (count_in a.file.now a.low a.high a.place c.inside.ensures c.if-not-inside.false c.u16_at-c.ensures c.if-not-low-c.false))

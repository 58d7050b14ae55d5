-- `layout::rows::steps` meets its contract.
-- Assumes nothing.
use mathlib.Core.Path.{sym}
use Prim.Native.Nat.{ℕ, ◌+◌, ◌-◌, ◌*◌, ◌/◌}
use native.Mathlib.Omega.{arith}
use borrow.Author.Rules.{rules}
use lib.ListN.{length}
use Rattle.meaning.specs.Result.{refuse, found}
use Rattle.meaning.specs.Layout.{items, step}
use Rattle.layout.proofs.ToldLaws.{told_same}
use Rattle.layout.proofs.SectionChecks.{steps_in, steps_cut}
use Rattle.layout.proofs.rows.steps.Goals as goal

pub returns-then-whole-count : goal.returns-then-whole-count
returns-then-whole-count c =
    let a = c.args in
    let whole : ℕ = (length a.file.now - a.place) / 12 in
    sym (told_same {B = Unit {0}} _ (items (step a.file.now) 12 a.place a.count) (refuse 3 (a.place + 12 * whole))
    (steps_cut a.file.now a.count whole a.place (search rules) (omega arith) (omega arith)))

pub returns : goal.returns
returns c =
    let a = c.args in
    sym (told_same {B = Unit {0}} _ (items (step a.file.now) 12 a.place a.count) (found (tt {0}))
    (steps_in a.file.now a.count a.place (omega arith)))

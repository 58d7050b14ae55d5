-- `layout::counted` meets its contract.
-- Assumes nothing.
use mathlib.Core.Path.{sym, ap, ◌∙◌}
use Prim.Native.Nat.{ℕ, ◌+◌}
use borrow.Author.Rules.{rules}
use mathlib.Core.List.{List}
use Rattle.meaning.specs.Told.{told}
use Rattle.meaning.specs.Layout.{count, entries}
use Rattle.entries.specs.Forms.{sets_of}
use Rattle.layout.specs.Sections.{section_at}
use Rattle.layout.proofs.ToldLaws.{told_is, told_stops, told_goes}
use Rattle.layout.proofs.SectionChecks.{count_is}
use Rattle.layout.proofs.counted.Goals as goal

pub returns-in_err-entries : goal.returns-in_err-entries
unfolding section_at
returns-in_err-entries c =
    let a = c.args in
    told_stops _ _ (count a.file.now 0 a.high a.place) _ c.count.ensures c.in_err-entries.was (search rules)

pub overflow_add-place : goal.overflow_add-place
overflow_add-place c =
    let a = c.args in
    let h = (count_is a.file.now 0 a.high a.place _ (told_is (count a.file.now 0 a.high a.place) c.count.ensures c.in_ok-entries.was)).1 in
    search rules

pub entries-requires : goal.entries-requires
entries-requires c =
    let a = c.args in
    ((count_is a.file.now 0 a.high a.place _ (told_is (count a.file.now 0 a.high a.place) c.count.ensures c.in_ok-entries.was)).1, c.requires)

pub returns : goal.returns
unfolding section_at
returns c =
    let a = c.args in
    told_goes _ _ (count a.file.now 0 a.high a.place) _ c.count.ensures c.in_ok-entries.was λ k k! e.
    c.entries.ensures
    ∙ ap (λ (j : ℕ). told (λ (x : List (sets_of a.file.now a.section).Item × ℕ). x.1) (entries a.file.now (sets_of a.file.now a.section).kinds 0 (a.place + 2) j))
    (sym e)

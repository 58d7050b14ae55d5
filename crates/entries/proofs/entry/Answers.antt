-- `entries::entry` meets its contract.
-- Assumes nothing.
use mathlib.Core.Path.{ap}
use Rattle.reader.specs.declared.EntryHead.{EntryHead}
use Prim.Native.Nat.{◌+◌, ◌-◌}
use native.Mathlib.Omega.{arith}
use Rattle.entries.specs.Forms.{forms_of}
use Rattle.entries.proofs.FormLaws.{section_alike}
use Rattle.entries.proofs.EntryChecks.{begun, kinded, entry_cut, entry_past, entry_ends, entry_none, entry_unknown}
use Rattle.entries.proofs.EntryChecks.{entry_unfit, entry_over, entry_part, entry_body}
use borrow.Author.Rules.{rules}
use Rattle.entries.proofs.entry.Goals as goal

pub returns-then-not-inside : goal.returns-then-not-inside
returns-then-not-inside c =
    let a = c.args in
    entry_cut a.file.now _ _ (section_alike a.file.now a.section a.i) a.place
    c.inside.ensures c.if-not-inside.true

pub returns-then-not-inside-2 : goal.returns-then-not-inside-2
returns-then-not-inside-2 c =
    let a = c.args in
    entry_past a.file.now _ _ (section_alike a.file.now a.section a.i) a.place
    c.inside.ensures c.if-not-inside.false (ap (λ (h : EntryHead). h.len) c.entry_head-head.ensures)
    c.inside-2.ensures c.if-not-inside-2.true

pub overflow_add-kind_at : goal.overflow_add-kind_at
overflow_add-kind_at c =
    let a = c.args in
    let b = begun a.file.now a.place c.inside.ensures c.if-not-inside.false (ap (λ (h : EntryHead). h.len) c.entry_head-head.ensures)
    c.inside-2.ensures c.if-not-inside-2.false in
    let h = entry_ends b in search rules

pub returns-then-len-lt1 : goal.returns-then-len-lt1
returns-then-len-lt1 c =
    let a = c.args in
    let b = begun a.file.now a.place c.inside.ensures c.if-not-inside.false (ap (λ (h : EntryHead). h.len) c.entry_head-head.ensures)
    c.inside-2.ensures c.if-not-inside-2.false in
    entry_none a.file.now _ _ (section_alike a.file.now a.section a.i) a.place b (search rules)

pub returns-in_default : goal.returns-in_default
returns-in_default c =
    let a = c.args in
    let b = begun a.file.now a.place c.inside.ensures c.if-not-inside.false (ap (λ (h : EntryHead). h.len) c.entry_head-head.ensures)
    c.inside-2.ensures c.if-not-inside-2.false in
    entry_unknown a.file.now _ _ (section_alike a.file.now a.section a.i) a.place b
    (search rules) (ap (λ (h : EntryHead). h.kind) c.entry_head-head.ensures) c.form_at.ensures c.in_default.is

pub returns-then-not-fits : goal.returns-then-not-fits
returns-then-not-fits c =
    let a = c.args in
    let b = begun a.file.now a.place c.inside.ensures c.if-not-inside.false (ap (λ (h : EntryHead). h.len) c.entry_head-head.ensures)
    c.inside-2.ensures c.if-not-inside-2.false in
    let k = kinded b (forms_of a.section a.i) (search rules) (ap (λ (h : EntryHead). h.kind) c.entry_head-head.ensures) c.form_at.ensures c.in-Some.is in
    entry_unfit a.file.now _ _ (section_alike a.file.now a.section a.i) a.place b
    k c.fits.ensures c.if-not-fits.true

pub returns-then-not-allows : goal.returns-then-not-allows
returns-then-not-allows c =
    let a = c.args in
    let b = begun a.file.now a.place c.inside.ensures c.if-not-inside.false (ap (λ (h : EntryHead). h.len) c.entry_head-head.ensures)
    c.inside-2.ensures c.if-not-inside-2.false in
    let k = kinded b (forms_of a.section a.i) (search rules) (ap (λ (h : EntryHead). h.kind) c.entry_head-head.ensures) c.form_at.ensures c.in-Some.is in
    entry_over a.file.now _ _ (section_alike a.file.now a.section a.i) a.place b
    k c.fits.ensures c.allows.ensures c.if-not-fits.false c.if-not-allows.true

pub slice_bounds-part-end : goal.slice_bounds-part-end
slice_bounds-part-end c =
    let a = c.args in
    let b = begun a.file.now a.place c.inside.ensures c.if-not-inside.false (ap (λ (h : EntryHead). h.len) c.entry_head-head.ensures)
    c.inside-2.ensures c.if-not-inside-2.false in
    let h = entry_ends b in search rules

pub overflow_add-part : goal.overflow_add-part
overflow_add-part c =
    let a = c.args in
    let b = begun a.file.now a.place c.inside.ensures c.if-not-inside.false (ap (λ (h : EntryHead). h.len) c.entry_head-head.ensures)
    c.inside-2.ensures c.if-not-inside-2.false in
    let h = entry_ends b in search rules

pub invariant_of-part : goal.invariant_of-part
invariant_of-part c =
    let a = c.args in
    let b = begun a.file.now a.place c.inside.ensures c.if-not-inside.false (ap (λ (h : EntryHead). h.len) c.entry_head-head.ensures)
    c.inside-2.ensures c.if-not-inside-2.false in
    let k = kinded b (forms_of a.section a.i) (search rules) (ap (λ (h : EntryHead). h.kind) c.entry_head-head.ensures) c.form_at.ensures c.in-Some.is in
    let len = c.entry_head-head.result.len in
    record {
      short = (entry_part a.file.now _ _ (section_alike a.file.now a.section a.i) a.place b k
          c.fits.ensures c.if-not-fits.false
          (a.place + 2 + len - (a.place + 3)) 65536 (omega arith) (search rules)).0;
    }

pub body-requires : goal.body-requires
body-requires c =
    let a = c.args in
    let b = begun a.file.now a.place c.inside.ensures c.if-not-inside.false (ap (λ (h : EntryHead). h.len) c.entry_head-head.ensures)
    c.inside-2.ensures c.if-not-inside-2.false in
    let k = kinded b (forms_of a.section a.i) (search rules) (ap (λ (h : EntryHead). h.kind) c.entry_head-head.ensures) c.form_at.ensures c.in-Some.is in
    let len = c.entry_head-head.result.len in
    (entry_part a.file.now _ _ (section_alike a.file.now a.section a.i) a.place b k
    c.fits.ensures c.if-not-fits.false
    (a.place + 2 + len - (a.place + 3)) 65536 (omega arith) (search rules)).1

pub returns : goal.returns
returns c =
    let a = c.args in
    let b = begun a.file.now a.place c.inside.ensures c.if-not-inside.false (ap (λ (h : EntryHead). h.len) c.entry_head-head.ensures)
    c.inside-2.ensures c.if-not-inside-2.false in
    let k = kinded b (forms_of a.section a.i) (search rules) (ap (λ (h : EntryHead). h.kind) c.entry_head-head.ensures) c.form_at.ensures c.in-Some.is in
    let len = c.entry_head-head.result.len in
    entry_body a.file.now _ _ (section_alike a.file.now a.section a.i) a.place b k
    c.fits.ensures c.allows.ensures
    c.if-not-fits.false c.if-not-allows.false
    (a.place + 2 + len - (a.place + 3)) (omega arith) c.body.ensures

-- `layout::rows::mask` meets its contract.
-- Assumes nothing.
use mathlib.Core.Path.{sym, ap, ◌∙◌}
use Rattle.file_numbers.proofs.ByteLaws.{inside_out}
use Rattle.meaning.specs.Told.{told}
use Rattle.bodies.proofs.FieldLaws.{mask_cut}
use Rattle.layout.proofs.rows.mask.Goals as goal

pub returns-then-not-inside : goal.returns-then-not-inside
returns-then-not-inside c =
    let a = c.args in
    sym (ap (told (λ _. tt)) (mask_cut a.file.now a.at a.facts c.inside.ensures c.if-not-inside.true))

pub mask-requires : goal.mask-requires
mask-requires c = inside_out 8 c.args.file.now c.args.at (sym c.inside.ensures ∙ c.if-not-inside.false)

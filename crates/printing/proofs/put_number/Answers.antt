-- `printing::put_number`: the digits are put, at most 20 of them.
-- Assumes nothing.
use mathlib.Core.Path.{refl, ap, ◌∙◌}
use mathlib.Core.List.{List, ◌++◌}
use Prim.Native.Nat.{ℕ}
use lib.ListN.{take}
use Rattle.io.specs.Digits.{last_digits}
use Rattle.printing.specs.Lines.{Numeral}
use Rattle.printing.proofs.put_number.Goals as goal

pub returns-clause-by_index : goal.returns-clause-by_index
unfolding Numeral
returns-clause-by_index c =
    let d = c.decimal-k in (
      last_digits 10 d.result c.args.n,
      ((d.result, (d.ensures.len, refl)), c.put.ensures.line_after ∙ ap (λ (t : List ℕ). take c.args.at c.args.line.now ++ t) d.ensures.digits),
    )

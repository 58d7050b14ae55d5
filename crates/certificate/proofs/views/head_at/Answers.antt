-- `views::head_at` meets its contract: it is made of the numbers that are read.
-- Assumes nothing.
use mathlib.Core.Path.{ap, ◌∙◌}
use Prim.Native.Nat.{ℕ, ◌+◌, ◌-◌}
use Rattle.certificate.specs.Views.{head_at}
use Rattle.file_numbers.proofs.ByteLaws.{read_in}
use borrow.Author.Rules.{rules}
use Rattle.certificate.proofs.views.head_at.Goals as goal

pub returns : goal.returns
unfolding head_at
returns c = λ i.
    let bytes = c.args.file.now in
    let p = c.args.at in
    let len = read_in 2 bytes p (search rules) c.u16_in.ensures in
    record {
      kind = read_in 1 bytes (p + 2) (search rules) c.byte_in.ensures i;
      at = p + 3;
      len = (c.saturating_sub.ensures ∙ ap (λ (n : ℕ). n - 1) len) i;
      first = read_in 2 bytes (p + 3) (search rules) c.u16_in-2.ensures i;
      second = read_in 2 bytes (p + 5) (search rules) c.u16_in-second.ensures i;
    }

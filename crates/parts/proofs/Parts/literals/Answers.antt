-- `parts::Parts::literals` meets its contract.
-- Assumes nothing.
use borrow.Author.Rules.{rules}
use Rattle.certificate.specs.Known.{decoded}
use Rattle.meaning.specs.Shapes.{is_basic, is_literal}
use Rattle.parts.specs.Written.{sides_in, literals_of}
use Rattle.parts.proofs.Parts.literals.Goals as goal

pub returns : goal.returns
unfolding literals_of sides_in
returns c =
    let f = decoded c.args.file.now.bytes.now in
    let outer = c.all-outer.ensures (is_literal f) (λ e r h. search (rules, h)) in
    let inner = c.all-inner.ensures (is_basic f) (λ e r h. search (rules, h)) in
    let right = c.all-right.ensures (is_literal f) (λ e r h. search (rules, h)) in
    cc

-- `bodies::states` meets its contract.
-- Assumes nothing.
use mathlib.Core.Path.{◌∙◌}
use Prim.Native.Nat.{◌/◌}
use borrow.Author.Rules.{rules}
use lib.ListN.{length}
use Rattle.meaning.specs.Layout.{mask}
use Rattle.bodies.specs.Faults.{fault_from}
use Rattle.bodies.proofs.Faults.{each_items}
use Rattle.bodies.proofs.states.Goals as goal

pub returns : goal.returns
returns c =
    let a = c.args in
    c.each.ensures (λ p. fault_from a.part.now.start (mask a.part.now.bytes.now a.facts p)) (λ i r h e. search rules)
    ∙ each_items a.part.now.start (mask a.part.now.bytes.now a.facts) 8 0 (length a.part.now.bytes.now / 8)

-- `numbering_of` meets its contract. The loop's invariant: the table has the rules of the first k bytes, none of which is a fault.
-- Assumes nothing.
use mathlib.Core.Path.{refl}
use lib.ListN.{get_or-replicate}
use borrow.Author.Rules.{rules}
use Rattle.numbering.proofs.ListLaws.{tabled_none, more, other_length, faulty, all_passed, whole_table}
use Rattle.numbering.proofs.numbering_of.Goals as goal

pub returns-then-place-ne28-clause-fault : goal.returns-then-place-ne28-clause-fault
returns-then-place-ne28-clause-fault c = other_length _ c.if-place-ne28.true

pub loop-k-init : goal.loop-k-init
loop-k-init c = (refl, tabled_none _ _ (λ x l. get_or-replicate 256 x 0 0 l))

pub returns-then-x-before-clause-fault : goal.returns-then-x-before-clause-fault
returns-then-x-before-clause-fault c =
    faulty _ c.loop-k.k _ (search rules) (search rules) c.loop-k.invariant.1 (search rules) c.if-x-before.true

pub loop-k-preserved : goal.loop-k-preserved
loop-k-preserved c =
    (search rules, more _ c.loop-k.k _ c.loop-k.invariant.1 (search rules) (search rules) c.loop-k.invariant.0 c.if-x-before.false)

pub returns-clause-lawful : goal.returns-clause-lawful
returns-clause-lawful c = all_passed _ c.loop-k.k _ c.loop-k.invariant.1 (search rules) (search rules)

pub returns-clause-stands : goal.returns-clause-stands
returns-clause-stands c = whole_table _ c.loop-k.k _ c.loop-k.invariant.1 (search rules) (search rules)

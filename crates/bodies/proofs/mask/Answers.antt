-- `bodies::mask` meets its contract.
-- Assumes nothing.
use mathlib.Core.Path.{ap}
use borrow.Author.Rules.{rules}
use Rattle.meaning.specs.Layout.{mask}
use Rattle.bodies.proofs.Faults.{forget, from_fine, from_refused}
use Rattle.bodies.proofs.FieldLaws.{mask_in, mask_high}
use Rattle.bodies.proofs.mask.Goals as goal

pub returns-then-all_facts-u64_at : goal.returns-then-all_facts-u64_at
returns-then-all_facts-u64_at c =
    let a = c.args in
    from_refused a.part.now.start (mask a.part.now.bytes.now a.facts a.at) 5 a.at
    (ap forget (mask_high a.part.now.bytes.now a.at c.all_facts.result a.facts c.all_facts.ensures c.u64_at.ensures (search rules) (search rules)
    (search rules)))

pub returns : goal.returns
returns c =
    let a = c.args in
    from_fine a.part.now.start (mask a.part.now.bytes.now a.facts a.at)
    (ap forget (mask_in a.part.now.bytes.now a.at c.all_facts.result a.facts c.all_facts.ensures c.u64_at.ensures (search rules) (search rules)
    (search rules)))

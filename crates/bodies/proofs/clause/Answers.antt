-- `bodies::clause` meets its contract.
-- Assumes nothing.
use mathlib.Core.Path.{◌≡◌, refl, sym, ◌∙◌, ap₂}
use Prim.Native.Nat.{◌+◌}
use borrow.Author.Rules.{rules}
use Rattle.meaning.specs.Layout.{mask, clause}
use Rattle.file_numbers.specs.ClauseRule.{clause_rule}
use Rattle.bodies.proofs.Faults.{from_stop, from_then, from_passed, from_failed}
use Rattle.bodies.proofs.FieldLaws.{mask_found}
use Rattle.bodies.proofs.clause.Goals as goal

pub returns-in_err-mask : goal.returns-in_err-mask
unfolding clause
returns-in_err-mask c =
    let a = c.args in
    from_stop a.part.now.start (mask a.part.now.bytes.now a.facts a.at) _ c.in_err-mask.was c.mask.ensures (search rules)

pub returns-in_err-mask-2 : goal.returns-in_err-mask-2
unfolding clause
returns-in_err-mask-2 c =
    let a = c.args in
    from_then a.part.now.start (mask a.part.now.bytes.now a.facts a.at) _ c.in_ok-mask.was c.mask.ensures λ x x!.
    from_stop a.part.now.start (mask a.part.now.bytes.now a.facts (a.at + 8)) _ c.in_err-mask-2.was c.mask-2.ensures (search rules)

pub returns-then-not-passes : goal.returns-then-not-passes
unfolding clause
returns-then-not-passes c =
    let a = c.args in
    from_then a.part.now.start (mask a.part.now.bytes.now a.facts a.at) _ c.in_ok-mask.was c.mask.ensures λ x x!.
    from_then a.part.now.start (mask a.part.now.bytes.now a.facts (a.at + 8)) _ c.in_ok-mask-2.was c.mask-2.ensures λ y y!.
    let p : x ≡ c.u64_at.result = mask_found a.part.now.bytes.now a.at a.facts (search rules) x! ∙ sym c.u64_at.ensures in
    let q : y ≡ c.u64_at-2.result = mask_found a.part.now.bytes.now (a.at + 8) a.facts (search rules) y! ∙ sym c.u64_at-2.ensures in
    from_failed a.part.now.start 7 a.at _
    (ap₂ (clause_rule a.two) p q ∙ sym c.passes.ensures ∙ c.if-not-passes.true)

pub returns : goal.returns
unfolding clause
returns c =
    let a = c.args in
    from_then a.part.now.start (mask a.part.now.bytes.now a.facts a.at) _ c.in_ok-mask.was c.mask.ensures λ x x!.
    from_then a.part.now.start (mask a.part.now.bytes.now a.facts (a.at + 8)) _ c.in_ok-mask-2.was c.mask-2.ensures λ y y!.
    let p : x ≡ c.u64_at.result = mask_found a.part.now.bytes.now a.at a.facts (search rules) x! ∙ sym c.u64_at.ensures in
    let q : y ≡ c.u64_at-2.result = mask_found a.part.now.bytes.now (a.at + 8) a.facts (search rules) y! ∙ sym c.u64_at-2.ensures in
    from_passed a.part.now.start 7 a.at _
    (ap₂ (clause_rule a.two) p q ∙ sym c.passes.ensures ∙ c.if-not-passes.false) refl

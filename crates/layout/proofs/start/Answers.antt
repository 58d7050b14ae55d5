-- `layout::start` meets its contract.
-- Assumes nothing.
use mathlib.Core.Path.{sym, ◌∙◌}
use borrow.Author.Rules.{rules}
use borrow.Author.Tests.{not-true, not-false}
use Rattle.layout.proofs.TaskLaws.{start_one, start_bad, start_clash, start_good}
use Rattle.layout.proofs.start.Goals as goal

pub returns-then-not-has_unknown : goal.returns-then-not-has_unknown
returns-then-not-has_unknown c =
    let a = c.args in
    start_one a.file.now a.version a.facts (not-false _ (sym c.has_unknown.ensures ∙ c.if-not-has_unknown.true)) c.masks.ensures

pub returns-in_err-masks : goal.returns-in_err-masks
returns-in_err-masks c =
    let a = c.args in
    start_bad a.file.now a.version a.facts (not-true _ (sym c.has_unknown.ensures ∙ c.if-not-has_unknown.false)) c.masks-2.ensures
    c.in_err-masks.was (search rules)

pub returns-then-u64_at-ne0 : goal.returns-then-u64_at-ne0
returns-then-u64_at-ne0 c =
    let a = c.args in
    start_clash a.file.now a.version a.facts (not-true _ (sym c.has_unknown.ensures ∙ c.if-not-has_unknown.false)) c.masks-2.ensures
    c.in_ok-masks.was c.u64_at.ensures c.u64_at-2.ensures c.if-u64_at-ne0.true

pub returns : goal.returns
returns c =
    let a = c.args in
    start_good a.file.now a.version a.facts (not-true _ (sym c.has_unknown.ensures ∙ c.if-not-has_unknown.false)) c.masks-2.ensures
    c.in_ok-masks.was c.u64_at.ensures c.u64_at-2.ensures c.if-u64_at-ne0.false

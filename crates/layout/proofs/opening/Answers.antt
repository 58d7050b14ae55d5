-- `layout::opening` meets its contract.
-- Assumes nothing.
use mathlib.Core.Path.{sym, ap}
use Rattle.meaning.specs.Told.{told}
use Rattle.layout.proofs.TaskLaws.{version_cut, version_other, facts_cut, facts_bad, facts_good}
use Rattle.layout.proofs.opening.Goals as goal

pub returns-then-not-inside : goal.returns-then-not-inside
returns-then-not-inside c = sym (ap (told _) (version_cut c.args.file.now c.inside.ensures c.if-not-inside.true))

pub returns-then-not-version : goal.returns-then-not-version
returns-then-not-version c =
    sym (ap (told _) (version_other c.args.file.now c.inside.ensures c.if-not-inside.false c.byte_at-version.ensures c.if-not-version.true))

pub returns-then-not-inside-2 : goal.returns-then-not-inside-2
returns-then-not-inside-2 c =
    sym (ap (told _) (facts_cut c.args.file.now c.inside.ensures c.if-not-inside.false c.byte_at-version.ensures c.if-not-version.false
    c.inside-2.ensures c.if-not-inside-2.true))

pub returns-then-not-facts : goal.returns-then-not-facts
returns-then-not-facts c =
    sym (ap (told _) (facts_bad c.args.file.now c.inside.ensures c.if-not-inside.false c.byte_at-version.ensures c.if-not-version.false
    c.inside-2.ensures c.if-not-inside-2.false c.byte_at-facts.ensures c.if-not-facts.true))

pub returns : goal.returns
returns c =
    sym (ap (told _) (facts_good c.args.file.now c.inside.ensures c.if-not-inside.false c.byte_at-version.ensures c.if-not-version.false
    c.inside-2.ensures c.if-not-inside-2.false c.byte_at-facts.ensures c.if-not-facts.false))

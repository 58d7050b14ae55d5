-- `question::is_shallow`: each call of itself asks for one level less.
-- Assumes nothing.
use borrow.Author.Rules.{rules}
use mathlib.Core.Path.{sym, ap₂, ◌∙◌}
use mathlib.Core.Bool.{◌&&◌}
use Rattle.meaning.specs.Sets.{rounds}
use Rattle.meaning.specs.Question.{shallow_node, shallow}
use Rattle.holding.proofs.AskLaws.{seen, shallow_at}
use Rattle.question.proofs.+is_shallow.Goals as goal

pub returns-then-d-eq0 : goal.returns-then-d-eq0
unfolding shallow rounds
returns-then-d-eq0 t c = rw c.if-d-eq0.true (search rules)

pub returns-in-Basic : goal.returns-in-Basic
unfolding shallow_node
returns-in-Basic t c =
    let x = c.args in
    let v = seen _ _ c.args.file.now.known x.e _ c.state_set.ensures _ c.in-Basic.is in
    sym (shallow_at _ _ c.args.file.now.known x.e _ v.1 x.d c.if-d-eq0.false)

pub returns-in-Complement : goal.returns-in-Complement
unfolding shallow_node
returns-in-Complement t c =
    let x = c.args in
    let v = seen _ _ c.args.file.now.known x.e _ c.state_set.ensures _ c.in-Complement.is in
    c.is_shallow.ensures ∙ sym (shallow_at _ _ c.args.file.now.known x.e _ v x.d c.if-d-eq0.false)

pub returns-in-Intersection : goal.returns-in-Intersection
unfolding shallow_node
returns-in-Intersection t c =
    let x = c.args in
    let v = seen _ _ c.args.file.now.known x.e _ c.state_set.ensures _ c.in-Intersection.is in
    ap₂ ◌&&◌ c.is_shallow-in-Intersection.ensures c.is_shallow-in-Intersection-2.ensures ∙ sym (shallow_at _ _ c.args.file.now.known x.e _ v x.d c.if-d-eq0.false)

pub returns-in-Union : goal.returns-in-Union
unfolding shallow_node
returns-in-Union t c =
    let x = c.args in
    let v = seen _ _ c.args.file.now.known x.e _ c.state_set.ensures _ c.in-Union.is in
    ap₂ ◌&&◌ c.is_shallow-in-Union.ensures c.is_shallow-in-Union-2.ensures ∙ sym (shallow_at _ _ c.args.file.now.known x.e _ v x.d c.if-d-eq0.false)

pub returns-in-Progression : goal.returns-in-Progression
unfolding shallow_node
returns-in-Progression t c =
    let x = c.args in
    let v = seen _ _ c.args.file.now.known x.e _ c.state_set.ensures _ c.in-Progression.is in
    sym (shallow_at _ _ c.args.file.now.known x.e _ v x.d c.if-d-eq0.false)

pub returns-in-Regression : goal.returns-in-Regression
unfolding shallow_node
returns-in-Regression t c =
    let x = c.args in
    let v = seen _ _ c.args.file.now.known x.e _ c.state_set.ensures _ c.in-Regression.is in
    c.is_shallow-in-Regression.ensures ∙ sym (shallow_at _ _ c.args.file.now.known x.e _ v x.d c.if-d-eq0.false)

-- `listed::Statement::next_open` meets its contract.
-- Assumes nothing.
use mathlib.Core.Path.{ap, sym, ◌∙◌}
use borrow.Author.Rules.{rules}
use Rattle.listed.specs.Told.{shows}
use Rattle.membership.proofs.LoopLaws.{some_more}
use Rattle.listed.proofs.ShownLaws.{shows_not_applies, trailed}
use Rattle.listed.proofs.Statement.next_open.Goals as goal
use Rattle.listed.proofs.Statement.next_open.Goals.{else-applies-via-then-applies+else-not-has, else-applies-via-else-applies}

pub loop-i-preserved : goal.loop-i-preserved
loop-i-preserved c = (
  some_more _ _ c.loop-i.invariant.0
      (ap (shows c.args.self.now) (sym c.state-s.ensures) ∙ elim c.else-applies.branch [
        | else-applies-via-then-applies+else-not-has w ↦ trailed c.args.self.now c.loop-i.trail.into c.loop-i.invariant.1 _ w.after.ensures
            (w.has.ensures.found (search (rules, w.if-not-has.false)))
        | else-applies-via-else-applies w ↦ shows_not_applies _ _ _ _ _ _ _ (sym c.applies.ensures ∙ w.if-applies.false)
      ]),
  elim c.else-applies.branch [
    | else-applies-via-then-applies+else-not-has w ↦ search (rules, w.trail-is, w.has.ensures.same, c.loop-i.invariant.1)
    | else-applies-via-else-applies w ↦ search (rules, w.trail-is, c.loop-i.invariant.1)
  ],
)

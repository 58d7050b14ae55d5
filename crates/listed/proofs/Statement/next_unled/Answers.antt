-- `listed::Statement::next_unled` meets its contract.
-- Assumes nothing.
use mathlib.Core.Path.{◌∙◌}
use borrow.Author.Rules.{rules}
use native.Mathlib.Omega.{arith}
use Prim.Native.Nat.{◌-◌}
use lib.Bits.{and_le_l}
use Rattle.listed.specs.Told.{Led}
use Rattle.listed.proofs.InitialLaws.{less_le, passed_next, passed_all}
use Rattle.listed.proofs.ShownLaws.{trailed}
use Rattle.task.proofs.Submasks.{below_within}
use Rattle.listed.proofs.Statement.next_unled.Goals as goal

pub overflow_sub-top : goal.overflow_sub-top
overflow_sub-top c = less_le _ _ _ c.loop-trail.invariant.1 c.requires.within.0

pub returns-then-d-eq0 : goal.returns-then-d-eq0
returns-then-d-eq0 c =
    let l = c.loop-trail in
    passed_all _ _ (Led c.args.self.now) _ _ c.if-d-eq0.true l.invariant.0
    (λ u e. trailed c.args.self.now l.trail.into l.invariant.3 u (c.after.ensures ∙ e) (c.has.ensures.found (search (rules, c.if-not-has.false))))

pub loop-trail-preserved : goal.loop-trail-preserved
loop-trail-preserved c =
    let l = c.loop-trail in (
      passed_next _ _ (Led c.args.self.now) _ l.d l.invariant.1 l.invariant.0
          (λ u e. trailed c.args.self.now l.trail.into l.invariant.3 u (c.after.ensures ∙ e) (c.has.ensures.found (search (rules, c.if-not-has.false)))),
      below_within c.args.mask l.d,
      omega (arith, and_le_l (l.d - 1) c.args.mask, l.invariant.2),
      search (rules, c.has.ensures.same, l.invariant.3),
    )

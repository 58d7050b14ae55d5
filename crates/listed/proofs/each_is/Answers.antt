-- `listed::each_is` meets its contract.
-- Assumes nothing.
use mathlib.Core.Path.{sym, ◌∙◌}
use mathlib.Core.Bool.{Bool, false, true, ◌||◌}
use mathlib.Core.Path.{◌≡◌, refl}
use borrow.Author.Rules.{rules}
use borrow.Author.Tests.{not-true, not-false}
use Rattle.membership.proofs.LoopLaws.{all_none, all_more, all_fails}
use Rattle.listed.proofs.ShownLaws.{told_at}
use Rattle.listed.proofs.each_is.Goals as goal
use Rattle.listed.proofs.each_is.Goals.{else-ne-via-then-ne+else-holds_one-holds, else-ne-via-else-ne}

neither : {a b : Bool} → a ≡ false → b ≡ false → (a || b) ≡ false
neither e q = rw (e, q) refl

first : {a : Bool} (b : Bool) → a ≡ true → (a || b) ≡ true
first b e = rw e refl

second : (a : Bool) {b : Bool} → b ≡ true → (a || b) ≡ true
second true e = refl
second false e = e

pub loop-j-init : goal.loop-j-init
loop-j-init c = all_none _

pub returns-then-holds_one-holds : goal.returns-then-holds_one-holds
returns-then-holds_one-holds c =
    all_fails _ _ c.loop-j.j (search rules)
    (neither (not-true _ (sym c.if-ne.ensures))
    (told_at _ _ _ _ _ _ _ _ (search rules) c.holds_one.ensures ∙ not-true _ c.if-holds_one-holds.true))

pub loop-j-preserved : goal.loop-j-preserved
loop-j-preserved c =
    all_more _ _ c.loop-j.invariant
    (elim c.else-ne.branch [
      | else-ne-via-then-ne+else-holds_one-holds w ↦
          second _ (told_at _ _ _ _ _ _ _ _ (search rules) w.holds_one.ensures ∙ not-false _ w.if-holds_one-holds.false)
      | else-ne-via-else-ne w ↦ first _ (not-false _ (sym c.ne.ensures ∙ w.if-ne.false))
    ])

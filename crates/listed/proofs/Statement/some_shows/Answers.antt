-- `listed::Statement::some_shows` meets its contract.
-- Assumes nothing.
use Prim.Native.Nat.{ℕ}
use mathlib.Core.Path.{◌≡◌, subst, sym, ◌∙◌}
use mathlib.Core.Bool.{false}
use lib.Dec.{T}
use Rattle.task.proofs.Submasks.{below_within}
use Rattle.listed.specs.Told.{shows}
use Rattle.listed.specs.declared.Statement.{Statement}
use Rattle.listed.proofs.InitialLaws.{self_within, less_le, none_passed, passed_next, passed_each}
use Rattle.listed.proofs.Statement.some_shows.Goals as goal

-- a state does not show it
abbrev Silent : Statement → ℕ → Type 0
Silent x s = shows x s ≡ false

pub loop-s-init : goal.loop-s-init
loop-s-init c = (self_within _, none_passed _ _ (Silent c.args.self.now) _)

pub overflow_sub-s : goal.overflow_sub-s
overflow_sub-s c = less_le _ _ _ c.loop-s.invariant.0 c.requires.within

pub returns-then-e-eq0 : goal.returns-then-e-eq0
returns-then-e-eq0 c =
    let last = sym c.shows.ensures ∙ c.if-shows.false in
    let none = passed_each _ _ (Silent c.args.self.now) _ c.if-e-eq0.true c.loop-s.invariant.1 last in
    ((λ x. absurd x), (λ (e, w, h). subst T (none e w) h))

pub loop-s-preserved : goal.loop-s-preserved
loop-s-preserved c =
    let l = c.loop-s in (
      below_within c.args.mask l.e,
      passed_next _ _ (Silent c.args.self.now) _ l.e l.invariant.0 l.invariant.1 (sym c.shows.ensures ∙ c.if-shows.false),
    )

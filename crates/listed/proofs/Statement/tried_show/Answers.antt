-- `listed::Statement::tried_show` meets its contract.
-- Assumes nothing.
use Prim.Native.Nat.{ℕ, ◌-◌}
use mathlib.Core.Path.{◌≡◌, subst, sym}
use mathlib.Core.Bool.{Bool, false}
use lib.Dec.{T}
use Rattle.task.specs.Facts.{all_on}
use Rattle.task.proofs.Tests.{holds, is_true, is_false}
use Rattle.task.proofs.Submasks.{below_within}
use Rattle.listed.specs.declared.Statement.{Statement}
use Rattle.listed.specs.Search.{OneLess, Split, Passed}
use Rattle.listed.specs.Told.{shows, Led}
use native.Mathlib.Omega.{arith}
use lib.Bits.{and_le_l}
use Rattle.listed.proofs.InitialLaws.{self_within, less_le, none_passed, passed_next, passed_each, passed_rest, passed_on}
use Rattle.listed.proofs.InitialLaws.{kept_within, changed_within, tried_initial, tried_applies, tried_after, tried}
use Rattle.listed.proofs.ShownLaws.{shows_applies}
use Rattle.listed.proofs.Statement.tried_show.Goals as goal

-- none of the states that differ from s in changed facts shows it
abbrev Silent : Statement → ℕ → ℕ → Type 0
Silent x changed s = (e : ℕ) → T (all_on e changed) → shows x (s - e) ≡ false

silent : (x : Statement) (changed s : ℕ) {b : Bool} → (OneLess s changed (shows x) → T b) → b ≡ false → Silent x changed s
silent x changed s h q e w = is_false _ (λ t. subst T q (h (e, w, t)))

-- whatever changed facts are off, the action leads to the same state
module _ (x : Statement) (top kept changed : ℕ) (split : Split x.file.now.ends x.a top kept changed) where
  led_silent : (d : ℕ) → T (all_on d kept) → Led x (top - d) → Silent x changed (top - d)
  led_silent d h led e w = led (top - d - e) (sym (tried_after x.file.now.ends x.a _ _ _ split _ h e w))

  all_silent : (from r : ℕ) → Passed top kept (Led x) from r → Passed top kept (Silent x changed) from r
  all_silent from r p d w l m = led_silent d w (p d w l m)

pub loop-r-init : goal.loop-r-init
loop-r-init c = (none_passed _ _ (Silent c.args.self.now c.args.changed) _, self_within _)

pub next_unled-requires-clause-within : goal.next_unled-requires-clause-within
next_unled-requires-clause-within c =
    let x = c.args.self.now in (kept_within x.file.now.ends x.a _ _ _ c.requires.split, c.loop-r.invariant.1)

pub overflow_sub-top : goal.overflow_sub-top
overflow_sub-top c =
    let x = c.args.self.now in less_le _ _ _ c.in-Some.ensures.0 (kept_within x.file.now.ends x.a _ _ _ c.requires.split)

pub some_shows-requires-clause-within : goal.some_shows-requires-clause-within
some_shows-requires-clause-within c =
    let x = c.args.self.now in changed_within x.file.now.ends x.a _ _ _ c.requires.split _ c.in-Some.ensures.0

pub some_shows-requires-clause-alike : goal.some_shows-requires-clause-alike
some_shows-requires-clause-alike c =
    λ e w.
    let x = c.args.self.now in
    let ends = x.file.now.ends in
    let h = c.in-Some.ensures.0 in (
      is_true _ (tried_applies ends x.a _ _ _ c.requires.split _ h e w (holds c.requires.top)),
      sym (tried_after ends x.a _ _ _ c.requires.split _ h e w),
    )

pub returns-then-some_shows : goal.returns-then-some_shows
returns-then-some_shows c =
    let x = c.args.self.now in
    let (e, w, h) = c.some_shows.ensures.0 (holds c.if-some_shows.true) in
    ((λ _. (_, tried_initial x.file.now.ends x.a _ _ _ c.requires.split _ c.in-Some.ensures.0 e w, h)), (λ _. tt))

pub returns-then-r-eq0 : goal.returns-then-r-eq0
returns-then-r-eq0 c =
    let x = c.args.self.now in
    let l = c.in-Some.ensures in
    let here = silent x c.args.changed _ c.some_shows.ensures.1 c.if-some_shows.false in
    let above = passed_on _ _ (Silent x c.args.changed) _ _ _ c.loop-r.invariant.0 (all_silent x _ _ _ c.requires.split _ _ l.2) in
    let none = passed_each _ _ (Silent x c.args.changed) _ c.if-r-eq0.true above here in (
      (λ z. absurd z),
      (λ (y, i, h).
          let (d, k, (e, w, same)) = tried x.file.now.ends x.a _ _ _ c.requires.split y i (shows_applies _ _ _ _ _ _ y h) in
          subst T (none d k e w) (subst (λ (z : ℕ). T (shows x z)) (sym same) h)),
    )

pub loop-r-preserved : goal.loop-r-preserved
loop-r-preserved c =
    let x = c.args.self.now in
    let l = c.in-Some.ensures in
    let here = silent x c.args.changed _ c.some_shows.ensures.1 c.if-some_shows.false in
    let above = passed_on _ _ (Silent x c.args.changed) _ _ _ c.loop-r.invariant.0 (all_silent x _ _ _ c.requires.split _ _ l.2) in (
      passed_next _ _ (Silent x c.args.changed) _ c.in-Some.r l.0 above here,
      below_within c.args.kept c.in-Some.r,
    )

pub loop-r-smaller : goal.loop-r-smaller
loop-r-smaller c = omega (arith, and_le_l (c.in-Some.r - 1) c.args.kept, c.in-Some.ensures.1, c.if-r-eq0.false)

pub returns : goal.returns
returns c =
    let x = c.args.self.now in
    let led = rw c.in_default.is at c.next_unled.ensures in
    let none = passed_rest _ _ (Silent x c.args.changed) _ c.loop-r.invariant.0
    (λ d k l. led_silent x _ _ _ c.requires.split d k (led d k l)) in (
      (λ z. absurd z),
      (λ (y, i, h).
          let (d, k, (e, w, same)) = tried x.file.now.ends x.a _ _ _ c.requires.split y i (shows_applies _ _ _ _ _ _ y h) in
          subst T (none d k e w) (subst (λ (z : ℕ). T (shows x z)) (sym same) h)),
    )

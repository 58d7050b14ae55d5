-- Trying the actions of a set in turn: none of those tried so far is one that is looked for.
-- Assumes nothing.
use mathlib.Core.Path.{◌≡◌, sym, subst}
use mathlib.Core.Logic.{◌↔◌}
use Prim.Native.Nat.{ℕ, ◌+◌, ◌≤◌, ◌<◌}
use native.Mathlib.Omega.{arith}
use native.Mathlib.Decide.{dec_lt}
use mathlib.Core.Bool.{Bool, true, false}
use lib.ListN.{length}
use lib.Dec.{T}
use Rattle.task.specs.declared.Action.{Action}
use Rattle.task.specs.Task.{action_at}
use Rattle.meaning.specs.File.{File}
use Rattle.meaning.specs.Sets.{in_actions}
use Rattle.counterexample.specs.Counter.{ActionsOf}

-- none of the actions below i that are in set x is one of those that are looked for
pub record NoneYet (f : File) (x : ℕ) (Wanted : Action → Type 0) (i : ℕ) : Type 0 where
  pub none : (j : ℕ) → j < i → T (in_actions f x j) → Wanted (action_at f.task j) → ⊥

module _ {f : File} {x : ℕ} {Wanted : Action → Type 0} where
  pub none_yet : NoneYet f x Wanted 0
  none_yet = record { none = λ j l. absurd (omega arith) }

  none_more : (i : ℕ) → NoneYet f x Wanted i → (T (in_actions f x i) → Wanted (action_at f.task i) → ⊥) → NoneYet f x Wanted (i + 1)
  none_more i h k = record {
    none = λ j l. elim (dec_lt j i) [
      | yes m ↦ h.none j m
      | no m ↦ (let e : i ≡ j = omega arith in subst (λ (n : ℕ). T (in_actions f x n) → Wanted (action_at f.task n) → ⊥) e k)
    ];
  }

  -- the action was tried in vain; it is not of the set
  pub none_tried : (i : ℕ) (a : Action) (r : Bool) → NoneYet f x Wanted i → a ≡ action_at f.task i → T r ↔ Wanted a → r ≡ false
      → NoneYet f x Wanted (i + 1)
  none_tried i a r h e w q = none_more i h (λ m k. subst T q (w.1 (subst Wanted (sym e) k)))

  pub none_skipped : (i : ℕ) (r m : Bool) → NoneYet f x Wanted i → r ≡ m → m ≡ in_actions f x i → r ≡ false → NoneYet f x Wanted (i + 1)
  none_skipped i r m h e d q = none_more i h (λ t k. subst T q (subst T (sym e) (subst T (sym d) t)))

  pub none_found : (i : ℕ) → length f.task.actions ≤ i → NoneYet f x Wanted i → ((a : Action) × ActionsOf f x a × Wanted a) → ⊥
  none_found i l h (a, c, k) = h.none c.0 (omega (arith, c.1)) c.2 (subst Wanted c.3 k)

pub some_found : (f : File) (x : ℕ) (Wanted : Action → Type 0) (i : ℕ) (a : Action) (r : Bool) → i < length f.task.actions
    → T (in_actions f x i)
    → a ≡ action_at f.task i → T r ↔ Wanted a → r ≡ true → (a : Action) × ActionsOf f x a × Wanted a
some_found f x Wanted i a r l m e w q = (a, (i, l, m, e), w.0 (subst T (sym q) tt))

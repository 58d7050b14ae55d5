-- Laws of the names `is_init`, `is_goal`, `applies` and `after`: what every other crate knows of them. They are opened in this crate alone.
-- Assumes nothing.
use mathlib.Core.Path.{◌≡◌, refl, ap, ap₂}
use Prim.Native.Nat.{ℕ, ◌-◌, ◌^◌, ◌<◌}
use native.Mathlib.Omega.{arith}
use native.Mathlib.Decide.{dec_lt}
use lib.Bits.{bit_and, bit_or}
use lib.Count.{ones}
use lib.Dec.{T, leb, eqb, eqb→eq}
use Rattle.task.specs.Facts.{without, ones_in}
use Rattle.task.specs.Task.{Task, is_init, is_goal, applies}
use Rattle.task.specs.Inner.{bit, no_action, ends_of, at_init, few_unknown, at_goal}
use Rattle.task.specs.declared.Action.{Action}
use Rattle.task.specs.declared.Ends.{Ends}
use Rattle.task.proofs.Tests.{same}
use Rattle.task.proofs.Bits.{bit_le, bit_none, same_bits, bit_without, without_and, ones_are, AsTold, told_facts, told_of}
use Rattle.task.proofs.Bits.{told_never, told_at_once}

-- ---- the ends

pub init_ends : (t : Task) (s : ℕ) → is_init t s ≡ at_init (ends_of t) s
unfolding is_init at_init ends_of
init_ends t s = refl

pub few_ends : (t : Task) → leb (ones_in 64 t.unknown) 12 ≡ few_unknown (ends_of t)
unfolding few_unknown ends_of
few_ends t = refl

pub goal_ends : (t : Task) (s : ℕ) → is_goal t s ≡ at_goal (ends_of t) s
unfolding is_goal at_goal ends_of
goal_ends t s = refl

-- in code, among k facts
pub init_code : (k : ℕ) (e : Ends) (s : ℕ) → s < 2 ^ k → e.init < 2 ^ k → e.unknown < 2 ^ k
    → eqb (bit_and s (2 ^ k - 1 - e.unknown)) (bit_and e.init (2 ^ k - 1 - e.unknown)) ≡ at_init e s
unfolding at_init
init_code k e s h i u = ap₂ eqb (without_and k s e.unknown h u) (without_and k e.init e.unknown i u)

pub few_code : (e : Ends) → e.unknown < 2 ^ 64 → leb (ones e.unknown) 12 ≡ few_unknown e
unfolding few_unknown
few_code e u = ap (λ (n : ℕ). leb n 12) (ones_are 64 e.unknown u)

module _ (e : Ends) (s : ℕ) where
  -- the initial states, fact by fact
  pub at_init_facts : T (at_init e s) → (f : ℕ) → bit f e.unknown ≡ 0 → bit f s ≡ bit f e.init
  unfolding at_init
  at_init_facts h f z =
      let i = ap (bit f) (eqb→eq (without s e.unknown) (without e.init e.unknown) h) in
      omega (arith, bit_without f s e.unknown, bit_without f e.init e.unknown, bit_le f s, bit_le f e.init)

  pub at_init_of : ((f : ℕ) → bit f e.unknown ≡ 0 → bit f s ≡ bit f e.init) → T (at_init e s)
  unfolding at_init
  at_init_of h =
      same (same_bits (without s e.unknown) (without e.init e.unknown) (λ f. elim (dec_lt 0 (bit f e.unknown)) [
        | yes l ↦ omega (arith, bit_without f s e.unknown, bit_without f e.init e.unknown, bit_le f e.unknown)
        | no l ↦ let z : bit f e.unknown ≡ 0 = omega arith in
            omega (arith, h f z, bit_without f s e.unknown, bit_without f e.init e.unknown)
      ]))

  -- the goal's states
  pub at_goal_facts : T (at_goal e s) → (f : ℕ) → AsTold e.goal e.off s f
  unfolding at_goal
  at_goal_facts h = told_facts e.goal e.off s h

  pub at_goal_of : ((f : ℕ) → AsTold e.goal e.off s f) → T (at_goal e s)
  unfolding at_goal
  at_goal_of h = told_of e.goal e.off s h

-- ---- actions

module _ (a : Action) (s : ℕ) where
  pub applies_facts : T (applies a s) → (f : ℕ) → AsTold a.pre a.off s f
  unfolding applies
  applies_facts h = told_facts a.pre a.off s h

  pub applies_of : ((f : ℕ) → AsTold a.pre a.off s f) → T (applies a s)
  unfolding applies
  applies_of h = told_of a.pre a.off s h

  -- one that needs a fact on and off applies nowhere; of another one look at all it needs tells
  pub applies_never : 0 < bit_and a.pre a.off → T (applies a s) → ⊥
  unfolding applies
  applies_never l h = told_never a.pre a.off s l h

  pub applies_at_once_lem : bit_and a.pre a.off ≡ 0 → eqb (bit_and s (bit_or a.pre a.off)) a.pre ≡ applies a s
  unfolding applies
  applies_at_once_lem z = told_at_once a.pre a.off s z

-- ---- a goal with a fact in both masks has no state, and one without a fact has every state

pub goal_never : (t : Task) (s : ℕ) → 0 < bit_and t.goal t.off → T (is_goal t s) → ⊥
unfolding is_goal
goal_never t s l h = told_never t.goal t.off s l h

pub goal_everywhere : (t : Task) (s : ℕ) → t.goal ≡ 0 → t.off ≡ 0 → T (is_goal t s)
unfolding is_goal
goal_everywhere t s z w =
    told_of t.goal t.off s (λ f.
    (omega (arith, ap (bit f) z, bit_none f), omega (arith, ap (bit f) w, bit_none f, bit_le f s)))

-- the action that does nothing
pub nothing_applies : (s : ℕ) → T (applies no_action s)
unfolding no_action
nothing_applies s = applies_of no_action s (λ f. (omega (arith, bit_none f), omega (arith, bit_none f, bit_le f s)))

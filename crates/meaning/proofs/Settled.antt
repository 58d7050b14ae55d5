-- Where an entry's value is made of earlier entries' values alone, its settled value is made of settled values.
-- Assumes nothing.
use mathlib.Core.Path.{◌≡◌}
use Prim.Native.Nat.{ℕ, zero, suc, ◌<◌}
use native.Mathlib.Nat.{not-suc-le-zero, le_of_suc-le-suc, le_refl, lt_of_lt_of_le}
use Rattle.meaning.specs.Sets.{rounds, settled}

-- the value of entry e depends on those of earlier entries alone
abbrev pub ReadsEarlier : {R : Type 0} → ((ℕ → R) → ℕ → R) → Type 0
ReadsEarlier {R} node = (e : ℕ) (g h : ℕ → R) → ((a : ℕ) → a < e → g a ≡ h a) → node g e ≡ node h e

module _ {R : Type 0} (node : (ℕ → R) → ℕ → R) (none : R) (reads : ReadsEarlier node) where
  pub enough : (d d' e : ℕ) → e < d → e < d' → rounds node none d e ≡ rounds node none d' e
  unfolding rounds
  enough zero d' e h h' = absurd (not-suc-le-zero h)
  enough (suc d) zero e h h' = absurd (not-suc-le-zero h')
  enough (suc d) (suc d') e h h' =
      reads e (rounds node none d) (rounds node none d')
      (λ a l. enough d d' a (lt_of_lt_of_le l (le_of_suc-le-suc h)) (lt_of_lt_of_le l (le_of_suc-le-suc h')))

  pub settled_node : (e : ℕ) → settled node none e ≡ node (settled node none) e
  unfolding settled rounds
  settled_node e = reads e (rounds node none e) (settled node none) (λ a l. enough e (suc a) a l (le_refl (suc a)))

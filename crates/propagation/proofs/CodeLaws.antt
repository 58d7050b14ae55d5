-- A clause pulled through an action: the code's tests on masks, as what the definitions say.
-- Assumes nothing.
use Prim.Native.Nat.{ℕ}
use mathlib.Core.Path.{◌≡◌, refl, ap, ◌∙◌}
use mathlib.Core.Bool.{true, false}
use native.Mathlib.Omega.{arith}
use lib.Bits.{bit_and, bit_or, and_zero_r}
use borrow.Author.Tests.{eq-eqb}
use Rattle.task.specs.Facts.{without}
use Rattle.meaning.specs.declared.Clause.{Clause}
use Rattle.task.specs.Inner.{no_action}
use Rattle.propagation.specs.declared.Effect.{Effect}
use Rattle.propagation.specs.Clauses.{effect_of, met_by, pulled_by}
use Rattle.words.proofs.HitLaws.{neither}

-- the action that does nothing changes nothing
pub no_effect : record { add = 0; gone = 0; changed = 0 } ≡ effect_of no_action
unfolding effect_of no_action without
no_effect = refl

module _ (k : Effect) (c : Clause) where
  pub code_met : met_by k c ≡ true → record { positive = 1; negative = 1 } ≡ pulled_by k c
  unfolding pulled_by
  code_met t = rw (t, pulled_by)

  pub code_rest : met_by k c ≡ false → {p n : ℕ} → p ≡ without c.positive k.changed → n ≡ without c.negative k.changed
      → record { positive = p; negative = n } ≡ pulled_by k c
  unfolding pulled_by
  code_rest t u v = rw (u, v, t, pulled_by)

  -- an effect that does nothing
  pub code_same : bit_or (bit_or k.add k.gone) k.changed ≡ 0 → c ≡ pulled_by k c
  unfolding without met_by
  code_same e =
      let z = neither (bit_or k.add k.gone) k.changed e in
      let y = neither k.add k.gone z.0 in
      code_rest (rw (eq-eqb _ 0 (apart c.positive y.0), eq-eqb _ 0 (apart c.negative y.1)) refl)
      (omega (arith, apart c.positive z.1)) (omega (arith, apart c.negative z.1))
    where
      apart : (m : ℕ) {j : ℕ} → j ≡ 0 → bit_and m j ≡ 0
      apart m q = ap (bit_and m) q ∙ and_zero_r m

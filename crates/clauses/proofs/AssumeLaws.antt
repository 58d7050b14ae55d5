-- A clause is taken to fail, and the others settled again.
-- Assumes nothing.
use Prim.Native.Nat.{ℕ, max}
use mathlib.Core.Path.{◌≡◌}
use mathlib.Core.Bool.{Bool, true, false, not}
use native.Mathlib.Omega.{arith}
use native.Mathlib.Decide.{dec_lt}
use lib.Bits.{bit_and, bit_or}
use lib.Dec.{T}
use Rattle.task.proofs.Tests.{not_of}
use Rattle.task.specs.Inner.{bit}
use Rattle.task.proofs.Bits.{bit_le, bit_and_lem, bit_or_lem, no_bits}
use Rattle.std.specs.Prelude.{Option, Some, None}
use Rattle.meaning.specs.declared.Clause.{Clause}
use Rattle.propagation.specs.declared.Assignment.{Assignment}
use Rattle.meaning.specs.Sets.{meets}
use Rattle.propagation.specs.Propagation.{mask, holding, failing, value, Agrees, Alike, Meets, Going, NoneIn, Solved, OpposedTo, AssumedTo, Assumed}
use Rattle.propagation.proofs.OneFact.{off_in_lem}
use Rattle.propagation.proofs.ClauseLaws.{Has, met_by_lem, fails_by}
use Rattle.propagation.proofs.PassLaws.{going_more, going_under, alike}

-- a state that agrees with the later assignment agrees with the one before
pub agrees_before : (S : ℕ → Type 0) (x r : Assignment) (s : ℕ) → Going S x r → Agrees s r → Agrees s x
agrees_before S x r s u g =
    record {
      fits = g.fits;
      says = λ b f e. g.says b f (omega (arith, u.grows b f, bit_le f (holding b r)));
    }

-- ---- the opposite of a clause

module _ (x : Assignment) (c : Clause) where
  abbrev r : Assignment
  r =
      record {
        on = bit_or x.on c.negative;
        off = bit_or x.off c.positive;
      }

  now_holding : (b : Bool) (f : ℕ) → bit f (holding b r) ≡ max (bit f (holding b x)) (bit f (mask (not b) c))
  now_holding true f = bit_or_lem f x.on c.negative
  now_holding false f = bit_or_lem f x.off c.positive

  now_failing : (b : Bool) (f : ℕ) → Has c b f → bit f (failing b r) ≡ 1
  now_failing true f h = omega (arith, now_holding false f, bit_le f x.off)
  now_failing false f h = omega (arith, now_holding true f, bit_le f x.on)

  -- a state that agrees and fails the clause
  says : (s : ℕ) → T (not (meets s c)) → Agrees s x → (b : Bool) (f : ℕ) → bit f (holding b r) ≡ 1 → bit f s ≡ value b
  says s t g b f e =
      elim (dec_lt (bit f (holding b x)) 1) [
        | yes l ↦ by b (omega (arith, now_holding b f))
        | no l ↦ g.says b f (omega (arith, bit_le f (holding b x)))
      ]
    where
      by : (b : Bool) → bit f (mask (not b) c) ≡ 1 → bit f s ≡ value b
      by true h = fails_by s c t false f h
      by false h = fails_by s c t true f h

  -- no fact is on both masks
  pub opposed : bit_and r.on r.off ≡ 0 → OpposedTo c x r
  opposed e =
      record {
        goes =
            record {
              sound = λ s t g. record { fits = g.fits; says = says s t g };
              grows = λ b f. omega (arith, now_holding b f);
              apart = λ a f. omega (arith, bit_and_lem f r.on r.off, off_in_lem e f, bit_le f r.on, bit_le f r.off);
            };
        told = now_failing;
      }

  -- some fact is
  pub opposed_none : (bit_and r.on r.off ≡ 0 → ⊥) → NoneIn (λ s. T (not (meets s c))) x
  opposed_none n s t g = n (no_bits _ both)
    where
      h : (b : Bool) (f : ℕ) → bit f (holding b r) ≡ 1 → bit f s ≡ value b
      h = says s t g

      both : (f : ℕ) → bit f (bit_and r.on r.off) ≡ 0
      both f =
          elim (dec_lt (bit f r.on) 1) [
            | yes l ↦ omega (arith, bit_and_lem f r.on r.off)
            | no l ↦ elim (dec_lt (bit f r.off) 1) [
              | yes k ↦ omega (arith, bit_and_lem f r.on r.off)
              | no k ↦ absurd (omega (arith, h true f (omega (arith, bit_le f r.on)), h false f (omega (arith, bit_le f r.off))))
            ]
          ]

-- a state that agrees fails the clause
pub against : (c : Clause) (r : Assignment) → ((b : Bool) (f : ℕ) → Has c b f → bit f (failing b r) ≡ 1) → (s : ℕ) → Agrees s r
    → T (not (meets s c))
against c r told s g = not_of (meets s c) (λ t. never_met (met_by_lem s c t))
  where
    never_met : (b : Bool) × (f : ℕ) × Has c b f × (bit f s ≡ value b) → ⊥
    never_met (true, f, h, v) = omega (arith, g.says false f (told true f h))
    never_met (false, f, h, v) = omega (arith, g.says true f (told false f h))

-- ---- then the others

-- no state is left by a conflict at once
pub assumed_conflict : (P : Clause → Type 0) (c : Clause) {x : Assignment} → NoneIn (λ s. T (not (meets s c))) x
    → NoneIn (λ s. Meets P s × T (not (meets s c))) x
assumed_conflict P c n s m g = n s m.1 g

module _ (two : Bool) (P : Clause → Type 0) (c : Clause) (x y : Assignment) (o : OpposedTo c x y) where
  -- nothing new: no look is needed
  pub assumed_same : Alike two x y → AssumedTo two P c x y
  assumed_same e =
      record { goes = going_under (λ s p. p.1) o.goes; told = o.told; settled = λ h. alike two x y {P = P} e o.goes.grows h }

  pub assumed_solved : (r : Option Assignment) → Solved two P y r → Assumed two P c x r
  assumed_solved None v = λ s m g. v s m.0 (o.goes.sound s m.1 g)
  assumed_solved (Some r) v =
      record {
        goes = going_more (λ s p. (p.1, p.0)) o.goes v.goes;
        told = λ b f h. omega (arith, o.told b f h, v.goes.grows (not b) f, bit_le f (holding (not b) r));
        settled = λ h. v.settled;
      }

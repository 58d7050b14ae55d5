-- A step of propagation at one clause: what is left of it decides the case.
-- Assumes nothing.
use Prim.Native.Nat.{ℕ, ◌+◌, ◌-◌, ◌≤◌, ◌<◌, ◌^◌, min}
use mathlib.Core.Path.{◌≡◌, refl, sym, ap, subst, ◌∙◌}
use mathlib.Core.Bool.{Bool, true, false, not, true≢false}
use mathlib.Core.Logic.{◌⊎◌, inl, inr}
use native.Mathlib.Omega.{arith}
use native.Mathlib.Decide.{dec_lt}
use native.Mathlib.Nat.{le_refl, pos_of_ne-zero}
use lib.Bits.{bit_and, bit_or}
use lib.Dec.{T}
use Rattle.task.specs.Facts.{without}
use Rattle.task.specs.Inner.{bit}
use Rattle.task.proofs.Bits.{bit_le, bit_and_lem, bit_or_lem, bit_without}
use Rattle.meaning.specs.declared.Clause.{Clause}
use Rattle.propagation.specs.declared.Assignment.{Assignment}
use Rattle.meaning.specs.Sets.{meets}
use Rattle.propagation.specs.Clauses.{Only}
use Rattle.propagation.specs.Propagation.{mask, holding, failing, value, Agrees, Apart, Held, Wide, Meets, NoneIn, PassedTo}
use Rattle.propagation.proofs.OneFact.{off_in_lem, on_in, one_bit, two_bits}
use Rattle.propagation.proofs.ClauseLaws.{Has, met_by_lem}

same_or_not : (b a : Bool) → (b ≡ a) ⊎ (b ≡ not a)
same_or_not true true = inl refl
same_or_not true false = inr refl
same_or_not false true = inr refl
same_or_not false false = inl refl

-- an assignment that says more on one side
abbrev pub told : Bool → ℕ → Assignment → Assignment
told true m x = record { on = bit_or x.on m; off = x.off }
told false m x = record { on = x.on; off = bit_or x.off m }

told_grows : (a : Bool) (m : ℕ) (x : Assignment) (b : Bool) (f : ℕ) → bit f (holding b x) ≤ bit f (holding b (told a m x))
told_grows true m x true f = omega (arith, bit_or_lem f x.on m)
told_grows true m x false f = le_refl _
told_grows false m x true f = le_refl _
told_grows false m x false f = omega (arith, bit_or_lem f x.off m)

-- what it says, it said before, or is new
told_says : (a : Bool) (m : ℕ) (x : Assignment) (b : Bool) (f : ℕ) → bit f (holding b (told a m x)) ≡ 1
    → (bit f (holding b x) ≡ 1) ⊎ ((a ≡ b) × (bit f m ≡ 1))
told_says true m x true f e =
    elim (dec_lt (bit f x.on) 1) [ yes l ↦ inr (refl, omega (arith, bit_or_lem f x.on m)) | no l ↦ inl (omega (arith, bit_le f x.on)) ]
told_says true m x false f e = inl e
told_says false m x true f e = inl e
told_says false m x false f e =
    elim (dec_lt (bit f x.off) 1) [
      | yes l ↦ inr (refl, omega (arith, bit_or_lem f x.off m))
      | no l ↦ inl (omega (arith, bit_le f x.off))
    ]

told_new : (a : Bool) (m : ℕ) (x : Assignment) (f : ℕ) → bit f m ≡ 1 → bit f (holding a (told a m x)) ≡ 1
told_new true m x f e = omega (arith, bit_or_lem f x.on m, bit_le f x.on)
told_new false m x f e = omega (arith, bit_or_lem f x.off m, bit_le f x.off)

told_apart : (a : Bool) (m : ℕ) (x : Assignment) → ((f : ℕ) → bit f m + bit f (failing a x) ≤ 1) → Apart x → Apart (told a m x)
told_apart true m x h z f = omega (arith, bit_or_lem f x.on m, h f, z f)
told_apart false m x h z f = omega (arith, bit_or_lem f x.off m, h f, z f)

-- lp and ln are what is left of a clause of words: the literals that are not known to fail
pub record Left (x : Assignment) (c : Clause) (lp ln : ℕ) : Type 0 where
  pub positive_fits : c.positive < 2 ^ 64
  pub negative_fits : c.negative < 2 ^ 64
  pub positive_left : lp ≡ without c.positive x.off
  pub negative_left : ln ≡ without c.negative x.on

module _ {x : Assignment} {c : Clause} {lp ln : ℕ} (k : Left x c lp ln) where
  fits : (b : Bool) → mask b c < 2 ^ 64
  fits true = k.positive_fits
  fits false = k.negative_fits

  abbrev left : Bool → ℕ
  left true = lp
  left false = ln

  in_left : (b : Bool) (f : ℕ) → bit f (left b) ≡ min (bit f (mask b c)) (1 - bit f (failing b x))
  in_left true f = ap (bit f) k.positive_left ∙ bit_without f c.positive x.off
  in_left false f = ap (bit f) k.negative_left ∙ bit_without f c.negative x.on

  -- a literal that is left is one of the clause, and open
  is_left : (b : Bool) (f : ℕ) → bit f (left b) ≡ 1 → Has c b f × (bit f (failing b x) ≡ 0)
  is_left b f e = (omega (arith, in_left b f, bit_le f (mask b c)), omega (arith, in_left b f))

  -- a state that agrees and meets the clause does so by a literal that is left
  possible : (s : ℕ) → Agrees s x → T (meets s c) → (b : Bool) × (f : ℕ) × (bit f (left b) ≡ 1) × (bit f s ≡ value b)
  possible s g t = let r = met_by_lem s c t in (r.0, r.1, omega (arith, in_left r.0 r.1, r.2, alive r.0 r.1 r.3), r.3)
    where
      alive : (b : Bool) (f : ℕ) → bit f s ≡ value b → bit f (failing b x) ≡ 0
      alive true f v =
          elim (dec_lt (bit f x.off) 1) [
            | yes l ↦ omega arith
            | no l ↦ absurd (omega (arith, g.says false f (omega (arith, bit_le f x.off))))
          ]
      alive false f v =
          elim (dec_lt (bit f x.on) 1) [
            | yes l ↦ omega arith
            | no l ↦ absurd (omega (arith, g.says true f (omega (arith, bit_le f x.on))))
          ]

  same : Held x c ⊎ Wide x c → PassedTo true (Only c) x x
  same h =
      record {
        goes = record { sound = λ s m g. g; grows = λ b f. le_refl _; apart = λ a. a };
        looked = λ d q.
            record {
              seen = x;
              after = λ b f. le_refl _;
              until = λ b f. le_refl _;
              settled = subst (λ (d : Clause). Held x d ⊎ Wide x d) (sym q) h;
            };
      }

  -- a literal of the clause holds already
  pub met_already : (bit_or (bit_and c.positive x.on) (bit_and c.negative x.off) ≡ 0 → ⊥) → PassedTo true (Only c) x x
  met_already h =
      let r = on_in (bit_or (bit_and c.positive x.on) (bit_and c.negative x.off)) h in
      let f = r.0 in
      elim (dec_lt (bit f (bit_and c.positive x.on)) 1) [
        | yes l ↦
            let e : min (bit f c.negative) (bit f x.off) ≡ 1 =
            sym (bit_and_lem f c.negative x.off)
            ∙ omega (arith, r.1, bit_or_lem f (bit_and c.positive x.on) (bit_and c.negative x.off)) in
            let n = bit_le f c.negative in
            let o = bit_le f x.off in
            same (inl (record { side = false; fact = f; has = omega arith; holds = omega arith }))
        | no l ↦
            let e : min (bit f c.positive) (bit f x.on) ≡ 1 =
            sym (bit_and_lem f c.positive x.on) ∙ omega (arith, bit_le f (bit_and c.positive x.on)) in
            let p = bit_le f c.positive in
            let o = bit_le f x.on in
            same (inl (record { side = true; fact = f; has = omega arith; holds = omega arith }))
      ]

  wide : (a b : Bool) (f g : ℕ) → (a ≡ b → f ≡ g → ⊥) → bit f (left a) ≡ 1 → bit g (left b) ≡ 1 → PassedTo true (Only c) x x
  wide a b f g d u v =
      let k = is_left a f u in
      let l = is_left b g v in
      same (inr (record {
        fits = fits;
        side₁ = a;
        fact₁ = f;
        side₂ = b;
        fact₂ = g;
        differ = d;
        has₁ = k.0;
        has₂ = l.0;
        open₁ = k.1;
        open₂ = l.1;
      }))

  -- a literal is left on each side, or two on one
  pub stays_open : (lp ≡ 0 → ⊥) → (ln ≡ 0 → ⊥) → PassedTo true (Only c) x x
  stays_open h k = let u = on_in lp h in let v = on_in ln k in wide true false u.0 v.0 (λ e d. true≢false e) u.1 v.1

  pub stays_wide : (a : Bool) → (left a ≡ 0 → ⊥) → (bit_and (left a) (left a - 1) ≡ 0 → ⊥) → PassedTo true (Only c) x x
  stays_wide a some many =
      let r = two_bits (left a) (pos_of_ne-zero some) many in
      wide a a r.fact₁ r.fact₂ (λ e d. r.differ d) r.has₁ r.has₂

  -- no literal is left
  pub conflicting : lp ≡ 0 → ln ≡ 0 → NoneIn (Meets (Only c)) x
  conflicting zp zn s m g = none (possible s g (m c refl))
    where
      none : (b : Bool) × (f : ℕ) × (bit f (left b) ≡ 1) × (bit f s ≡ value b) → ⊥
      none (true, f, u, v) = omega (arith, off_in_lem zp f)
      none (false, f, u, v) = omega (arith, off_in_lem zn f)

  -- one literal is left
  pub forces : (a : Bool) → left (not a) ≡ 0 → (left a ≡ 0 → ⊥) → bit_and (left a) (left a - 1) ≡ 0
      → PassedTo true (Only c) x (told a (left a) x)
  forces a none some one =
      record {
        goes =
            record {
              sound = λ s m g.
                  let r = chosen s (possible s g (m c refl)) in
                  record {
                    fits = g.fits;
                    says = λ b f e. elim (told_says a (left a) x b f e) [
                      | inl h ↦ g.says b f h
                      | inr h ↦ ap (λ (k : ℕ). bit k s) (alone f r.0 h.1 r.1) ∙ r.2 ∙ ap value h.0
                    ];
                  };
              grows = told_grows a (left a) x;
              apart = told_apart a (left a) x (λ f. omega (arith, in_left a f, bit_le f (failing a x)));
            };
        looked = λ d q.
            let y = told a (left a) x in
            let r = on_in (left a) some in
            record {
              seen = y;
              after = told_grows a (left a) x;
              until = λ b f. le_refl _;
              settled = subst (λ (d : Clause). Held y d ⊎ Wide y d) (sym q)
                  (inl (record { side = a; fact = r.0; has = (is_left a r.0 r.1).0; holds = told_new a (left a) x r.0 r.1 }));
            };
      }
    where
      alone : (f g : ℕ) → bit f (left a) ≡ 1 → bit g (left a) ≡ 1 → f ≡ g
      alone = one_bit (left a) (pos_of_ne-zero some) one

      chosen : (s : ℕ) → (b : Bool) × (f : ℕ) × (bit f (left b) ≡ 1) × (bit f s ≡ value b)
          → (f : ℕ) × (bit f (left a) ≡ 1) × (bit f s ≡ value a)
      chosen s (b, f, u, v) =
          elim (same_or_not b a) [
            | inl q ↦ (f, ap (λ (d : Bool). bit f (left d)) (sym q) ∙ u, v ∙ ap value q)
            | inr q ↦ absurd (omega (arith, u, ap (λ (d : Bool). bit f (left d)) q, off_in_lem none f))
          ]

-- An assignment that has the clauses settled leaves a state open that meets them: Horn, the facts that are on;
-- two-literal, any model with what the assignment says put in; and where no fact is open, the facts that are on.
-- Assumes nothing.
use Prim.Native.Nat.{ℕ, ◌+◌, ◌≤◌, ◌<◌, ◌^◌}
use mathlib.Core.Path.{◌≡◌, sym, ap₂, ◌∙◌}
use mathlib.Core.Bool.{Bool, true, false}
use mathlib.Core.Logic.{⊎_elim}
use native.Mathlib.Omega.{arith}
use native.Mathlib.Decide.{dec_lt}
use lib.Dec.{T}
use Rattle.task.specs.declared.Action.{Action}
use Rattle.task.specs.Task.{after}
use Rattle.task.specs.Inner.{bit}
use Rattle.task.proofs.Bits.{bit_le, bit_high, bit_after, add_wins, del_last, after_lt}
use Rattle.meaning.specs.declared.Clause.{Clause}
use Rattle.propagation.specs.declared.Assignment.{Assignment}
use Rattle.meaning.specs.Sets.{meets}
use Rattle.propagation.specs.Propagation.{mask, holding, failing, value, Agrees, Apart, Meets, Held, Wide, Settled, Fillable}
use Rattle.propagation.proofs.ClauseLaws.{by_met, met_by_lem}
use Rattle.clauses.proofs.ClauseShapes.{Shaped}

-- a clause below 2 ^ 64 has no fact 64 or above
low : (f m : ℕ) → m < 2 ^ 64 → bit f m ≡ 1 → f < 64
low f m l e = elim (dec_lt f 64) [ yes k ↦ k | no k ↦ absurd (omega (arith, bit_high 64 f m l (omega arith))) ]

-- a state that agrees meets a clause of which a literal holds
held_met : (r : Assignment) (s : ℕ) (c : Clause) → Agrees s r → Held r c → T (meets s c)
held_met r s c g t = by_met s c t.side t.fact t.has (g.says t.side t.fact t.holds)

-- a clause settled in general is met by a state that agrees, where it is by one that is wide
meets_settled : (P : Clause → Type 0) (r : Assignment) (s : ℕ) → Agrees s r → Settled true P r
    → ((c : Clause) → P c → Wide r c → T (meets s c)) → Meets P s
meets_settled P r s g h k c p = ⊎_elim (held_met r s c g) (k c p) (h c p)

module _ (r : Assignment) (fits : r.on < 2 ^ 64) (apart : Apart r) where
  -- the facts that are on agree
  pub on_agrees : Agrees r.on r
  on_agrees = record { fits = fits; says = says }
    where
      says : (b : Bool) (f : ℕ) → bit f (holding b r) ≡ 1 → bit f r.on ≡ value b
      says true f e = e
      says false f e = omega (arith, apart f)

  -- Horn: where the body is not all on, a fact of it is off in that state
  horn_fills : (P : Clause → Type 0) → Settled false P r → ((c : Clause) → P c → Shaped false c) → Meets P r.on
  horn_fills P settled horn c p =
      ⊎_elim (held_met r r.on c on_agrees) (λ w. by_met r.on c false w.fact w.has w.not_on) (settled c p (horn c p))

module _ (P : Clause → Type 0) (r : Assignment) (fits : r.on < 2 ^ 64) (apart : Apart r)
    (settled : Settled true P r) where
  -- no fact is open
  pub full_fills : ((f : ℕ) → f < 64 → 1 ≤ bit f r.on + bit f r.off) → Meets P r.on
  full_fills full =
      meets_settled P r r.on (on_agrees r fits apart) settled
      (λ c p w.
      let l = low _ _ (w.fits w.side₁) w.has₁ in
      by_met r.on c w.side₁ w.fact₁ w.has₁ (is w.side₁ w.fact₁ l w.open₁))
    where
      is : (b : Bool) (f : ℕ) → f < 64 → bit f (failing b r) ≡ 0 → bit f r.on ≡ value b
      is true f l e = omega (arith, full f l, bit_le f r.on)
      is false f l e = e

  -- two-literal: a state that meets the clauses, with what the assignment says put in
  module _ (s : ℕ) (hs : s < 2 ^ 64) (m : Meets P s) where
    with_it : Action
    with_it = record { pre = 0; add = r.on; del = r.off; off = 0 }

    pub overlay : ℕ
    overlay = after with_it s

    pub overlay_agrees : Agrees overlay r
    unfolding overlay with_it
    overlay_agrees = record { fits = after_lt 64 with_it s hs fits; says = says }
      where
        says : (b : Bool) (f : ℕ) → bit f (holding b r) ≡ 1 → bit f (after with_it s) ≡ value b
        says true f e = add_wins with_it s f e
        says false f e = del_last with_it s f e (omega (arith, apart f))

    -- an open literal is as it was
    kept : (b : Bool) (f : ℕ) → bit f s ≡ value b → bit f (failing b r) ≡ 0 → bit f overlay ≡ value b
    unfolding overlay with_it
    kept true f v e = omega (arith, bit_after with_it s f, bit_le f r.on)
    kept false f v e = omega (arith, bit_after with_it s f)

    pub two_fills : ((c : Clause) → P c → Shaped true c) → Meets P overlay
    two_fills two = meets_settled P r overlay overlay_agrees settled (λ c p w.
        let q = met_by_lem s c (m c p) in
        let b = q.0 in
        let f = q.1 in
        by_met overlay c b f q.2 (kept b f q.3 (⊎_elim
        (λ e. ap₂ (λ (d : Bool) (k : ℕ). bit k (failing d r)) (sym e.0) (sym e.1) ∙ w.open₁)
        (λ e. ap₂ (λ (d : Bool) (k : ℕ). bit k (failing d r)) (sym e.0) (sym e.1) ∙ w.open₂)
        (two c p w.side₁ w.side₂ b w.fact₁ w.fact₂ f
        (low w.fact₁ (mask w.side₁ c) (w.fits w.side₁) w.has₁)
        (low w.fact₂ (mask w.side₂ c) (w.fits w.side₂) w.has₂) (low f (mask b c) (w.fits b) q.2)
        w.has₁ w.has₂ q.2 w.differ))))

-- ---- so the clauses can be filled

pub horn_fillable : (P : Clause → Type 0) → ((c : Clause) → P c → Shaped false c) → Fillable false P
horn_fillable P h r fits apart settled = (r.on, on_agrees r fits apart, horn_fills r fits apart P settled h)

pub two_fillable : (P : Clause → Type 0) → ((c : Clause) → P c → Shaped true c) → (s : ℕ) → s < 2 ^ 64 → Meets P s → Fillable true P
two_fillable P h s hs m r fits apart settled = (
  overlay P r fits apart settled s hs m,
  overlay_agrees P r fits apart settled s hs m,
  two_fills P r fits apart settled s hs m h,
)

-- The search: telling open facts of two-literal leaves, the right leaves in turn, and where the search starts.
-- Assumes nothing.
use Prim.Native.Nat.{ℕ, ◌+◌, ◌/◌, ◌%◌, ◌≤◌, ◌<◌, ◌^◌}
use mathlib.Core.Path.{◌≡◌, sym, ap, subst, ◌∙◌}
use mathlib.Core.Bool.{Bool, true, false, not, true≢false}
use mathlib.Core.List.{List}
use native.Mathlib.Omega.{arith}
use native.Mathlib.Decide.{dec_lt}
use native.Mathlib.Nat.{le_refl}
use lib.Bits.{bit_or}
use lib.Dec.{T}
use Rattle.task.proofs.Tests.{not_of, is_true, never}
use Rattle.task.specs.Inner.{bit}
use Rattle.task.proofs.Bits.{bit_le, bit_none, bit_or_lem}
use Rattle.std.specs.Prelude.{Option, Some, None}
use Rattle.meaning.specs.declared.Clause.{Clause}
use Rattle.propagation.specs.declared.Assignment.{Assignment}
use Rattle.meaning.specs.Sets.{meets}
use Rattle.leaves.specs.declared.Leaf.{Leaf}
use Rattle.propagation.proofs.LeavesLaws.{each_in}
use Rattle.propagation.specs.declared.Setting.{Setting}
use Rattle.propagation.specs.Clauses.{LeftOf, Clausal, Usable}
use Rattle.propagation.specs.Propagation.{value, failing, Apart, Meets, Settled, Tells, Going, NoneIn, AssumedTo, Assumed}
use Rattle.propagation.specs.Propagation.{FixedTo, Fixed, Fillable, Ready, Model, Witness, Candidate, Sought}
use Rattle.propagation.proofs.OneFact.{bit_same, bit_only}
use Rattle.propagation.proofs.ClauseLaws.{Has, met_by_lem}
use Rattle.propagation.proofs.PassLaws.{going_none, going_more, going_under}
use Rattle.clauses.proofs.ClauseShapes.{Shaped, shaped_leaf}
use Rattle.clauses.proofs.FillLaws.{on_agrees, full_fills, overlay, overlay_agrees, two_fills}
use Rattle.clauses.proofs.AssumeLaws.{against, agrees_before}

-- ---- the clauses of usable leaves have their shape

pub usable_shaped : (bytes : List ℕ) (leaves : List Leaf) (k : Setting) → Usable bytes leaves k.two → (c : Clause) → LeftOf bytes leaves k c
    → Shaped k.two c
usable_shaped bytes leaves k u c (j, l, p) =
    shaped_leaf bytes k.ends k.two k.action _ (each_in (Clausal bytes k.two) leaves u j l) c p

-- ---- a test that is known

pub tells_no : {X : Type 0} → (X → ⊥) → Tells false X
tells_no n = record { finds = λ t. absurd t; sees = λ y. n y }

-- ---- one fact

-- the fact is told off, or on
abbrev pub off_clause : ℕ → Clause
off_clause i = record { positive = 2 ^ i; negative = 0 }

abbrev pub on_clause : ℕ → Clause
on_clause i = record { positive = 0; negative = 2 ^ i }

module _ (two : Bool) (P : Clause → Type 0) (x : Assignment) (i : ℕ) where
  pub fixed_already : bit_or x.on x.off / 2 ^ i % 2 ≡ 1 → FixedTo two P i x x
  unfolding bit
  fixed_already e = record { goes = going_none _ x; decided = omega (arith, bit_or_lem i x.on x.off); settled = λ h. h }

  pub fixed_off : (y : Assignment) → AssumedTo two P (off_clause i) x y → FixedTo two P i x y
  fixed_off y u =
      record { goes = going_under (λ s p. absurd p) u.goes; decided = omega (arith, u.told true i (bit_same i)); settled = u.settled }

  pub fixed_on : (r : Option Assignment) → NoneIn (λ s. Meets P s × T (not (meets s (off_clause i)))) x
      → Assumed two P (on_clause i) x r → Fixed two P i x r
  fixed_on None u v = λ s m g. elim (dec_lt (bit i s) 1) [
    | yes l ↦ u s (m, not_of (meets s (off_clause i)) (λ k. off_met s l (met_by_lem s (off_clause i) k))) g
    | no l ↦ v s (m, not_of (meets s (on_clause i)) (λ k. on_met s l (met_by_lem s (on_clause i) k))) g
  ]
    where
      off_met : (s : ℕ) → bit i s < 1 → (b : Bool) × (f : ℕ) × Has (off_clause i) b f × (bit f s ≡ value b) → ⊥
      off_met s l (true, f, h, v) = omega (arith, ap (λ (k : ℕ). bit k s) (bit_only f i h))
      off_met s l (false, f, h, v) = omega (arith, bit_none f)

      on_met : (s : ℕ) → (bit i s < 1 → ⊥) → (b : Bool) × (f : ℕ) × Has (on_clause i) b f × (bit f s ≡ value b) → ⊥
      on_met s l (true, f, h, v) = omega (arith, bit_none f)
      on_met s l (false, f, h, v) = omega (arith, ap (λ (k : ℕ). bit k s) (bit_only f i h))
  fixed_on (Some r) u v =
      record { goes = going_under (λ s p. absurd p) v.goes; decided = omega (arith, v.told false i (bit_same i)); settled = v.settled }

-- ---- one fact after the other

-- the first i facts are known
pub record Trying (two : Bool) (P : Clause → Type 0) (i : ℕ) (x r : Assignment) : Type 0 where
  pub goes : Going (λ s. ⊥) x r
  pub apart : Apart r
  pub settled : Settled two P r
  pub decided : (f : ℕ) → f < i → 1 ≤ bit f r.on + bit f r.off

module _ (two : Bool) (P : Clause → Type 0) where
  pub trying_none : (x : Assignment) → Ready two P x → Trying two P 0 x x
  trying_none x r =
      record { goes = going_none _ x; apart = r.apart; settled = r.settled; decided = λ f l. absurd (omega arith) }

  pub trying_more : {i : ℕ} {x y r : Assignment} → Trying two P i x y → FixedTo two P i y r → Trying two P (i + 1) x r
  trying_more {i} {x} {y} {r} u v =
      record {
        goes = going_more (λ s p. absurd p) u.goes v.goes;
        apart = v.goes.apart u.apart;
        settled = v.settled u.settled;
        decided = λ f l. elim (dec_lt f i) [
          | yes k ↦ omega (arith, u.decided f k, v.goes.grows true f, v.goes.grows false f)
          | no k ↦ let e : f ≡ i = omega arith in rw e v.decided
        ];
      }

  general : two ≡ true → (r : Assignment) → Settled two P r → Settled true P r
  general e r = subst (λ (b : Bool). Settled b P r) e

  -- every fact is known: the facts that are on are a model
  pub trying_done : two ≡ true → {i : ℕ} {x r : Assignment} → 64 ≤ i → Trying two P i x r → r.on < 2 ^ 64 → Model P x
  trying_done e {i} {x} {r} l u fits = (
    r.on,
    agrees_before (λ s. ⊥) x r r.on u.goes (on_agrees r fits u.apart),
    full_fills P r fits u.apart (general e r u.settled) (λ f k. u.decided f (omega arith)),
  )

  -- neither value of a fact can be: there is no model, since what is known could be put into it
  pub trying_none_left : two ≡ true → ((c : Clause) → P c → Shaped two c) → {i : ℕ} {x y : Assignment} → Trying two P i x y
      → y.on < 2 ^ 64 → NoneIn (Meets P) y → Model P x → ⊥
  trying_none_left e shape {i} {x} {y} u fits v (s, g, m) =
      let h = general e y u.settled in
      v (overlay P y fits u.apart h s g.fits m)
      (two_fills P y fits u.apart h s g.fits m (λ c p. subst (λ (b : Bool). Shaped b c) e (shape c p)))
      (overlay_agrees P y fits u.apart h s g.fits m)

-- ---- the right leaves in turn

pub ready_next : {two : Bool} {P : Clause → Type 0} {c : Clause} {x y : Assignment} → Ready two P x → AssumedTo two P c x y
    → Ready two P y
ready_next r u = record { apart = u.goes.apart r.apart; settled = u.settled r.settled }

module _ (two : Bool) (P : Clause → Type 0) (Q : ℕ → Clause → Type 0) where
  -- where no right leaf is left, x itself will do
  pub candidate_base : {j : ℕ} {x : Assignment} → j ≡ 2 → Ready two P x → x.on < 2 ^ 64 → Candidate two P Q j x
  candidate_base {j} {x} e r fits =
      record {
        grown = x;
        goes = going_none _ x;
        fits = fits;
        apart = r.apart;
        settled = r.settled;
        fails = λ k l h. absurd (omega arith);
      }

  pub candidate_found : {j : ℕ} {c : Clause} {x y : Assignment} → Q j c → AssumedTo two P c x y → Candidate two P Q (j + 1) y
      → Candidate two P Q j x
  candidate_found {j} {c} {x} {y} q u w =
      record {
        grown = w.grown;
        goes = going_more (λ s p. absurd p) u.goes w.goes;
        fits = w.fits;
        apart = w.apart;
        settled = w.settled;
        fails = λ k l h. elim (dec_lt j k) [
          | yes i ↦ w.fails k (omega arith) h
          | no i ↦
              let e : j ≡ k = omega arith in (
                c,
                subst (λ (k : ℕ). Q k c) e q,
                (λ b f t.
                    omega (arith, u.told b f t, w.goes.grows (not b) f, bit_le f (failing b w.grown))),
              )
        ];
      }

  -- a candidate that can be filled up gives a witness
  pub candidate_fills : {j : ℕ} {x : Assignment} → Fillable two P → Candidate two P Q j x → Witness P Q j x
  candidate_fills {j} {x} fill w =
      let q = fill w.grown w.fits w.apart w.settled in
      record {
        state = q.0;
        agrees = agrees_before (λ s. ⊥) x w.grown q.0 w.goes q.1;
        meets_left = q.2;
        fails = λ k l h. let r = w.fails k l h in (r.0, r.1, against r.0 w.grown r.2 q.0 q.1);
      }

  pub sought_yes : {j : ℕ} {x : Assignment} → Candidate two P Q j x → Sought two true P Q j x
  sought_yes w = record { finds = λ t. w; sees = λ y. tt }

  pub sought_no : {j : ℕ} {x : Assignment} → (Witness P Q j x → ⊥) → Sought two false P Q j x
  sought_no n = record { finds = λ t. absurd t; sees = λ y. n y }

  pub sought_not : {j : ℕ} {x : Assignment} {r : Bool} → Sought two r P Q j x → r ≡ false → Witness P Q j x → ⊥
  sought_not {j} {x} {r} k e w = true≢false (sym (is_true r (k.sees w)) ∙ e)

module _ (P : Clause → Type 0) (Q : ℕ → Clause → Type 0) where
  -- no witness fails one of the first i clauses
  abbrev pub Missing : (ℕ → Clause) → ℕ → ℕ → Assignment → Type 0
  Missing at i j x = (w : Witness P Q (j + 1) x) (k : ℕ) → k < i → T (not (meets w.state (at k))) → ⊥

  pub missing_more : {two : Bool} (at : ℕ → Clause) (i j : ℕ) {x y : Assignment} → Missing at i j x → AssumedTo two P (at i) x y
      → (Witness P Q (j + 1) y → ⊥) → Missing at (i + 1) j x
  missing_more at i j {x} {y} h u n w k l t =
      elim (dec_lt k i) [
        | yes p ↦ h w k p t
        | no p ↦
            let e : k ≡ i = omega arith in
            n (record {
              state = w.state;
              agrees = u.goes.sound w.state (w.meets_left, subst (λ (k : ℕ). T (not (meets w.state (at k)))) e t) w.agrees;
              meets_left = w.meets_left;
              fails = w.fails;
            })
      ]

  -- a clause that cannot fail
  pub missing_none : (at : ℕ → Clause) (i j : ℕ) {x : Assignment} → Missing at i j x
      → NoneIn (λ s. Meets P s × T (not (meets s (at i)))) x → Missing at (i + 1) j x
  missing_none at i j {x} h u w k l t =
      elim (dec_lt k i) [
        | yes p ↦ h w k p t
        | no p ↦
            let e : k ≡ i = omega arith in
            u w.state (w.meets_left, subst (λ (k : ℕ). T (not (meets w.state (at k)))) e t) w.agrees
      ]

  -- clauses that every witness meets
  pub missing_past : (at : ℕ → Clause) (i r j : ℕ) {x : Assignment} → Missing at i j x → ((k : ℕ) → i ≤ k → k < r → P (at k))
      → Missing at r j x
  missing_past at i r j {x} h p w k l t =
      elim (dec_lt k i) [
        | yes q ↦ h w k q t
        | no q ↦ never (meets w.state (at k)) (w.meets_left (at k) (p k (omega arith) l)) t
      ]

  pub missing_all : (at : ℕ → Clause) (i j : ℕ) {x : Assignment} → j < 2 → ((c : Clause) → Q j c → (k : ℕ) × (k < i) × (c ≡ at k))
      → Missing at i j x → Witness P Q j x → ⊥
  missing_all at i j {x} l of h w =
      let r = w.fails j (le_refl j) l in
      let q = of r.0 r.1 in
      h (record {
        state = w.state;
        agrees = w.agrees;
        meets_left = w.meets_left;
        fails = λ k m. w.fails k (omega arith);
      }) q.0 q.1
      (subst (λ (c : Clause). T (not (meets w.state c))) q.2 r.2)

-- A clause is met by one of its literals; and a clause of the state after an action, as a clause of the state before it.
-- Assumes nothing.
use Prim.Native.Nat.{ℕ, ◌-◌, min, max}
use mathlib.Core.Path.{◌≡◌, refl, sym, ap, ap₂, subst, ◌∙◌}
use mathlib.Core.Bool.{Bool, true, false, not}
use mathlib.Core.Logic.{inl, inr}
use native.Mathlib.Omega.{arith}
use native.Mathlib.Decide.{dec_lt}
use lib.Bits.{bit_and, bit_or, or_zero_r, and_zero_r}
use lib.Dec.{T, eqb, eqb→eq}
use Rattle.task.specs.declared.Action.{Action}
use Rattle.task.specs.Facts.{all_on, without}
use Rattle.task.specs.Task.{after}
use Rattle.task.proofs.Tests.{or_cases, or_left, or_right, never, not_of, is_true, same, excluded}
use Rattle.task.proofs.Bits.{bit_le, bit_and_lem, bit_or_lem, bit_without, same_bits}
use Rattle.task.proofs.Bits.{all_on_at, all_on_of, bit_after, add_wins, del_last, fact_stays}
use Rattle.meaning.specs.declared.Clause.{Clause}
use Rattle.meaning.specs.Sets.{meets}
use Rattle.counterexample.specs.Counter.{seen}
use Rattle.propagation.specs.Clauses.{acting, effect_of, met_by, pulled_by}
use Rattle.task.specs.Inner.{bit, no_action}
use Rattle.propagation.specs.Propagation.{mask, value}
use Rattle.propagation.proofs.OneFact.{off_in_lem, on_in, bit_same}

-- ---- digits: numbers of at most 1

pub bit_one : (f m : ℕ) → (bit f m ≡ 0 → ⊥) → bit f m ≡ 1
bit_one f m h = elim (dec_lt (bit f m) 1) [ yes l ↦ absurd (h (omega arith)) | no l ↦ omega (arith, bit_le f m) ]

-- two masks have a fact in common
pub common : (m k : ℕ) → T (not (eqb (bit_and m k) 0)) → (f : ℕ) × (bit f m ≡ 1) × (bit f k ≡ 1)
common m k t =
    let r = on_in (bit_and m k) (λ z. never (eqb (bit_and m k) 0) (same z) t) in
    (r.0, omega (arith, r.1, bit_and_lem r.0 m k, bit_le r.0 m), omega (arith, r.1, bit_and_lem r.0 m k, bit_le r.0 k))

pub in_common : (m k f : ℕ) → bit f m ≡ 1 → bit f k ≡ 1 → T (not (eqb (bit_and m k) 0))
in_common m k f u v = not_of (eqb (bit_and m k) 0) (λ t. omega (arith, off_in_lem (eqb→eq (bit_and m k) 0 t) f, bit_and_lem f m k))

-- ---- literals

-- the clause c has the literal of fact f on side b
abbrev pub Has : Clause → Bool → ℕ → Type 0
Has c b f = bit f (mask b c) ≡ 1

pub by_met : (s : ℕ) (c : Clause) (b : Bool) (f : ℕ) → Has c b f → bit f s ≡ value b → T (meets s c)
unfolding meets
by_met s c true f h v = or_left (not (eqb (bit_and s c.positive) 0)) (not (all_on c.negative s)) (in_common s c.positive f v h)
by_met s c false f h v =
    or_right (not (eqb (bit_and s c.positive) 0)) (not (all_on c.negative s))
    (not_of (all_on c.negative s) (λ t. omega (arith, all_on_at c.negative s t f)))

pub met_by_lem : (s : ℕ) (c : Clause) → T (meets s c) → (b : Bool) × (f : ℕ) × Has c b f × (bit f s ≡ value b)
unfolding meets
met_by_lem s c t =
    elim (or_cases (not (eqb (bit_and s c.positive) 0)) (not (all_on c.negative s)) t) [
      | inl u ↦ let r = common s c.positive u in (true, r.0, r.2, r.1)
      | inr u ↦
          let r = on_in (without c.negative s) (λ z. never (all_on c.negative s) (all_on_of c.negative s (λ f.
          omega (arith, bit_without f c.negative s, off_in_lem z f, bit_le f c.negative, bit_le f s))) u) in
          let e : min (bit r.0 c.negative) (1 - bit r.0 s) ≡ 1 = sym (bit_without r.0 c.negative s) ∙ r.1 in
          (false, r.0, omega (arith, bit_le r.0 c.negative), omega arith)
    ]

-- where a state fails the clause, it has no literal of it
pub fails_by : (s : ℕ) (c : Clause) → T (not (meets s c)) → (b : Bool) (f : ℕ) → Has c b f → bit f s ≡ value (not b)
fails_by s c t true f h =
    elim (dec_lt (bit f s) 1) [
      | yes l ↦ omega arith
      | no l ↦ absurd (never (meets s c) (by_met s c true f h (omega (arith, bit_le f s))) t)
    ]
fails_by s c t false f h = bit_one f s (λ z. never (meets s c) (by_met s c false f h z) t)

-- a clause with a fact on both sides is met by every state
always : (s : ℕ) (c : Clause) (f : ℕ) → Has c true f → Has c false f → T (meets s c)
always s c f u v =
    elim (dec_lt (bit f s) 1) [ yes l ↦ by_met s c false f v (omega arith) | no l ↦ by_met s c true f u (omega (arith, bit_le f s)) ]

-- ---- through an action

-- a clause pulled through an action; and whether the action meets it
abbrev pub pulled : Action → Clause → Clause
pulled a c = pulled_by (effect_of a) c

abbrev pub met_in : Action → Clause → Bool
met_in a c = met_by (effect_of a) c

-- the facts by which the action meets a clause
abbrev caught : Action → Bool → ℕ
caught a true = a.add
caught a false = without a.del a.add

by_caught : (a : Action) (c : Clause) (b : Bool) (f : ℕ) → Has c b f → bit f (caught a b) ≡ 1 → T (met_in a c)
unfolding met_by effect_of
by_caught a c true f h v =
    or_left (not (eqb (bit_and c.positive a.add) 0)) (not (eqb (bit_and c.negative (without a.del a.add)) 0))
    (in_common c.positive a.add f h v)
by_caught a c false f h v =
    or_right (not (eqb (bit_and c.positive a.add) 0)) (not (eqb (bit_and c.negative (without a.del a.add)) 0))
    (in_common c.negative (without a.del a.add) f h v)

caught_by : (a : Action) (c : Clause) → T (met_in a c) → (b : Bool) × (f : ℕ) × Has c b f × (bit f (caught a b) ≡ 1)
unfolding met_by effect_of
caught_by a c t =
    elim (or_cases (not (eqb (bit_and c.positive a.add) 0)) (not (eqb (bit_and c.negative (without a.del a.add)) 0)) t) [
      | inl u ↦ let r = common c.positive a.add u in (true, r.0, r.1, r.2)
      | inr u ↦ let r = common c.negative (without a.del a.add) u in (false, r.0, r.1, r.2)
    ]

-- what the action leaves of a clause
abbrev pub rest : Action → Clause → Clause
rest a c = record {
  positive = without c.positive (bit_or a.add a.del);
  negative = without c.negative (bit_or a.add a.del);
}

abbrev pub anything : Clause
anything = record { positive = 1; negative = 1 }

pub pulled_met : (a : Action) (c : Clause) → T (met_in a c) → pulled a c ≡ anything
unfolding pulled_by effect_of
pulled_met a c t = rw (is_true (met_in a c) t, pulled_by)

pub pulled_rest : (a : Action) (c : Clause) → T (not (met_in a c)) → pulled a c ≡ rest a c
unfolding pulled_by effect_of
pulled_rest a c t = rw (not_true (met_in a c) t, pulled_by)
  where
    not_true : (b : Bool) → T (not b) → b ≡ false
    not_true true t = absurd t
    not_true false t = refl

pub anything_met : (s : ℕ) → T (meets s anything)
anything_met s = always s anything 0 (bit_same 0) (bit_same 0)

-- a literal of the rest is one of the clause, and the action does not change its fact
pub rest_has : (a : Action) (c : Clause) (b : Bool) (f : ℕ) → Has (rest a c) b f → Has c b f × (bit f a.add ≡ 0) × (bit f a.del ≡ 0)
rest_has a c b f h =
    let e = sym (bit_without f (mask b c) (bit_or a.add a.del)) ∙ whole b h in
    let o : max (bit f a.add) (bit f a.del) ≡ 0 = sym (bit_or_lem f a.add a.del) ∙ omega (arith, e) in
    (omega (arith, e, bit_le f (mask b c)), omega (arith, o), omega (arith, o))
  where
    whole : (b : Bool) → Has (rest a c) b f → bit f (without (mask b c) (bit_or a.add a.del)) ≡ 1
    whole true h = h
    whole false h = h

has_rest : (a : Action) (c : Clause) (b : Bool) (f : ℕ) → Has c b f → bit f a.add ≡ 0 → bit f a.del ≡ 0 → Has (rest a c) b f
has_rest a c true f h z d = omega (arith, bit_without f c.positive (bit_or a.add a.del), bit_or_lem f a.add a.del)
has_rest a c false f h z d = omega (arith, bit_without f c.negative (bit_or a.add a.del), bit_or_lem f a.add a.del)

-- the state after the action meets a clause where the state before it meets the clause pulled through
pub pulled_meets : (a : Action) (s : ℕ) (c : Clause) → meets (after a s) c ≡ meets s (pulled a c)
pulled_meets a s c =
    elim (excluded (met_in a c)) [
      | inl t ↦ same_test _ _ (λ u. subst (λ (d : Clause). T (meets s d)) (sym (pulled_met a c t)) (anything_met s))
          (λ u. by_action (caught_by a c t))
      | inr t ↦ rw (pulled_rest a c t) (same_test _ _ (λ u. to_rest t (met_by_lem (after a s) c u)) (λ u. of_rest (met_by_lem s (rest a c) u)))
    ]
  where
    same_test : (p q : Bool) → (T p → T q) → (T q → T p) → p ≡ q
    same_test true true h k = refl
    same_test true false h k = absurd (h tt)
    same_test false true h k = absurd (k tt)
    same_test false false h k = refl

    by_action : (b : Bool) × (f : ℕ) × Has c b f × (bit f (caught a b) ≡ 1) → T (meets (after a s) c)
    by_action (true, f, h, v) = by_met (after a s) c true f h (add_wins a s f v)
    by_action (false, f, h, v) =
        let e = sym (bit_without f a.del a.add) ∙ v in
        by_met (after a s) c false f h (del_last a s f (omega (arith, e, bit_le f a.del)) (omega (arith, e)))

    free : T (not (met_in a c)) → (b : Bool) (f : ℕ) → Has c b f → bit f (caught a b) ≡ 0
    free t b f h =
        elim (dec_lt (bit f (caught a b)) 1) [
          | yes l ↦ omega arith
          | no l ↦ absurd (never (met_in a c) (by_caught a c b f h (omega (arith, bit_le f (caught a b)))) t)
        ]

    to_rest : T (not (met_in a c)) → (b : Bool) × (f : ℕ) × Has c b f × (bit f (after a s) ≡ value b) → T (meets s (rest a c))
    to_rest t (true, f, h, v) =
        let z : bit f a.add ≡ 0 = free t true f h in
        let e = sym (bit_after a s f) ∙ v in
        let d : bit f a.del ≡ 0 = omega (arith, e, z) in
        by_met s (rest a c) true f (has_rest a c true f h z d) (omega (arith, e, z, d, bit_le f s))
    to_rest t (false, f, h, v) =
        let e = sym (bit_after a s f) ∙ v in
        let z : bit f a.add ≡ 0 = omega (arith, e) in
        let d : bit f a.del ≡ 0 = omega (arith, free t false f h, bit_without f a.del a.add, z, bit_le f a.del) in
        by_met s (rest a c) false f (has_rest a c false f h z d) (omega (arith, e, z, d, bit_le f s))

    of_rest : (b : Bool) × (f : ℕ) × Has (rest a c) b f × (bit f s ≡ value b) → T (meets (after a s) c)
    of_rest (b, f, h, v) = let r = rest_has a c b f h in by_met (after a s) c b f r.0 (fact_stays a s f r.2 r.1 ∙ v)

-- ---- a clause of which the action changes no fact stays as it is

pub pulled_missed : (a : Action) (c : Clause) → ((b : Bool) → bit_and (mask b c) (bit_or a.add a.del) ≡ 0) → pulled a c ≡ c
pulled_missed a c z =
    pulled_rest a c (not_of (met_in a c) (λ t. nothing (caught_by a c t)))
    ∙ ap₂ (λ (p n : ℕ). record { positive = p; negative = n }) (kept true) (kept false)
  where
    -- a fact that the clause has is not changed
    same : (b : Bool) (f : ℕ) → bit f (mask b c) ≡ 1 → max (bit f a.add) (bit f a.del) ≡ 0
    same b f h = sym (bit_or_lem f a.add a.del) ∙ omega (arith, off_in_lem (z b) f, bit_and_lem f (mask b c) (bit_or a.add a.del))

    kept : (b : Bool) → without (mask b c) (bit_or a.add a.del) ≡ mask b c
    kept b =
        same_bits _ _ (λ f.
        let m = bit_or a.add a.del in
        omega (arith, bit_without f (mask b c) m, off_in_lem (z b) f, bit_and_lem f (mask b c) m, bit_le f (mask b c)))

    nothing : (b : Bool) × (f : ℕ) × Has c b f × (bit f (caught a b) ≡ 1) → ⊥
    nothing (true, f, h, v) = omega (arith, same true f h)
    nothing (false, f, h, v) = omega (arith, same false f h, bit_without f a.del a.add)

-- a leaf that is asked about the state before the action is pulled through the action that does nothing
pub pulled_nothing : (a : Action) (c : Clause) → pulled (acting a false) c ≡ c
unfolding acting no_action
pulled_nothing a c = pulled_missed no_action c (λ b. ap (bit_and (mask b c)) (or_zero_r 0) ∙ and_zero_r (mask b c))

-- a clause asked about the state that a leaf is asked about
pub over_seen : (a : Action) (t : Bool) (s : ℕ) (c : Clause) → meets s (pulled (acting a t) c) ≡ meets (seen t a s) c
unfolding acting
over_seen a true s c = sym (pulled_meets a s c)
over_seen a false s c = ap (meets s) (pulled_nothing a c)

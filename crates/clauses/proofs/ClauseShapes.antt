-- Horn and two-literal clauses: what they have in common, and for each that a calm settled assignment leaves a state that meets them.
-- Assumes nothing.
use Prim.Native.Nat.{ℕ, suc, ◌+◌, ◌≤◌, ◌<◌, ◌^◌}
use mathlib.Core.Path.{◌≡◌, refl, sym, subst, ◌∙◌}
use mathlib.Core.Bool.{Bool, true, false, true≢false}
use mathlib.Core.List.{List}
use mathlib.Core.Logic.{◌⊎◌, inl, inr}
use native.Mathlib.Omega.{arith}
use native.Mathlib.Decide.{dec_lt}
use lib.Dec.{T, leb→le}
use Rattle.task.specs.declared.Action.{Action}
use Rattle.task.specs.Facts.{without, ones_in}
use Rattle.task.proofs.Tests.{excluded}
use Rattle.task.proofs.Bits.{bit_none, bit_without}
use Rattle.meaning.specs.declared.Clause.{Clause}
use Rattle.meaning.specs.Layout.{horn_rule, two_cnf_rule}
use Rattle.task.specs.declared.Ends.{Ends}
use Rattle.file_numbers.specs.ClauseRule.{clause_rule}
use Rattle.certificate.specs.declared.BasicEntry.{BasicEntry}
use Rattle.certificate.specs.declared.BasicEntry.TheVariants.{Empty, Init, Goal, Explicit, Horn, TwoCnf}
use Rattle.leaves.specs.declared.Leaf.{Leaf}
use Rattle.propagation.specs.Clauses.{fact_clause, clause_count, words_of, own_clause, clause_of, acting, OfLeaf, ClausalSet, Clausal}
use Rattle.propagation.specs.Propagation.{OneHead}
use Rattle.propagation.proofs.OneFact.{bit_only, bit_other, only_left, ones_less}
use Rattle.propagation.proofs.ClauseLaws.{Has, anything, rest, rest_has, met_in, pulled, pulled_met, pulled_rest}

-- ---- the shapes, in terms of literals

-- two-literal: of three literals, two are the same
abbrev TwoLiteral : Clause → Type 0
TwoLiteral c =
    (a b d : Bool) (f g h : ℕ) → f < 64 → g < 64 → h < 64 → Has c a f → Has c b g → Has c d h
    → (a ≡ b → f ≡ g → ⊥) → ((a ≡ d) × (f ≡ h)) ⊎ ((b ≡ d) × (g ≡ h))

abbrev pub Shaped : Bool → Clause → Type 0
Shaped true = TwoLiteral
Shaped false = OneHead

-- a clause with fewer literals
shaped_less : (two : Bool) (c d : Clause) → ((b : Bool) (f : ℕ) → Has d b f → Has c b f) → Shaped two c → Shaped two d
shaped_less true c d h k = λ a b e f g i lf lg li p q r. k a b e f g i lf lg li (h a f p) (h b g q) (h e i r)
shaped_less false c d h k = λ f g lf lg p q. k f g lf lg (h true f p) (h true g q)

-- a clause of one fact
shaped_one : (two : Bool) (c : Clause) (i : ℕ) → ((b : Bool) (f : ℕ) → Has c b f → f ≡ i) → Shaped two c
shaped_one false c i h = λ f g lf lg p q. h true f p ∙ sym (h true g q)
shaped_one true c i h = λ a b d f g k lf lg lk p q r n.
    let u : f ≡ k = h a f p ∙ sym (h d k r) in
    let v : g ≡ k = h b g q ∙ sym (h d k r) in
    either a b d (λ e. n e (u ∙ sym v)) u v
  where
    either : (a b d : Bool) → (a ≡ b → ⊥) → {f g k : ℕ} → f ≡ k → g ≡ k → ((a ≡ d) × (f ≡ k)) ⊎ ((b ≡ d) × (g ≡ k))
    either true b true n u v = inl (refl, u)
    either false b false n u v = inl (refl, u)
    either true true false n u v = absurd (n refl)
    either true false false n u v = inr (refl, v)
    either false true true n u v = inr (refl, v)
    either false false true n u v = absurd (n refl)

-- pulled through an action a clause keeps its shape
pub shaped_pulled : (two : Bool) (a : Action) (c : Clause) → Shaped two c → Shaped two (pulled a c)
shaped_pulled two a c h =
    elim (excluded (met_in a c)) [
      | inl t ↦ subst (Shaped two) (sym (pulled_met a c t)) (shaped_one two anything 0 (λ b. zeroth b))
      | inr t ↦ subst (Shaped two) (sym (pulled_rest a c t)) (shaped_less two c (rest a c) (λ b f k. (rest_has a c b f k).0) h)
    ]
  where
    zeroth : (b : Bool) (f : ℕ) → Has anything b f → f ≡ 0
    zeroth true f e = bit_only f 0 e
    zeroth false f e = bit_only f 0 e

-- ---- the shapes, by counting

same_fact : (f g : ℕ) → (f ≡ g) ⊎ (f ≡ g → ⊥)
same_fact f g =
    elim (dec_lt f g) [
      | yes l ↦ inr (λ e. omega arith)
      | no l ↦ elim (dec_lt g f) [ yes k ↦ inr (λ e. omega arith) | no k ↦ inl (omega arith) ]
    ]

same_literal : (a b : Bool) (f g : ℕ) → ((a ≡ b) × (f ≡ g)) ⊎ (a ≡ b → f ≡ g → ⊥)
same_literal true false f g = inr (λ e d. absurd (true≢false e))
same_literal false true f g = inr (λ e d. absurd (true≢false (sym e)))
same_literal true true f g = elim (same_fact f g) [ inl e ↦ inl (refl, e) | inr n ↦ inr (λ e. n) ]
same_literal false false f g = elim (same_fact f g) [ inl e ↦ inl (refl, e) | inr n ↦ inr (λ e. n) ]

-- without one literal a clause has one less, and has the others
strike : Bool → ℕ → Clause → Clause
strike true f c = record { positive = without c.positive (2 ^ f); negative = c.negative }
strike false f c = record { positive = c.positive; negative = without c.negative (2 ^ f) }

ones : Clause → ℕ
ones c = ones_in 64 c.positive + ones_in 64 c.negative

ones_strike : (b : Bool) (f : ℕ) (c : Clause) → f < 64 → Has c b f → ones c ≡ suc (ones (strike b f c))
unfolding ones strike
ones_strike true f c l h = omega (arith, ones_less 64 f c.positive l h)
ones_strike false f c l h = omega (arith, ones_less 64 f c.negative l h)

strike_has : (a b : Bool) (f g : ℕ) (c : Clause) → (a ≡ b → f ≡ g → ⊥) → Has c b g → Has (strike a f c) b g
unfolding strike
strike_has true true f g c n h = omega (arith, bit_without g c.positive (2 ^ f), bit_other g f (λ e. n refl (sym e)))
strike_has true false f g c n h = h
strike_has false true f g c n h = h
strike_has false false f g c n h = omega (arith, bit_without g c.negative (2 ^ f), bit_other g f (λ e. n refl (sym e)))

horn_rule_lem : (c : Clause) → T (horn_rule c.positive c.negative) → OneHead c
unfolding horn_rule strike
horn_rule_lem c t f g lf lg p q =
    elim (same_literal true true f g) [
      | inl e ↦ e.1
      | inr n ↦
          let m : ones_in 64 c.positive ≤ 1 = leb→le (ones_in 64 c.positive) 1 t in
          let q' = strike_has true true f g c n q in
          absurd (omega (arith, ones_less 64 f c.positive lf p, ones_less 64 g (without c.positive (2 ^ f)) lg q'))
    ]

two_rule : (c : Clause) → T (two_cnf_rule c.positive c.negative) → TwoLiteral c
unfolding two_cnf_rule ones
two_rule c t a b d f g h lf lg lh p q r n =
    elim (same_literal a d f h) [
      | inl e ↦ inl e
      | inr u ↦ elim (same_literal b d g h) [
        | inl e ↦ inr e
        | inr v ↦
            let c₁ = strike a f c in
            let c₂ = strike b g c₁ in
            let q₁ = strike_has a b f g c n q in
            let r₂ = strike_has b d g h c₁ v (strike_has a d f h c u r) in
            let m : ones c ≤ 2 = leb→le (ones c) 2 t in
            absurd (omega (arith, ones_strike a f c lf p, ones_strike b g c₁ lg q₁, ones_strike d h c₂ lh r₂))
      ]
    ]

shaped_rule : (two : Bool) (c : Clause) → T (clause_rule two c.positive c.negative) → Shaped two c
unfolding clause_rule
shaped_rule true = two_rule
shaped_rule false = horn_rule_lem

-- ---- the clauses of a leaf: those that do not stand in the file have either shape

empty_of : (b : Bool) (f : ℕ) → Has (record { positive = 0; negative = 0 }) b f → f ≡ 0
empty_of true f e = absurd (omega (arith, bit_none f))
empty_of false f e = absurd (omega (arith, bit_none f))

fact_of : (on off i : ℕ) (b : Bool) (f : ℕ) → Has (fact_clause on off i) b f → f ≡ i
unfolding fact_clause
fact_of on off i true f e = (only_left f i off e).0
fact_of on off i false f e = (only_left f i on e).0

module _ (bytes : List ℕ) (ends : Ends) (two : Bool) where
  shaped_at : (x : BasicEntry) → ClausalSet bytes two x → (i : ℕ) → i < clause_count x → Shaped two (clause_of bytes ends x i)
  unfolding clause_count clause_of words_of own_clause
  shaped_at Empty h i l = shaped_one two (record { positive = 0; negative = 0 }) 0 empty_of
  shaped_at Init h i l = shaped_one two _ i (fact_of _ _ i)
  shaped_at Goal h i l = shaped_one two _ i (fact_of _ _ i)
  shaped_at (Explicit x) h i l = absurd h
  shaped_at (Horn x) h i l = shaped_rule two _ (h.shape i l)
  shaped_at (TwoCnf x) h i l = shaped_rule two _ (h.shape i l)

  pub shaped_leaf : (a : Action) (x : Leaf) → Clausal bytes two x → (c : Clause) → OfLeaf bytes ends a x c → Shaped two c
  shaped_leaf a x h c (i, l, e) = subst (Shaped two) (sym e) (shaped_pulled two (acting a x.after) _ (shaped_at x.set h i l))

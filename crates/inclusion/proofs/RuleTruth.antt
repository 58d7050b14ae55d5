-- A permitted statement of rules 1 to 4 is true exactly when its gathered leaves have no counterexample.
-- Assumes nothing.
use mathlib.Core.Path.{◌≡◌, refl, sym, subst}
use mathlib.Core.Logic.Iff
use mathlib.Core.Logic.{◌↔◌}
use Prim.Native.Nat.{ℕ, zero, suc, ◌≤◌}
use native.Mathlib.Omega.{arith}
use mathlib.Core.List.{List, [], ◌∷◌}
use lib.ListN.{get_or}
use lib.Dec.{T, eqb}
use Rattle.task.specs.declared.Action.{Action}
use Rattle.task.proofs.Moves.{Bounded}
use Rattle.meaning.specs.File.{File}
use Rattle.meaning.proofs.Order.{Ordered}
use Rattle.meaning.specs.Sets.{states_within}
use Rattle.meaning.specs.Shapes.{keep, kind_at, leaves, shape_with, shape₂, shape₃}
use Rattle.counterexample.specs.Counter.{Asked, Counter}
use Rattle.shapes.specs.Gathered.{not_empty, after_of, left_of, right_of, Acts}
use Rattle.parts.specs.Written.{bracket_leaf, bracket_sides, shape_of, sides_of, actions_of_rule}
use Rattle.counterexample.proofs.Reduced.{truth_1, truth_2, truth_3, truth_4}
use Rattle.shapes.proofs.Filled.{drop_empty}
use Rattle.parts.proofs.PartLaws.{the_only_lem}

abbrev NoCounterOf : File → ℕ → ℕ → ℕ → Type 0
NoCounterOf f rule a b = Counter f (Acts f rule a) (left_of f rule a b) (right_of f rule a b) → ⊥

iff_not : {A B : Type 0} → A ↔ B → (A → ⊥) ↔ (B → ⊥)
iff_not e = ((λ h b. h (e.1 b)), (λ h a. h (e.0 a)))

-- the only leaf of the bracket's kind is the one that was looked for
pub the_bracket : (f : File) (k : ℕ) (anchors : _) (a b : ℕ) → T (shape_with f k anchors a b)
    → keep (λ e. eqb (kind_at f e) k) (leaves f 7 a) ≡ bracket_leaf f k a ∷ []
unfolding shape_with bracket_leaf
the_bracket f k anchors a b t =
    let h = the_only_lem _ _ t in
    subst (λ (xs : List ℕ). xs ≡ get_or xs 0 0 ∷ []) (sym h.1) refl

module _ (f : File) (o : Ordered f) (w : Bounded f.task) where
  -- right leaves of kind 0 are left out
  filled : (acts : Action → Type 0) (left right : List Asked)
      → (Counter f acts left right → ⊥) ↔ (Counter f acts left (not_empty f right) → ⊥)
  filled acts left right = iff_not (let e = drop_empty f o acts left right in (e.1, e.0))

  true_1 : (a b : ℕ) → T (states_within f a b) ↔ NoCounterOf f 1 a b
  unfolding left_of right_of sides_of after_of
  true_1 a b = Iff.trans (truth_1 f o a b) (filled _ _ _)

  true_2 : (a b : ℕ) → T (shape₂ f a b) → T (states_within f a b) ↔ NoCounterOf f 2 a b
  unfolding left_of right_of sides_of after_of bracket_sides actions_of_rule shape₂
  true_2 a b t = Iff.trans (truth_2 f o w a b (bracket_leaf f 9 a) (the_bracket f 9 _ a b t)) (filled _ _ _)

  true_3 : (a b : ℕ) → T (shape₃ f a b) → T (states_within f a b) ↔ NoCounterOf f 3 a b
  unfolding left_of right_of sides_of after_of bracket_sides actions_of_rule shape₃
  true_3 a b t = Iff.trans (truth_3 f o w a b (bracket_leaf f 10 a) (the_bracket f 10 _ a b t)) (filled _ _ _)

  true_4 : (a b : ℕ) → T (states_within f a b) ↔ NoCounterOf f 4 a b
  unfolding left_of right_of sides_of after_of
  true_4 a b = Iff.trans (truth_4 f o a b) (filled _ _ _)

  pub rule_truth : (rule a b : ℕ) → 1 ≤ rule → rule ≤ 4 → T (shape_of f rule a b) → T (states_within f a b) ↔ NoCounterOf f rule a b
  unfolding shape_of
  rule_truth zero a b l h t = absurd (omega arith)
  rule_truth (suc zero) a b l h t = true_1 a b
  rule_truth (suc (suc zero)) a b l h t = true_2 a b t
  rule_truth (suc (suc (suc zero))) a b l h t = true_3 a b t
  rule_truth (suc (suc (suc (suc zero)))) a b l h t = true_4 a b
  rule_truth (suc (suc (suc (suc (suc k))))) a b l h t = absurd (omega arith)

-- A `match` on a rule's number: the arm of a rule, which reads as many premises as the rule has.
-- Assumes nothing.
use mathlib.Core.Path.{◌≡◌, refl, sym, ap, ◌∙◌}
use Prim.Native.Nat.{ℕ, suc}
use native.Mathlib.Omega.{arith}
use mathlib.Core.Bool.{true}
use mathlib.Core.List.{List, [], ◌∷◌}
use lib.Dec.{ltb}
use lib.ListN.{length}
use borrow.Author.Tests.{lt-ltb}
use Rattle.std.specs.Prelude.{Result}
use Rattle.certificate.specs.declared.StepFault.{StepFault}
use Rattle.certificate.specs.declared.Judgement.{Judgement}
use Rattle.meaning.specs.File.{File}
use Rattle.meaning.specs.Rules.{Pattern, Rule, ◌⊢◌}
use Rattle.meaning.specs.Match.{Letters, no_letters, match_step}
use Rattle.meaning.specs.Step.{derivation, premise_count}
use Rattle.patterns.specs.Matched.{matched}
use Rattle.rules.specs.Derives.{is_some, rule_numbered, saying, match_said, follows, by_rule}
use Rattle.meaning.proofs.Letters.{then_same}

-- the judgements are the same as far as there are patterns
abbrev Alike : List Pattern → List Judgement → List Judgement → Type 0
Alike [] js ks = Unit {0}
Alike (p ∷ ps) [] [] = Unit {0}
Alike (p ∷ ps) [] (k ∷ ks) = ⊥
Alike (p ∷ ps) (j ∷ js) [] = ⊥
Alike (p ∷ ps) (j ∷ js) (k ∷ ks) = (j ≡ k) × Alike ps js ks

abbrev pub AlikeFor : Rule → List Judgement → List Judgement → Type 0
AlikeFor (ps ⊢ c) js ks = Alike ps js ks

alike : (ps : List Pattern) {p p' q q' o o' : Judgement} → (ltb 0 (length ps) ≡ true → p ≡ p') → (ltb 1 (length ps) ≡ true → q ≡ q')
    → (ltb 2 (length ps) ≡ true → o ≡ o') → Alike ps (p ∷ q ∷ o ∷ []) (p' ∷ q' ∷ o' ∷ [])
alike [] h k l = tt
alike (x ∷ []) h k l = (h refl, tt)
alike (x ∷ y ∷ []) h k l = (h refl, (k refl, tt))
alike (x ∷ y ∷ z ∷ []) h k l = (h refl, (k refl, (l refl, tt)))
alike (x ∷ y ∷ z ∷ w ∷ ps) h k l =
    let n = suc (suc (suc (suc (length ps)))) in
    (h (lt-ltb 0 n (omega arith)), (k (lt-ltb 1 n (omega arith)), (l (lt-ltb 2 n (omega arith)), tt)))

module _ (f : File) where
  alike_said : (ps : List Pattern) (js ks : List Judgement) (σ : Letters) → Alike ps js ks → match_said f ps js σ ≡ match_said f ps ks σ
  unfolding match_said
  alike_said [] js ks σ h = refl
  alike_said (p ∷ ps) [] [] σ h = refl
  alike_said (p ∷ ps) [] (k ∷ ks) σ h = absurd h
  alike_said (p ∷ ps) (j ∷ js) [] σ h = absurd h
  alike_said (p ∷ ps) (j ∷ js) (k ∷ ks) σ h =
      then_same _ _ _ _ (ap (λ (x : Judgement). match_step f p (saying x) σ) h.0) (λ τ. alike_said ps js ks τ h.1)

  -- the same judgement follows from them
  follows_alike : (r : Rule) {j j' : Judgement} (js ks : List Judgement) → j ≡ j' → AlikeFor r js ks → follows f r j js ≡ follows f r j' ks
  unfolding follows
  follows_alike (ps ⊢ c) js ks e h =
      ap is_some (then_same _ _ _ _ (ap (λ (x : Judgement). match_step f c (saying x) no_letters) e) (λ τ. alike_said ps js ks τ h))

  -- premises that a rule does not have may be anything
  pub read_premises : (r : Rule) {n : ℕ} (j : Judgement) {p p' q q' o o' : Judgement} → n ≡ premise_count (derivation r)
      → (ltb 0 n ≡ true → p ≡ p')
      → (ltb 1 n ≡ true → q ≡ q') → (ltb 2 n ≡ true → o ≡ o') → follows f r j (p ∷ q ∷ o ∷ []) ≡ follows f r j (p' ∷ q' ∷ o' ∷ [])
  unfolding premise_count
  read_premises (ps ⊢ c) j e h k l =
      follows_alike (ps ⊢ c) _ _ refl (alike ps (λ t. h (ap (ltb 0) e ∙ t)) (λ t. k (ap (ltb 1) e ∙ t)) (λ t. l (ap (ltb 2) e ∙ t)))

  -- rule n's arm: what was found of the judgements taken apart holds of them whole, and of more than the rule has premises
  pub arm : (n : ℕ) {rule : ℕ} {j j' : Judgement} (js ks : List Judgement) {b : Result (Unit {0}) StepFault} → rule ≡ n → b ≡ by_rule f n j' ks → j ≡ j'
      → AlikeFor (rule_numbered n) js ks → b ≡ by_rule f rule j js
  arm n js ks e q h t = rw e (q ∙ ap matched (sym (follows_alike (rule_numbered n) js ks h t)))

-- A step is derived where what it says follows from what its premises say.
-- Assumes nothing.
use mathlib.Core.Path.{◌≡◌, refl, ap}
use Prim.Native.Nat.{ℕ, zero, suc, ◌-◌, ◌≤◌}
use native.Mathlib.Omega.{arith}
use mathlib.Core.Bool.{Bool, true, false}
use mathlib.Core.List.{List, [], ◌∷◌, map}
use lib.Dec.{T, eqb, eqb-suc-zero, eqb-suc-suc}
use lib.ListN.{get_or}
use Rattle.meaning.proofs.Letters.{then_same}
use Rattle.task.specs.Reach.{every}
use Rattle.task.proofs.Tests.{and_left, and_right}
use Rattle.meaning.specs.File.{Step, File, step_at}
use Rattle.certificate.specs.Views.{judgement_of, judgement_at}
use Rattle.meaning.specs.Rules.{Pattern, dead, ◌⊑◌, ◌⊑ᴬ◌, unsolvable, O, Rule, ◌⊢◌, rules, pattern_kind}
use Rattle.meaning.specs.Match.{Letters, no_letters, ◌then◌, given, match_entries, match_step, match_premises}
use Rattle.meaning.specs.Step.{derivation, judgement_kind}
use Rattle.rules.specs.Derives.{is_some, rule_numbered, kind_said, left_said, right_said, saying, derives, match_said, follows}

-- a pattern that no judgement kind above 3 matches, though such a kind is shown as unsolvable
abbrev Fits : Pattern → ℕ → Type 0
Fits (dead p) k = Unit {0}
Fits (p ⊑ q) k = Unit {0}
Fits (p ⊑ᴬ q) k = Unit {0}
Fits unsolvable k = k ≤ 3

fits_kind : (p : Pattern) (k : ℕ) → k ≡ pattern_kind p → Fits p k
unfolding pattern_kind
fits_kind (dead p) k e = tt
fits_kind (p ⊑ q) k e = tt
fits_kind (p ⊑ᴬ q) k e = tt
fits_kind unsolvable k e = omega arith

-- premises are about sets
abbrev plain : Pattern → Bool
plain (dead p) = true
plain (p ⊑ q) = true
plain (p ⊑ᴬ q) = true
plain unsolvable = false

fits_plain : (p : Pattern) (k : ℕ) → T (plain p) → Fits p k
fits_plain (dead p) k t = tt
fits_plain (p ⊑ q) k t = tt
fits_plain (p ⊑ᴬ q) k t = tt
fits_plain unsolvable k t = absurd t

abbrev plain_rule : Rule → Bool
plain_rule (ps ⊢ c) = every plain ps

all_plain : T (every plain_rule rules)
unfolding every rules
all_plain = tt

every_default : {A : Type 0} (t : A → Bool) (xs : List A) (k : ℕ) (d : A) → T (every t xs) → T (t d) → T (t (get_or xs k d))
unfolding every
every_default t [] k d h e = e
every_default t (x ∷ xs) zero d h e = and_left (t x) (every t xs) h
every_default t (x ∷ xs) (suc k) d h e = every_default t xs k d (and_right (t x) (every t xs) h) e

numbered_plain : (n : ℕ) → T (plain_rule (rule_numbered n))
unfolding rule_numbered every
numbered_plain n = every_default plain_rule rules (n - 6) ([] ⊢ dead O) all_plain tt

-- ---- a step and what it says

module _ (f : File) where
  -- a pattern matches what a step says where it matches the step
  match_said_lem : (p : Pattern) (k a b : ℕ) (σ : Letters) → Fits p k
      → (given (eqb k (pattern_kind p)) σ then match_entries f p a b) ≡ match_step f p (saying (judgement_of k a b)) σ
  unfolding match_step saying kind_said left_said right_said judgement_of pattern_kind match_entries given ◌then◌
  match_said_lem (dead p) zero a b σ h = refl
  match_said_lem (p ⊑ q) zero a b σ h = refl
  match_said_lem (p ⊑ᴬ q) zero a b σ h = refl
  match_said_lem unsolvable zero a b σ h = refl
  match_said_lem p (suc zero) a b σ h = refl
  match_said_lem p (suc (suc zero)) a b σ h = refl
  match_said_lem (dead p) (suc (suc (suc k))) a b σ h = rw (eqb-suc-zero (suc (suc k)))
  match_said_lem (p ⊑ q) (suc (suc (suc k))) a b σ h = rw (eqb-suc-suc (suc (suc k)) 0, eqb-suc-zero (suc k))
  match_said_lem (p ⊑ᴬ q) (suc (suc (suc k))) a b σ h = rw (eqb-suc-suc (suc (suc k)) 1, eqb-suc-suc (suc k) 0, eqb-suc-zero k)
  match_said_lem unsolvable (suc (suc (suc k))) a b σ h = let e : k ≡ 0 = omega arith in rw e

  step_said : (p : Pattern) (s : Step) (σ : Letters) → Fits p s.kind
      → match_step f p s σ ≡ match_step f p (saying (judgement_of s.kind s.left s.right)) σ
  unfolding match_step
  step_said p s σ h = match_said_lem p s.kind s.left s.right σ h

  premises_said : (ps : List Pattern) (ks : List ℕ) (σ : Letters) → T (every plain ps)
      → match_premises f ps ks σ ≡ match_said f ps (map (judgement_at f) ks) σ
  unfolding match_premises match_said every judgement_at
  premises_said [] ks σ h = refl
  premises_said (p ∷ ps) [] σ h = refl
  premises_said (p ∷ ps) (k ∷ ks) σ h =
      then_same _ _ _ _ (step_said p (step_at f k) σ (fits_plain p (step_at f k).kind (and_left (plain p) (every plain ps) h)))
      (λ τ. premises_said ps ks τ (and_right (plain p) (every plain ps) h))

  derives_said : (r : Rule) (s : Step) → T (plain_rule r) → s.kind ≡ judgement_kind (derivation r)
      → derives f r s ≡ follows f r (judgement_of s.kind s.left s.right) (map (judgement_at f) s.premises)
  unfolding derives follows judgement_kind
  derives_said (ps ⊢ c) s t e =
      ap is_some (then_same _ _ _ _ (step_said c s no_letters (fits_kind c s.kind e)) (λ τ. premises_said ps s.premises τ t))

  -- a step of the kind that its rule concludes is derived where what it says follows
  pub derives_follows : (n : ℕ) (s : Step) → s.kind ≡ judgement_kind (derivation (rule_numbered n))
      → derives f (rule_numbered n) s
      ≡ follows f (rule_numbered n) (judgement_of s.kind s.left s.right) (map (judgement_at f) s.premises)
  derives_follows n s e = derives_said (rule_numbered n) s (numbered_plain n) e

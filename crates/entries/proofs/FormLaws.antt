-- The kinds of entry and the forms of their bodies say the same.
-- Assumes nothing.
use mathlib.Core.Path.{◌≡◌, refl, subst}
use mathlib.Core.Option.{none, some}
use Prim.Native.Nat.{ℕ, zero, suc, ◌+◌, ◌/◌, ◌≤◌}
use native.Mathlib.Omega.{arith}
use mathlib.Core.List.{List, [], ◌∷◌}
use lib.ListN.{get_elem?}
use Rattle.bodies.specs.declared.Form.{Form}
use Rattle.bodies.specs.declared.Form.TheVariants.{Bare, One, Two}
use Rattle.entries.specs.declared.Section.{Section}
use Rattle.entries.specs.declared.Section.TheVariants.{ActionSets, StateSets}
use Rattle.std.specs.declared.option.Option.TheVariants.{Some, None}
use Rattle.meaning.specs.Result.{Result, refuse, found, ◌>>=◌}
use Rattle.meaning.specs.Layout.{items, ascending, mask, reference, clause, Kind, plain, one, two, clauses, action_kinds, state_kinds}
use Rattle.meaning.specs.Layout.{horn_rule, two_cnf_rule}
use Rattle.entries.specs.Forms.{form_at, action_forms, state_forms, forms_of, sets_of}
use Rattle.bodies.specs.Faults.{form_fits, form_allows, form_body}
use Rattle.file_numbers.specs.ClauseRule.{clause_rule}
use Rattle.bodies.proofs.Faults.{forget}

-- a number that is at least i, and not i
pub next : {k : ℕ} (i : ℕ) → i ≤ k → (k ≡ i → ⊥) → suc i ≤ k
next i h n = omega arith

-- ---- a kind and its form

module _ (bytes : List ℕ) where
  pub record Same {A : Type 0} (k : Kind A) (f : Form) : Type 0 where
    pub fits : (len : ℕ) → k.fits len ≡ form_fits f len
    pub allows : (len : ℕ) → k.allowed len ≡ form_allows f len
    pub body : (p len : ℕ) → forget (k.body p len) ≡ forget (form_body bytes f p len)

  infixr 5 ◌&◌
  pub data Alike {A : Type 0} : List (Kind A) → List Form → Type 0 where
    end : Alike [] []
    ◌&◌ : {k : Kind A} {f : Form} {ks : List (Kind A)} {fs : List Form} → Same k f → Alike ks fs → Alike (k ∷ ks) (f ∷ fs)

  module _ {A : Type 0} where
    -- no kind has the number where no form has it
    pub no_kind : (ks : List (Kind A)) (fs : List Form) → Alike ks fs → (j : ℕ) → form_at fs j ≡ None → get_elem? ks j ≡ none
    no_kind [] [] end j e = refl
    no_kind [] (f ∷ fs) x4 j e = elim x4 [ ]
    no_kind (k ∷ ks) [] x4 j e = elim x4 [ ]
    no_kind (k ∷ ks) (f ∷ fs) (s & a) zero e = let y : ◌≡◌ {A = ℕ} 0 1 = cc in absurd (omega arith)
    no_kind (k ∷ ks) (f ∷ fs) (s & a) (suc j) e = no_kind ks fs a j e

    -- the kind with the number of a form
    pub kind_of_lem : (ks : List (Kind A)) (fs : List Form) → Alike ks fs → (j : ℕ) {f : Form} → form_at fs j ≡ Some f
        → (k : Kind A) × (get_elem? ks j ≡ some k) × Same k f
    kind_of_lem [] (f ∷ fs) x4 j e = elim x4 [ ]
    kind_of_lem (k ∷ ks) [] x4 j e = elim x4 [ ]
    kind_of_lem [] [] end j e = let y : ◌≡◌ {A = ℕ} 0 1 = cc in absurd (omega arith)
    kind_of_lem (k ∷ ks) (f ∷ fs) (s & a) zero {f = g} e = let h : f ≡ g = cc in (k, refl, subst (Same k) h s)
    kind_of_lem (k ∷ ks) (f ∷ fs) (s & a) (suc j) e = kind_of_lem ks fs a j e

  -- ---- the kinds of the format

  same_plain : {A : Type 0} (a : A) → Same (plain a) Bare
  unfolding plain
  same_plain a = record { fits = λ len. refl; allows = λ len. refl; body = λ p len. refl }

  -- whatever becomes of what was read
  kept : {A B C : Type 0} (r : Result A) (f : A → B) (g : A → C) → forget (r >>= λ x. found (f x)) ≡ forget (r >>= λ x. found (g x))
  unfolding ◌>>=◌
  kept (refuse r p) f g = refl
  kept (found a) f g = refl

  same_one : {A : Type 0} (make : ℕ → A) (a : ℕ) → Same (one bytes make a) (One a)
  unfolding one
  same_one make a = record { fits = λ len. refl; allows = λ len. refl; body = λ p len. kept (reference bytes a p) _ _ }

  two_kept : {A B C D : Type 0} (r : Result A) (s : Result B) (f : A → B → C) (g : A → B → D)
      → forget (r >>= λ x. s >>= λ y. found (f x y)) ≡ forget (r >>= λ x. s >>= λ y. found (g x y))
  unfolding ◌>>=◌
  two_kept (refuse r p) s f g = refl
  two_kept (found a) s f g = kept s _ _

  same_two : {A : Type 0} (make : ℕ → ℕ → A) (a b : ℕ) → Same (two bytes make a b) (Two a b)
  unfolding two
  same_two make a b =
      record {
        fits = λ len. refl;
        allows = λ len. refl;
        body = λ p len. two_kept (reference bytes a p) (reference bytes b (p + 2)) _ _;
      }

  pub actions_alike : (m i : ℕ) → Alike (action_kinds bytes m i) (action_forms m i)
  unfolding action_kinds
  actions_alike m i =
      same_plain _
      & record {
        fits = λ len. refl;
        allows = λ len. refl;
        body = λ p len. kept (ascending (reference bytes m) 2 0 p (len / 2)) _ _;
      }
      & same_two _ i i
      & end

  pub states_alike : (n m most i : ℕ) → Alike (state_kinds bytes most n m i) (state_forms n m most i)
  unfolding state_kinds clauses clause_rule
  states_alike n m most i =
      same_plain _
      & same_plain _
      & same_plain _
      & record {
        fits = λ len. refl;
        allows = λ len. refl;
        body = λ p len. kept (items (mask bytes n) 8 p (len / 8)) _ _;
      }
      & record {
        fits = λ len. refl;
        allows = λ len. refl;
        body = λ p len. kept (items (clause bytes n horn_rule) 16 p (len / 16)) _ _;
      }
      & record {
        fits = λ len. refl;
        allows = λ len. refl;
        body = λ p len. kept (items (clause bytes n two_cnf_rule) 16 p (len / 16)) _ _;
      }
      & same_one _ i
      & same_two _ i i
      & same_two _ i i
      & same_two _ i m
      & same_two _ i m
      & end

-- those of a section
pub section_alike : (bytes : List ℕ) (s : Section) (i : ℕ) → Alike bytes ((sets_of bytes s).kinds i) (forms_of s i)
section_alike bytes (ActionSets m) i = actions_alike bytes m i
section_alike bytes (StateSets n m most) i = states_alike bytes n m most i

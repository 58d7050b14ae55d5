-- What a match tells of the letters: what was known stays known, and more may be.
-- Assumes nothing.
use mathlib.Core.Path.{◌≡◌, refl, sym, ap, ◌∙◌, subst, fun_ext}
use mathlib.Core.Option.{Option, none, some}
use Prim.Native.Nat.{ℕ}
use native.Mathlib.Omega.{arith}
use mathlib.Core.Bool.{Bool, true, false}
use lib.Dec.{T, eqb, eqb→eq, eqb_refl}
use Rattle.task.proofs.Tests.{holds}
use Rattle.meaning.specs.Match.{Letters, ◌then◌, given, with_letter, stands_for}

pub no_some : {X Y : Type 0} (x : X) → ◌≡◌ {A = Option X} none (some x) → Y
no_some x e = let z : ◌≡◌ {A = ℕ} 0 1 = cc in absurd (omega arith)

then_out : {X Y : Type 0} (o : Option X) (g : X → Option Y) (y : Y) → (o then g) ≡ some y → (x : X) × (o ≡ some x) × (g x ≡ some y)
unfolding ◌then◌
then_out none g y e = no_some y e
then_out (some x) g y e = (x, refl, e)

pub then_same : {X Y : Type 0} (o o' : Option X) (g g' : X → Option Y) → o ≡ o' → ((x : X) → g x ≡ g' x) → (o then g) ≡ (o' then g')
then_same o o' g g' e h = ap (λ (p : Option _). p then g) e ∙ ap (λ (k : _ → Option _). o' then k) (fun_ext h)

given_out : {X : Type 0} (b : Bool) (x y : X) → given b x ≡ some y → T b × (x ≡ y)
unfolding given
given_out true x y e = (tt, cc)
given_out false x y e = no_some y e

-- τ knows what σ knows
abbrev pub Knows : Letters → Letters → Type 0
Knows σ τ = (x e : ℕ) → σ x ≡ some e → τ x ≡ some e

-- a match took σ to τ: P holds of all letters that know what τ knows
pub record Told (P : Letters → Type 0) (σ τ : Letters) : Type 0 where
  pub keeps : Knows σ τ
  pub shows : (υ : Letters) → Knows τ υ → P υ

pub told_map : {P Q : Letters → Type 0} {σ τ : Letters} → Told P σ τ → ((υ : Letters) → P υ → Q υ) → Told Q σ τ
told_map t g = record { keeps = t.keeps; shows = λ υ k. g υ (t.shows υ k) }

-- nothing was matched
pub told_same : {P : Letters → Type 0} {σ τ : Letters} → σ ≡ τ → ((υ : Letters) → P υ) → Told P σ τ
told_same q p = record { keeps = λ x e k. subst (λ (υ : Letters). υ x ≡ some e) q k; shows = λ υ k. p υ }

pub told_given : (b : Bool) (σ τ : Letters) → given b σ ≡ some τ → Told (λ υ. T b) σ τ
told_given b σ τ h = let g = given_out b σ τ h in told_same g.1 (λ υ. g.0)

-- one match after another
pub told_then : {P Q : Letters → Type 0} (o : Option Letters) (g : Letters → Option Letters) (σ τ : Letters)
    → ((σ' : Letters) → o ≡ some σ' → Told P σ σ') → ((σ' : Letters) → g σ' ≡ some τ → Told Q σ' τ)
    → (o then g) ≡ some τ → Told (λ υ. P υ × Q υ) σ τ
told_then o g σ τ a b h =
    let c = then_out o g τ h in
    let l = a c.0 c.1 in
    let r = b c.0 c.2 in
    record {
      keeps = λ x e k. r.keeps x e (l.keeps x e k);
      shows = λ υ k. (l.shows υ (λ x e m. k x e (r.keeps x e m)), r.shows υ k);
    }

-- a test, then two matches
pub told_two : {P Q : Letters → Type 0} (b : Bool) (g h : Letters → Option Letters) (σ τ : Letters)
    → ((σ' τ' : Letters) → g σ' ≡ some τ' → Told P σ' τ') → ((σ' τ' : Letters) → h σ' ≡ some τ' → Told Q σ' τ')
    → (given b σ then g then h) ≡ some τ → Told (λ υ. (T b × P υ) × Q υ) σ τ
told_two {P} b g h σ τ l r e =
    told_then {P = λ υ. T b × P υ} (given b σ then g) h σ τ
    (λ σ' k. told_then (given b σ) g σ σ' (λ σ'' m. told_given b σ σ'' m) (λ σ'' m. l σ'' σ' m) k) (λ σ' k. r σ' τ k) e

-- ---- one letter

with_same : (x e : ℕ) (σ : Letters) → with_letter x e σ x ≡ some e
unfolding with_letter
with_same x e σ = go (eqb x x) (eqb_refl x)
  where
    go : (b : Bool) → T b → ◌≡◌ {A = Option ℕ} (elim b [ true ↦ some e | false ↦ σ x ]) (some e)
    go true t = refl
    go false t = absurd t

with_other : (x e : ℕ) (σ : Letters) → σ x ≡ none → Knows σ (with_letter x e σ)
unfolding with_letter
with_other x e σ n y e' p = go (eqb y x) refl
  where
    go : (b : Bool) → eqb y x ≡ b → ◌≡◌ {A = Option ℕ} (elim b [ true ↦ some e | false ↦ σ y ]) (some e')
    go true q = no_some e' (sym n ∙ ap σ (sym (eqb→eq y x (holds q))) ∙ p)
    go false q = p

stands : (x e : ℕ) (σ τ : Letters) → stands_for x e σ ≡ some τ → Knows σ τ × (τ x ≡ some e)
unfolding stands_for
stands x e σ τ h = go (σ x) refl
  where
    Stands : Letters → Type 0
    Stands υ = Knows σ υ × (υ x ≡ some e)

    go : (o : Option ℕ) → σ x ≡ o → Stands τ
    go none q =
        let k : some (with_letter x e σ) ≡ some τ = rw (q, stands_for) at h in
        let w : with_letter x e σ ≡ τ = cc in
        subst Stands w (with_other x e σ q, with_same x e σ)
    go (some e') q =
        let g = given_out (eqb e e') σ τ (rw (q, stands_for) at h) in
        let p : e ≡ e' = eqb→eq e e' g.0 in
        subst Stands g.1 ((λ y d r. r), q ∙ ap some (sym p))

-- where letter x was matched with entry e, it stands for e from then on
pub told_letter : (x e : ℕ) (σ τ : Letters) → stands_for x e σ ≡ some τ → Told (λ υ. υ x ≡ some e) σ τ
told_letter x e σ τ h = let s = stands x e σ τ h in record { keeps = s.0; shows = λ υ k. k x e s.1 }

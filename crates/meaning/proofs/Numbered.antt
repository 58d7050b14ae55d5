-- What a check yields: a refusal whose number and place have one property, or a value that has another.
-- Assumes nothing.
use mathlib.Core.Path.{◌≡◌, refl, ap, ◌∙◌}
use Prim.Native.Nat.{ℕ}
use native.Mathlib.Omega.{arith}
use mathlib.Core.Bool.{Bool, true, false}
use mathlib.Core.Option.{Option, none, some}
use lib.Dec.{T}
use Rattle.meaning.specs.Result.{Result, refuse, found, ◌>>=◌, need, known}

pub data Yields (ok : ℕ → ℕ → Type 0) {A : Type 0} (P : A → Type 0) : Result A → Type 0 where
  refused : {r p : ℕ} → ok r p → Yields ok P (refuse r p)
  given : {a : A} → P a → Yields ok P (found a)

-- the same where nothing is said of a value
abbrev pub Numbered : (ℕ → ℕ → Type 0) → {A : Type 0} → Result A → Type 0
Numbered ok x = Yields ok (λ _. Unit {0}) x

pub number_of : {ok : ℕ → ℕ → Type 0} {A : Type 0} {x : Result A} {r p : ℕ} → Numbered ok x → x ≡ refuse r p → ok r p
number_of {r = r} {p = p} (refused {r = n} {p = q} h) e = let a : n ≡ r = cc in let b : q ≡ p = cc in rw (← a, ← b) h
number_of (given h) e = let z : ◌≡◌ {A = ℕ} 0 1 = cc in absurd (omega arith)

-- one check after the other; the second may use what is known of the first one's value
pub then_ok : {ok : ℕ → ℕ → Type 0} {A B : Type 0} {P : A → Type 0} {Q : B → Type 0} {x : Result A} {g : A → Result B}
    → Yields ok P x → ((a : A) → P a → Yields ok Q (g a)) → Yields ok Q (x >>= g)
unfolding ◌>>=◌
then_ok (refused h) k = refused h
then_ok (given {a} h) k = k a h

-- the same one after the other, where what comes second is the same for such a value
pub then_same : {ok : ℕ → ℕ → Type 0} {A B : Type 0} {P : A → Type 0} {x y : Result A} {g h : A → Result B}
    → Yields ok P x → x ≡ y → ((a : A) → P a → g a ≡ h a) → (x >>= g) ≡ (y >>= h)
unfolding ◌>>=◌
then_same {h = h} (refused _) e k = ap (λ z. z >>= h) e
then_same {h = h} (given {a} p) e k = k a p ∙ ap (λ z. z >>= h) e

pub need_ok : {ok : ℕ → ℕ → Type 0} (b : Bool) (r p : ℕ) → ok r p → Yields ok (λ _. T b) (need b r p)
unfolding need
need_ok true r p h = given tt
need_ok false r p h = refused h

pub need_same : {B : Type 0} (b : Bool) (r p : ℕ) {g h : Unit {0} → Result B} → ((u : Unit {0}) → T b → g u ≡ h u)
    → (need b r p >>= g) ≡ (need b r p >>= h)
need_same b r p = then_same (need_ok {ok = λ _ _. Unit {0}} b r p tt) refl

pub known_ok : {ok : ℕ → ℕ → Type 0} {A : Type 0} (o : Option A) (r p : ℕ) → ok r p → Numbered ok (known o r p)
unfolding known
known_ok none r p h = refused h
known_ok (some a) r p h = given tt

pub either_ok : {ok : ℕ → ℕ → Type 0} {A : Type 0} {P : A → Type 0} {x y : Result A} (b : Bool)
    → Yields ok P x → Yields ok P y → Yields ok P (elim b [ true ↦ x | false ↦ y ])
either_ok true h k = h
either_ok false h k = k

-- with a wider property of refusals
pub widen : {ok ok' : ℕ → ℕ → Type 0} {A : Type 0} {P : A → Type 0} {x : Result A}
    → ((r p : ℕ) → ok r p → ok' r p) → Yields ok P x → Yields ok' P x
widen w (refused h) = refused (w _ _ h)
widen w (given h) = given h

pub forget : {ok : ℕ → ℕ → Type 0} {A : Type 0} {P : A → Type 0} {x : Result A} → Yields ok P x → Numbered ok x
forget (refused h) = refused h
forget (given h) = given tt

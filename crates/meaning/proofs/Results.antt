-- The laws of results: what is known where a check gives a value, and what makes it give one.
-- Assumes nothing.
use mathlib.Core.Path.{◌≡◌, refl, sym, ap, ap₂, ◌∙◌, fun_ext}
use mathlib.Core.Logic.{◌⊎◌, inl, inr}
use mathlib.Core.Option.{Option, none, some}
use Prim.Native.Nat.{ℕ}
use native.Mathlib.Omega.{arith}
use mathlib.Core.Bool.{Bool, true, false, ◌&&◌}
use lib.Dec.{T}
use Rattle.meaning.specs.Result.{Result, refuse, found, ◌>>=◌, need, known}

pub no_found : {A Y : Type 0} (r p : ℕ) (a : A) → ◌≡◌ {A = Result A} (refuse r p) (found a) → Y
no_found r p a e = let z : ◌≡◌ {A = ℕ} 0 1 = cc in absurd (omega arith)

pub found_same : {A : Type 0} {x y : A} → found x ≡ found y → x ≡ y
found_same e = cc

-- ---- from a value: the first check gave one, and so did what came after it

pub bind_out : {A B : Type 0} (r : Result A) (g : A → Result B) (y : B) → (r >>= g) ≡ found y
    → (x : A) × (r ≡ found x) × (g x ≡ found y)
unfolding ◌>>=◌
bind_out (refuse r p) g y e = no_found r p y e
bind_out (found x) g y e = (x, refl, e)

-- the same with what was found bound by a λ, for a long `do` block
pub bind_case : {A B Z : Type 0} (r : Result A) (g : A → Result B) (y : B) → (r >>= g) ≡ found y
    → ((x : A) → r ≡ found x → g x ≡ found y → Z) → Z
unfolding ◌>>=◌
bind_case (refuse r p) g y e k = no_found r p y e
bind_case (found x) g y e k = k x refl e

pub need_out : (b : Bool) (r p : ℕ) (u : Unit {0}) → need b r p ≡ found u → T b
unfolding need
need_out true r p u e = tt
need_out false r p u e = no_found r p u e

pub known_out : {A : Type 0} (o : Option A) (r p : ℕ) (a : A) → known o r p ≡ found a → o ≡ some a
unfolding known
known_out none r p a e = no_found r p a e
known_out (some x) r p a e = cc

-- a test first, then the rest
pub need_case : {B Z : Type 0} (b : Bool) (r p : ℕ) (g : Unit {0} → Result B) (y : B) → (need b r p >>= g) ≡ found y
    → (T b → g tt ≡ found y → Z) → Z
unfolding need ◌>>=◌
need_case true r p g y e k = k tt e
need_case false r p g y e k = no_found r p y e

-- ---- from a refusal: the first check gave it, or one that came after

pub bind_fails : {A B : Type 0} (r : Result A) (g : A → Result B) (n p : ℕ) → (r >>= g) ≡ refuse n p
    → (r ≡ refuse n p) ⊎ ((x : A) × (r ≡ found x) × (g x ≡ refuse n p))
unfolding ◌>>=◌
bind_fails (refuse m q) g n p e = let a : m ≡ n = cc in let b : q ≡ p = cc in inl (ap₂ refuse a b)
bind_fails (found x) g n p e = inr (x, refl, e)

pub need_fails : (b : Bool) (r p n q : ℕ) → need b r p ≡ refuse n q → (b ≡ false) × (r ≡ n)
unfolding need
need_fails true r p n q e = no_found n q tt (sym e)
need_fails false r p n q e = (refl, cc)

pub known_fails : {A : Type 0} (o : Option A) (r p n q : ℕ) → known o r p ≡ refuse n q → r ≡ n
unfolding known
known_fails none r p n q e = cc
known_fails (some x) r p n q e = no_found n q x (sym e)

-- ---- to a value, or to a refusal

pub bind_found : {A B : Type 0} {r : Result A} (g : A → Result B) {x : A} → r ≡ found x → (r >>= g) ≡ g x
unfolding ◌>>=◌
bind_found g e = ap (λ s. s >>= g) e

pub bind_in : {A B : Type 0} {r : Result A} (g : A → Result B) {x : A} {y : B} → r ≡ found x → g x ≡ found y → (r >>= g) ≡ found y
bind_in g p q = bind_found g p ∙ q

pub bind_refused : {A B : Type 0} {r : Result A} (g : A → Result B) {n p : ℕ} → r ≡ refuse n p → (r >>= g) ≡ refuse n p
unfolding ◌>>=◌
bind_refused g e = ap (λ s. s >>= g) e

pub need_in : (b : Bool) (r p : ℕ) → T b → need b r p ≡ found tt
unfolding need
need_in true r p t = refl
need_in false r p t = absurd t

pub known_in : {A : Type 0} {o : Option A} {a : A} (r p : ℕ) → o ≡ some a → known o r p ≡ found a
unfolding known
known_in r p e = ap (λ o. known o r p) e

-- ---- the same in each part

pub bind_same : {A B : Type 0} {r r' : Result A} {g g' : A → Result B} → r ≡ r' → ((x : A) → g x ≡ g' x) → (r >>= g) ≡ (r' >>= g')
bind_same {A} {B} {r' = r'} {g = g} e h = ap (λ (s : Result A). s >>= g) e ∙ ap (λ (k : A → Result B). r' >>= k) (fun_ext h)

-- one after the other, however they are bracketed
pub bind_assoc : {A B C : Type 0} (r : Result A) (g : A → Result B) (h : B → Result C) → (r >>= g >>= h) ≡ (r >>= λ x. g x >>= h)
unfolding ◌>>=◌
bind_assoc (refuse r p) g h = refl
bind_assoc (found x) g h = refl

-- ---- two tests in one

pub and_out : (a b : Bool) → T (a && b) → T a × T b
and_out true b t = (tt, t)
and_out false b t = absurd t

pub and_in : (a b : Bool) → T a → T b → T (a && b)
and_in true b s t = t
and_in false b s t = s

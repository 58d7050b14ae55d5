-- A reading under limits beside the full one: alike up to the first breach of a limit, which is refused with 19.
-- Assumes nothing.
use mathlib.Core.Path.{◌≡◌}
use Prim.Native.Nat.{ℕ, suc, ◌≤◌, ◌<◌}
use native.Mathlib.Nat.{le_refl, le_trans}
use native.Mathlib.Omega.{arith}
use mathlib.Core.Bool.{Bool, true, false, ◌&&◌}
use mathlib.Core.List.{List, [], ◌∷◌, ◌++◌, append-nil}
use lib.Dec.{T, leb, leb-zero}
use Rattle.meaning.specs.Result.{Result, refuse, found, ◌>>=◌, need}
use Rattle.meaning.specs.Small.{above}
use Rattle.meaning.proofs.Numbered.{Yields, refused, given, then_ok, widen}
use Rattle.meaning.proofs.LayoutFaults.{Within, need_within}

-- the first place of the list, if any, is not before q
pub data From (q : ℕ) : List ℕ → Type 0 where
  empty : From q []
  first : {b : ℕ} {bs : List ℕ} → q ≤ b → From q (b ∷ bs)

pub from_append : {q : ℕ} {bs cs : List ℕ} → From q bs → From q cs → From q (bs ++ cs)
from_append empty g = g
from_append (first l) g = first l

pub from_lower : {p q : ℕ} {bs : List ℕ} → p ≤ q → From q bs → From p bs
from_lower l empty = empty
from_lower l (first k) = first (le_trans l k)

-- Two readings of one part, from place lo to hi, and its breaches: a fault that comes before any breach, and which both refuse;
-- no fault and no breach; or a breach, refused with 19, before what the second reading refuses, if anything.
pub data Stage (lo hi : ℕ) {A : Type 0} (P : A → Type 0) : Result A → Result A → List ℕ → Type 0 where
  fault : {r q : ℕ} {bs : List ℕ} → Within lo hi r q → From q bs → Stage lo hi P (refuse r q) (refuse r q) bs
  fine : {a : A} → P a → Stage lo hi P (found a) (found a) []
  breach : (p : ℕ) {y : Result A} {bs : List ℕ} → lo ≤ p → p < hi → Yields (Within (suc p) hi) P y
      → Stage lo hi P (refuse 19 p) y (p ∷ bs)

-- between wider bounds
shift : {lo hi lo' hi' r q : ℕ} → lo' ≤ lo → hi ≤ hi' → Within lo hi r q → Within lo' hi' r q
shift l h w = record { number = w.number; low = omega arith; high = omega arith }

-- the second reading by itself
pub second : {lo hi : ℕ} {A : Type 0} {P : A → Type 0} {x y : Result A} {bs : List ℕ}
    → Stage lo hi P x y bs → Yields (Within lo hi) P y
second (fault w f) = refused w
second (fine h) = given h
second (breach p l u h) = widen (λ r q. shift (omega arith) (omega arith)) h

-- from an earlier place on
lower : {lo mid hi : ℕ} {A : Type 0} {P : A → Type 0} {x y : Result A} {bs : List ℕ}
    → lo ≤ mid → Stage mid hi P x y bs → Stage lo hi P x y bs
lower l (fault w f) = fault (shift l (omega arith) w) f
lower l (fine h) = fine h
lower l (breach p k u h) = breach p (omega arith) u h

-- a part that no limit touches
untouched : {lo hi : ℕ} {A : Type 0} {P : A → Type 0} {x : Result A} → Yields (Within lo hi) P x → Stage lo hi P x x []
untouched (refused w) = fault w empty
untouched (given h) = fine h

-- a limit's own test, beside one that passes
tested : {lo hi : ℕ} (p : ℕ) (a b : Bool) → lo ≤ p → p < hi → T b
    → Stage lo hi (λ _. Unit {0}) (need a 19 p) (need b 19 p) (elim a [ true ↦ [] | false ↦ p ∷ [] ])
unfolding need
tested p true true l u t = fine tt
tested p false true l u t = breach p l u (given tt)
tested p a false l u t = absurd t

pub limit : {lo hi : ℕ} (most x p : ℕ) (b : Bool) → lo ≤ p → p < hi → T b
    → Stage lo hi (λ _. Unit {0}) (need (leb x most) 19 p) (need b 19 p) (above most x p)
unfolding above
limit most x p b = tested p (leb x most) b

pub none_above : (most p : ℕ) → above most 0 p ≡ []
unfolding above
none_above most p = rw (leb-zero most, above)

pub from_above : {q : ℕ} (most x p : ℕ) → q ≤ p → From q (above most x p)
unfolding above
from_above {q} most x p l = by (leb x most)
  where
    by : (a : Bool) → From q (elim a [ true ↦ [] | false ↦ p ∷ [] ])
    by true = empty
    by false = first l

-- ---- one part after the other: the first ends at `mid`

module _ {lo hi : ℕ} (mid : ℕ) (l : lo ≤ mid) (u : mid ≤ hi) where
  pub bind : {A B : Type 0} {P : A → Type 0} {Q : B → Type 0} {x y : Result A} {g g' : A → Result B} {bs cs : List ℕ}
      → From mid cs → Stage lo mid P x y bs → ((a : A) → P a → Stage mid hi Q (g a) (g' a) cs)
      → Stage lo hi Q (x >>= g) (y >>= g') (bs ++ cs)
  unfolding ◌>>=◌
  bind f (fault w c) k = fault (shift (omega arith) u w) (from_append c (from_lower w.high f))
  bind f (fine {a = a} h) k = lower l (k a h)
  bind f (breach p m n h) k =
      breach p m (omega arith)
      (then_ok (widen (λ r q. shift (omega arith) u) h) (λ a c. widen (λ r q. shift n (omega arith)) (second (k a c))))

  -- the first is touched by no limit; or the second
  pub first_same : {A B : Type 0} {P : A → Type 0} {Q : B → Type 0} {x : Result A} {g g' : A → Result B} {cs : List ℕ}
      → From mid cs → Yields (Within lo mid) P x → ((a : A) → P a → Stage mid hi Q (g a) (g' a) cs)
      → Stage lo hi Q (x >>= g) (x >>= g') cs
  first_same f h k = bind f (untouched h) k

  pub rest_same : {A B : Type 0} {P : A → Type 0} {Q : B → Type 0} {x y : Result A} {g : A → Result B} {bs : List ℕ}
      → Stage lo mid P x y bs → ((a : A) → P a → Yields (Within mid hi) Q (g a)) → Stage lo hi Q (x >>= g) (y >>= g) bs
  rest_same s k = rw append-nil at (bind empty s (λ a h. untouched (k a h)))

-- a test at the part's first place
pub need_first : {p hi : ℕ} (b : Bool) (r : ℕ) {B : Type 0} {Q : B → Type 0} {g g' : Unit {0} → Result B} {cs : List ℕ}
    → T (leb 1 r && leb r 7) → p ≤ hi → From p cs → ((u : Unit {0}) → T b → Stage p hi Q (g u) (g' u) cs)
    → Stage p hi Q (need b r p >>= g) (need b r p >>= g') cs
need_first {p} b r t u f k = first_same p (le_refl p) u f (need_within p p b r p t (le_refl p) (le_refl p)) k

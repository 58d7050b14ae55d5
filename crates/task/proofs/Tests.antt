-- Laws of tests: of true and false, and of the tests on lists of numbers.
-- Assumes nothing.
use mathlib.Core.Path.{◌≡◌, refl, subst, sym}
use mathlib.Core.Logic.{◌⊎◌, inl, inr}
use Prim.Native.Nat.{ℕ, zero, suc, ◌<◌}
use native.Mathlib.Nat.{not-suc-le-zero, le_of_suc-le-suc}
use mathlib.Core.Bool.{Bool, true, false, not, ◌&&◌, ◌||◌}
use mathlib.Core.List.{List, [], ◌∷◌}
use lib.Dec.{T, eqb, eqb→eq, eqb_refl}
use Rattle.task.specs.Reach.{member, every, distinct}

pub and_left : (a b : Bool) → T (a && b) → T a
and_left true b t = tt
and_left false b t = t

pub and_right : (a b : Bool) → T (a && b) → T b
and_right true b t = t
and_right false b t = absurd t

pub and_both : (a b : Bool) → T a → T b → T (a && b)
and_both true b s t = t
and_both false b s t = s

pub or_cases : (a b : Bool) → T (a || b) → T a ⊎ T b
or_cases true b t = inl tt
or_cases false b t = inr t

pub or_left : (a b : Bool) → T a → T (a || b)
or_left true b t = tt
or_left false b t = absurd t

pub or_right : (a b : Bool) → T b → T (a || b)
or_right true b t = tt
or_right false b t = t

pub excluded : (b : Bool) → T b ⊎ T (not b)
excluded true = inl tt
excluded false = inr tt

pub never : (b : Bool) → T b → T (not b) → ⊥
never true s t = t
never false s t = s

pub not_of : (b : Bool) → (T b → ⊥) → T (not b)
not_of true f = f tt
not_of false f = tt

pub implied : (a b : Bool) → T (not a || b) → T a → T b
implied true b s t = s
implied false b s t = absurd t

-- two tests of which each implies the other are equal
pub both_ways : (a b : Bool) → (T a → T b) → (T b → T a) → a ≡ b
both_ways true true f g = refl
both_ways true false f g = absurd (f tt)
both_ways false true f g = absurd (g tt)
both_ways false false f g = refl

pub holds : {b : Bool} → b ≡ true → T b
holds e = subst T (sym e) tt

pub is_false : (b : Bool) → (T b → ⊥) → b ≡ false
is_false true h = absurd (h tt)
is_false false h = refl

pub is_true : (b : Bool) → T b → b ≡ true
is_true true t = refl
is_true false t = absurd t

pub same : {m n : ℕ} → m ≡ n → T (eqb m n)
same {m} e = subst (λ (k : ℕ). T (eqb m k)) e (eqb_refl m)

-- ---- x is in the list

pub member_first : (x y : ℕ) (ys : List ℕ) → x ≡ y → T (member x (y ∷ ys))
unfolding member
member_first x y ys e = or_left (eqb x y) (member x ys) (same e)

pub member_rest : (x y : ℕ) (ys : List ℕ) → T (member x ys) → T (member x (y ∷ ys))
unfolding member
member_rest x y ys m = or_right (eqb x y) (member x ys) m

pub member_none : (x : ℕ) → T (member x []) → ⊥
unfolding member
member_none x m = m

pub member_cases : (x y : ℕ) (ys : List ℕ) → T (member x (y ∷ ys)) → (x ≡ y) ⊎ T (member x ys)
unfolding member
member_cases x y ys m = elim (or_cases (eqb x y) (member x ys) m) [ inl e ↦ inl (eqb→eq x y e) | inr k ↦ inr k ]

-- ---- each element passes the test

pub every_at : (t : ℕ → Bool) (xs : List ℕ) (x : ℕ) → T (every t xs) → T (member x xs) → T (t x)
unfolding every
every_at t [] x a m = absurd (member_none x m)
every_at t (y ∷ xs) x a m =
    elim (member_cases x y xs m) [
      | inl e ↦ subst (λ (z : ℕ). T (t z)) (sym e) (and_left (t y) (every t xs) a)
      | inr k ↦ every_at t xs x (and_right (t y) (every t xs) a) k
    ]

pub every_of : (t : ℕ → Bool) (xs : List ℕ) → ((x : ℕ) → T (member x xs) → T (t x)) → T (every t xs)
unfolding every
every_of t [] h = tt
every_of t (y ∷ xs) h =
    and_both (t y) (every t xs) (h y (member_first y y xs refl)) (every_of t xs (λ x m. h x (member_rest x y xs m)))

-- ---- no two elements are equal

pub distinct_none : T (distinct [])
unfolding distinct
distinct_none = tt

pub distinct_more : (x : ℕ) (xs : List ℕ) → T (not (member x xs)) → T (distinct xs) → T (distinct (x ∷ xs))
unfolding distinct
distinct_more x xs n d = and_both (not (member x xs)) (distinct xs) n d

-- ---- a test of each number below n

abbrev pub each : (ℕ → Bool) → ℕ → Bool
each t zero = true
each t (suc n) = t 0 && each (λ k. t (suc k)) n

pub each_at : (t : ℕ → Bool) (n k : ℕ) → T (each t n) → k < n → T (t k)
each_at t zero k h l = absurd (not-suc-le-zero l)
each_at t (suc n) zero h l = and_left (t 0) (each (λ k. t (suc k)) n) h
each_at t (suc n) (suc k) h l = each_at (λ k. t (suc k)) n k (and_right (t 0) (each (λ k. t (suc k)) n) h) (le_of_suc-le-suc l)

-- Readings as the code answers them: how a check goes on or stops, and one step of a loop over items.
-- Assumes nothing.
use mathlib.Core.Path.{◌≡◌, refl, sym, ap, ap₂, ◌∙◌}
use Prim.Native.Nat.{ℕ, zero, suc, ◌+◌, ◌-◌, ◌≤◌, ◌<◌}
use native.Mathlib.Omega.{arith}
use mathlib.Core.Bool.{Bool, true, false}
use mathlib.Core.List.{List, ◌∷◌}
use lib.Dec.{leb}
use Rattle.meaning.specs.Result.{Result, refuse, found, ◌>>=◌, need}
use Rattle.meaning.specs.Layout.{items, ascending}
use Rattle.meaning.specs.declared.Fault.{Fault}
use Rattle.bodies.specs.Faults.{Answer, fault, fault_from, first, each}
use Rattle.std.specs.declared.result.Result.TheVariants.{Ok, Err}

-- a reading whose value is forgotten
abbrev pub forget : {A : Type 0} → Result A → Result (Unit {0})
forget (refuse r p) = refuse r p
forget (found a) = found tt

-- ---- the answer

abbrev pub At : ℕ → ℕ → Answer
At n p = Err (record { number = n; place = p })

abbrev pub Fine : Answer
Fine = Ok tt

pub told_fine : {A : Type 0} (r : Result A) → forget r ≡ found tt → Fine ≡ fault r
told_fine (refuse n p) e = let z : ◌≡◌ {A = ℕ} 0 1 = cc in absurd (omega arith)
told_fine (found a) e = refl

pub told_refused : {A : Type 0} (r : Result A) (n p : ℕ) → forget r ≡ refuse n p → At n p ≡ fault r
told_refused (refuse m q) n p e = let i : m ≡ n = cc in let j : q ≡ p = cc in ap₂ At (sym i) (sym j)
told_refused (found a) n p e = let z : ◌≡◌ {A = ℕ} 0 1 = cc in absurd (omega arith)

pub told_alike : {A B : Type 0} (r : Result A) (s : Result B) → forget r ≡ forget s → fault r ≡ fault s
told_alike (refuse n p) s e = told_refused s n p (sym e)
told_alike (found a) s e = told_fine s (sym e)

pub from_fine : {A : Type 0} (d : ℕ) (r : Result A) → forget r ≡ found tt → Fine ≡ fault_from d r
from_fine d (refuse n p) e = let z : ◌≡◌ {A = ℕ} 0 1 = cc in absurd (omega arith)
from_fine d (found a) e = refl

pub from_refused : {A : Type 0} (d : ℕ) (r : Result A) (n p : ℕ) → forget r ≡ refuse n p → At n (d + p) ≡ fault_from d r
from_refused d (refuse m q) n p e = let i : m ≡ n = cc in let j : q ≡ p = cc in ap₂ (λ (x y : ℕ). At x (d + y)) (sym i) (sym j)
from_refused d (found a) n p e = let z : ◌≡◌ {A = ℕ} 0 1 = cc in absurd (omega arith)

pub from_alike : {A B : Type 0} (d : ℕ) (r : Result A) (s : Result B) → forget r ≡ forget s → fault_from d r ≡ fault_from d s
from_alike d (refuse n p) s e = from_refused d s n p (sym e)
from_alike d (found a) s e = from_fine d s (sym e)

-- where there is no fault, there is a value
pub found_from : {A : Type 0} (d : ℕ) (r : Result A) {v : Answer} {u : Unit {0}} → v ≡ Ok u → v ≡ fault_from d r → (x : A) × (r ≡ found x)
found_from d (refuse n p) e f = let z : ◌≡◌ {A = ℕ} 0 1 = cc in absurd (omega arith)
found_from d (found a) e f = (a, refl)

-- ---- one check after another

pub goes_on : {A B : Type 0} {r : Result A} {x : A} (g : A → Result B) → r ≡ found x → (r >>= g) ≡ g x
unfolding ◌>>=◌
goes_on g e = ap (λ s. s >>= g) e

pub stops : {A B : Type 0} {r : Result A} {n p : ℕ} (g : A → Result B) → r ≡ refuse n p → (r >>= g) ≡ refuse n p
unfolding ◌>>=◌
stops g e = ap (λ s. s >>= g) e

pub passed : {B : Type 0} {b : Bool} (n p : ℕ) (g : Unit {0} → Result B) → b ≡ true → (need b n p >>= g) ≡ g tt
unfolding need ◌>>=◌
passed n p g e = ap (λ c. need c n p >>= g) e

pub failed : {B : Type 0} {b : Bool} (n p : ℕ) (g : Unit {0} → Result B) → b ≡ false → (need b n p >>= g) ≡ refuse n p
unfolding need ◌>>=◌
failed n p g e = ap (λ c. need c n p >>= g) e

module _ {B : Type 0} (d n p : ℕ) {b : Bool} (g : Unit {0} → Result B) where
  pub from_passed : b ≡ true → {w : Answer} → w ≡ fault_from d (g tt) → w ≡ fault_from d (need b n p >>= g)
  from_passed e y = y ∙ sym (ap (λ r. fault_from d r) (passed n p g e))

  pub from_failed : b ≡ false → At n (d + p) ≡ fault_from d (need b n p >>= g)
  from_failed e = sym (ap (λ r. fault_from d r) (failed n p g e))

pub forget_after : {A B : Type 0} (r : Result A) (f : A → B) → forget (r >>= λ x. found (f x)) ≡ forget r
unfolding ◌>>=◌
forget_after (refuse n p) f = refl
forget_after (found a) f = refl

pub from_unit : {A : Type 0} (d : ℕ) (r : Result A) {v : Answer} → v ≡ fault_from d r → v ≡ fault_from d (r >>= λ _. found (tt {0}))
unfolding ◌>>=◌
from_unit d (refuse n p) e = e
from_unit d (found a) e = e

module _ {A B : Type 0} (d : ℕ) where
  pub from_on : (r : Result A) (s : Result B) {v w : Answer} {u : Unit {0}} → v ≡ Ok u → v ≡ fault_from d r → w ≡ fault_from d s
      → w ≡ fault_from d (r >>= λ _. s)
  unfolding ◌>>=◌
  from_on (refuse n p) s g e y = let z : ◌≡◌ {A = ℕ} 0 1 = cc in absurd (omega arith)
  from_on (found a) s g e y = y

  -- what is read, and then the rest of the reading
  pub from_then : (r : Result A) (g : A → Result B) {v w : Answer} {u : Unit {0}} → v ≡ Ok u → v ≡ fault_from d r
      → ((x : A) → r ≡ found x → w ≡ fault_from d (g x)) → w ≡ fault_from d (r >>= g)
  unfolding ◌>>=◌
  from_then (refuse n p) g y e h = let z : ◌≡◌ {A = ℕ} 0 1 = cc in absurd (omega arith)
  from_then (found a) g y e h = h a refl

  pub from_stop : (r : Result A) (g : A → Result B) {v w : Answer} {e : Fault} → v ≡ Err e → v ≡ fault_from d r → w ≡ Err e
      → w ≡ fault_from d (r >>= g)
  unfolding ◌>>=◌
  from_stop (refuse n p) g y f h = h ∙ sym y ∙ f
  from_stop (found a) g y f h = let z : ◌≡◌ {A = ℕ} 0 1 = cc in absurd (omega arith)

-- ---- item i of `count`, at place p, and the place q of the next

pub none_yet : {A : Type 0} (left : ℕ → A) (count : ℕ) → left (count - 0) ≡ left count
none_yet left count = let e : count - 0 ≡ count = omega arith in ap left e

pub left_suc : (count i : ℕ) → i < count → count - i ≡ suc (count - (i + 1))
left_suc count i h = omega arith

-- ---- items that are looked at by what each says

module _ (says : ℕ → Answer) (size count i p : ℕ) (h : i < count) where
  pub each_stop : {v : Answer} {e : Fault} → v ≡ Err e → v ≡ says p → v ≡ each says size p (count - i)
  each_stop {v} y f =
      let k : v ≡ first (says p) (each says size (p + size) (count - (i + 1))) = y ∙ ap (λ x. first x (each says size (p + size) (count - (i + 1)))) (sym y ∙ f) in
      k ∙ ap (each says size p) (sym (left_suc count i h))

  pub each_next : {v : Answer} {u : Unit {0}} (q : ℕ) → p + size ≡ q → v ≡ Ok u → v ≡ says p
      → each says size q (count - (i + 1)) ≡ each says size p (count - i)
  each_next q g y f =
      ap (λ (j : ℕ). each says size j (count - (i + 1))) (sym g)
      ∙ ap (λ x. first x (each says size (p + size) (count - (i + 1)))) (sym y ∙ f)
      ∙ ap (each says size p) (sym (left_suc count i h))

-- one item, and those after it
each_one : {A : Type 0} (d : ℕ) (r : Result A) (rs : Result (List A)) {x : Answer} → x ≡ fault_from d rs
    → first (fault_from d r) x ≡ fault_from d (r >>= λ x. rs >>= λ xs. found (x ∷ xs))
unfolding ◌>>=◌
each_one d (refuse n q) rs e = refl
each_one d (found a) (refuse n q) e = e
each_one d (found a) (found xs) e = e

pub each_items : {A : Type 0} (d : ℕ) (read : ℕ → Result A) (size p k : ℕ)
    → each (λ q. fault_from d (read q)) size p k ≡ fault_from d (items read size p k)
unfolding items
each_items d read size p zero = refl
each_items d read size p (suc k) = each_one d (read p) (items read size (p + size) k) (each_items d read size (p + size) k)

module _ (read : ℕ → Result ℕ) (size count : ℕ) where
  pub ascending_next : (i low p q : ℕ) {x : ℕ} → i < count → p + size ≡ q → read p ≡ found x → leb low x ≡ true
      → forget (ascending read size low p (count - i)) ≡ forget (ascending read size (suc x) q (count - (i + 1)))
  unfolding ascending
  ascending_next i low p q {x} h e f t =
      ap (λ (k : ℕ). forget (ascending read size low p k)) (left_suc count i h)
      ∙ ap forget (goes_on _ f ∙ passed 7 p _ t)
      ∙ forget_after (ascending read size (suc x) (p + size) (count - (i + 1))) (λ xs. x ∷ xs)
      ∙ ap (λ (j : ℕ). forget (ascending read size (suc x) j (count - (i + 1)))) e

  pub ascending_low : (i low p : ℕ) {x : ℕ} → i < count → read p ≡ found x → leb low x ≡ false
      → forget (ascending read size low p (count - i)) ≡ refuse 7 p
  unfolding ascending
  ascending_low i low p h f t =
      ap (λ (k : ℕ). forget (ascending read size low p k)) (left_suc count i h) ∙ ap forget (goes_on _ f ∙ failed 7 p _ t)

  pub ascending_end : (i low p : ℕ) → count ≤ i → forget (ascending read size low p (count - i)) ≡ found tt
  unfolding ascending
  ascending_end i low p h = let e : count - i ≡ 0 = omega arith in ap (λ (k : ℕ). forget (ascending read size low p k)) e

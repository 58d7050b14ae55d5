-- Readings as the code answers them, one after the other: what an answer tells of its reading, and how `?` goes on or stops.
-- Assumes nothing.
use mathlib.Core.Path.{◌≡◌, refl, sym, ap, ◌∙◌}
use Prim.Native.Nat.{ℕ}
use native.Mathlib.Omega.{arith}
use mathlib.Core.Bool.{Bool, true, false}
use Rattle.std.specs.declared.result.Result as code
use Rattle.std.specs.declared.result.Result.TheVariants.{Ok, Err}
use Rattle.meaning.specs.declared.Fault.{Fault}
use Rattle.meaning.specs.Result.{Result, refuse, found, ◌>>=◌, need}
use Rattle.meaning.specs.Told.{told}
use Rattle.bodies.proofs.Faults.{forget, passed, failed}

-- readings that refuse alike, and of whose values nothing is told
pub told_same : {A B D : Type 0} (d : D) (r : Result A) (s : Result B) → forget r ≡ forget s
    → ◌≡◌ {A = code.Result D Fault} (told (λ _. d) r) (told (λ _. d) s)
told_same d (refuse n p) (refuse m q) e =
    let f : ℕ → ℕ → Result (Unit {0}) = refuse in
    let i : n ≡ m = cc in let j : p ≡ q = cc in λ k. Err (record { number = i k; place = j k })
told_same d (refuse n p) (found b) e = let z : ◌≡◌ {A = ℕ} 0 1 = cc in absurd (omega arith)
told_same d (found a) (refuse m q) e = let z : ◌≡◌ {A = ℕ} 0 1 = cc in absurd (omega arith)
told_same d (found a) (found b) e = refl

module _ {A B : Type 0} (f : A → B) where
  pub told_ok : (r : Result A) {v : code.Result B Fault} {b : B} → v ≡ told f r → v ≡ Ok b → (x : A) × (r ≡ found x) × (f x ≡ b)
  told_ok (refuse n p) e g = let z : ◌≡◌ {A = ℕ} 0 1 = cc in absurd (omega arith)
  told_ok (found x) e g = (x, refl, cc)

  pub told_err : (r : Result A) {v : code.Result B Fault} {e : Fault} → v ≡ told f r → v ≡ Err e → r ≡ refuse e.number e.place
  told_err (refuse n p) {e = e} g h =
      let i : record { number = n; place = p } ≡ e = cc in
      ap (λ (x : Fault). refuse x.number x.place) i
  told_err (found x) g h = let z : ◌≡◌ {A = ℕ} 0 1 = cc in absurd (omega arith)

  module _ {C D : Type 0} (h : C → D) where
    -- an answer is an error: it is what all of the reading says
    pub told_stops : (r : Result A) (g : A → Result C) {v : code.Result B Fault} {w : code.Result D Fault} {e : Fault}
        → v ≡ told f r → v ≡ Err e → w ≡ Err e → w ≡ told h (r >>= g)
    unfolding ◌>>=◌
    told_stops (refuse n p) g i j k =
        k ∙ (let z : _ ≡ record { number = n; place = p } = cc in ap (λ (x : Fault). Err x) z)
    told_stops (found x) g i j k = let z : ◌≡◌ {A = ℕ} 0 1 = cc in absurd (omega arith)

    -- an answer is a value: the rest of the reading says what all of it says
    pub told_goes : (r : Result A) (g : A → Result C) {v : code.Result B Fault} {w : code.Result D Fault} {b : B}
        → v ≡ told f r → v ≡ Ok b → ((x : A) → r ≡ found x → f x ≡ b → w ≡ told h (g x)) → w ≡ told h (r >>= g)
    unfolding ◌>>=◌
    told_goes (refuse n p) g i j k = let z : ◌≡◌ {A = ℕ} 0 1 = cc in absurd (omega arith)
    told_goes (found x) g i j k = k x refl cc

-- where the answer is the value itself
pub told_is : {A : Type 0} (r : Result A) {v : code.Result A Fault} {a : A} → v ≡ told (λ x. x) r → v ≡ Ok a → r ≡ found a
told_is r e g = let k = told_ok (λ x. x) r e g in k.1 ∙ ap (λ x. found x) k.2

-- a test
module _ {C D : Type 0} (h : C → D) (n p : ℕ) {b : Bool} (g : Unit {0} → Result C) where
  pub told_met : b ≡ true → {w : code.Result D Fault} → w ≡ told h (g tt) → w ≡ told h (need b n p >>= g)
  told_met e y = y ∙ sym (ap (told h) (passed n p g e))

  pub told_unmet : b ≡ false → Err (record { number = n; place = p }) ≡ told h (need b n p >>= g)
  told_unmet e = sym (ap (told h) (failed n p g e))

-- Numbers put together from their bytes.
-- Assumes nothing.
use mathlib.Core.Path.{◌≡◌, refl, sym, ap, ◌∙◌}
use Prim.Native.Nat.{ℕ, suc, ◌+◌, ◌-◌, ◌*◌, ◌^◌, ◌≤◌, ◌<◌}
use native.Mathlib.Nat.{pow-suc, mul_assoc, mul_comm, add-mul}
use native.Mathlib.Omega.{arith}
use native.Mathlib.Decide.{dec_le}
use mathlib.Core.Bool.{Bool, true, false}
use mathlib.Core.List.{List, [], ◌∷◌, ◌++◌}
use lib.ListN.{length, take, drop, get_or, length-drop}
use lib.Dec.{leb}
use lib.Seq.{drop-cons, drop-drop, take-add, length-take-le}
use borrow.Author.Tests.{le-leb, lt-leb, leb-true}
use Rattle.meaning.specs.Bytes.{big_endian, number, inside}
use Rattle.file_numbers.specs.Numbers.{number_at}

-- ---- in the file, and past its end

pub inside_in : (k : ℕ) (f : List ℕ) (p : ℕ) → p + k ≤ length f → inside k f p ≡ true
unfolding inside
inside_in k f p h = le-leb (p + k) (length f) h

pub inside_past : (k : ℕ) (f : List ℕ) (p : ℕ) → length f < p + k → inside k f p ≡ false
unfolding inside
inside_past k f p h = lt-leb (p + k) (length f) h

pub inside_out : (k : ℕ) (f : List ℕ) (p : ℕ) → inside k f p ≡ true → p + k ≤ length f
unfolding inside
inside_out k f p e = leb-true (p + k) (length f) e

pub inside_room : (k : ℕ) (f : List ℕ) (p : ℕ) → k ≤ length f → inside k f p ≡ leb p (length f - k)
inside_room k f p h =
    elim (dec_le (p + k) (length f)) [
      | yes l ↦ inside_in k f p l ∙ sym (le-leb p (length f - k) (omega arith))
      | no l ↦ inside_past k f p (omega arith) ∙ sym (lt-leb p (length f - k) (omega arith))
    ]

pub number_in : (k : ℕ) (f : List ℕ) (p : ℕ) → p + k ≤ length f → number_at k f p ≡ number k f p
unfolding number_at
number_in k f p h = ap (λ (b : Bool). elim b [ true ↦ number k f p | false ↦ 0 ]) (inside_in k f p h)

-- a number read where its bytes are
pub read_in : (k : ℕ) (f : List ℕ) (p : ℕ) {x : ℕ} → p + k ≤ length f → x ≡ number k f p → x ≡ number_at k f p
read_in k f p h e = e ∙ sym (number_in k f p h)

pub number_past : (k : ℕ) (f : List ℕ) (p : ℕ) → length f < p + k → number_at k f p ≡ 0
unfolding number_at
number_past k f p h = ap (λ (b : Bool). elim b [ true ↦ number k f p | false ↦ 0 ]) (inside_past k f p h)

-- and past the end
pub read_past : (k : ℕ) (f : List ℕ) (p : ℕ) → length f < p + k → 0 ≡ number_at k f p
read_past k f p h = sym (number_past k f p h)

-- ---- from its bytes

-- the number before the bytes counts as many times 256 as there are bytes
weight : (a : ℕ) (xs : List ℕ) → big_endian a xs ≡ a * 256 ^ length xs + big_endian 0 xs
unfolding big_endian
weight a [] = omega arith
weight a (x ∷ xs) =
    let P : ℕ = 256 ^ length xs in
    let e : a * 256 * P ≡ a * 256 ^ suc (length xs) = mul_assoc a 256 P
    ∙ ap (λ (n : ℕ). a * n) (mul_comm 256 P ∙ sym (pow-suc 256 (length xs))) in
    omega (arith, weight (a * 256 + x) xs, weight (0 + x) xs, add-mul (a * 256) x P, add-mul 0 x P, e)

append : (a : ℕ) (xs ys : List ℕ) → big_endian a (xs ++ ys) ≡ big_endian (big_endian a xs) ys
unfolding big_endian
append a [] ys = refl
append a (x ∷ xs) ys = append (a * 256 + x) xs ys

-- one byte
pub number_one : (f : List ℕ) (p : ℕ) → p < length f → number 1 f p ≡ get_or f p 0
unfolding number big_endian
number_one f p h = ap (λ (l : List ℕ). big_endian 0 (take 1 l)) (drop-cons f p 0 h) ∙ omega arith

-- j bytes, and k bytes behind them
pub number_cat : (j k : ℕ) (f : List ℕ) (p : ℕ) → p + (j + k) ≤ length f → number (j + k) f p ≡ number j f p * 256 ^ k + number k f (p + j)
unfolding number
number_cat j k f p h =
    let l : length (take k (drop (p + j) f)) ≡ k = length-take-le k (drop (p + j) f) (let e = length-drop (p + j) f in omega arith) in
    ap (big_endian 0) (take-add j k (drop p f) ∙ ap (λ (ys : List ℕ). take j (drop p f) ++ take k ys) (drop-drop j p f))
    ∙ append 0 (take j (drop p f)) (take k (drop (p + j) f))
    ∙ weight (big_endian 0 (take j (drop p f))) (take k (drop (p + j) f))
    ∙ ap (λ (n : ℕ). big_endian 0 (take j (drop p f)) * 256 ^ n + big_endian 0 (take k (drop (p + j) f))) l

pub number_two : (f : List ℕ) (p : ℕ) → p + 2 ≤ length f → number 2 f p ≡ get_or f p 0 * 256 + get_or f (p + 1) 0
number_two f p h = omega (arith, number_cat 1 1 f p h, number_one f p (omega arith), number_one f (p + 1) (omega arith))

pub number_four : (f : List ℕ) (p : ℕ) → p + 4 ≤ length f
    → number 4 f p ≡ get_or f p 0 * 16777216 + get_or f (p + 1) 0 * 65536 + get_or f (p + 2) 0 * 256 + get_or f (p + 3) 0
number_four f p h =
    let e : p + 2 + 1 ≡ p + 3 = omega arith in
    omega (arith, number_cat 2 2 f p h, number_two f p (omega arith), number_two f (p + 2) (omega arith), ap (λ (q : ℕ). get_or f q 0) e)

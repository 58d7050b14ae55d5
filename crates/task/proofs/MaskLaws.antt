-- The mask of the first n facts, 2 ^ min n 64 - 1, as `task::all_facts` gives it.
--     shifted_one      2 ^ n, as a word shifts 1 by n
--     below_64, from-64    the mask where n is below 64, and where it is not
--     within_all       a word is at most the mask just where it is below 2 ^ n: where it has no fact of n or above
--     beyond-all       the other facts of a word, those from n on
-- Assumes nothing.
use mathlib.Core.Path.{◌≡◌, sym, ap, ◌∙◌}
use Prim.Native.Nat.{ℕ, suc, ◌-◌, ◌*◌, ◌%◌, ◌^◌, ◌≤◌, ◌<◌, min}
use native.Mathlib.Nat.{mod-eq_of_lt}
use native.Mathlib.Decide.{dec_lt}
use native.Mathlib.Omega.{arith}
use lib.Dec.{leb, ltb, leb-suc-suc}
use lib.Pow.{pow_pos, pow-lt, pow_mono}
use borrow.Author.Tests.{le-leb, lt-ltb}

pub shifted_one : (n : ℕ) → n < 64 → 1 * 2 ^ n % 18446744073709551616 ≡ 2 ^ n
shifted_one n h = let l : 1 * 2 ^ n < 18446744073709551616 = omega (arith, pow-lt h) in omega (arith, mod-eq_of_lt l)

pub below_64 : (n : ℕ) → n < 64 → 2 ^ n - 1 ≡ 2 ^ min n 64 - 1
below_64 n h = let e : n ≡ min n 64 = omega arith in ap (λ (k : ℕ). 2 ^ k - 1) e

pub from_64 : (n : ℕ) → 64 ≤ n → 18446744073709551615 ≡ 2 ^ min n 64 - 1
from_64 n h = let e : 64 ≡ min n 64 = omega arith in ap (λ (k : ℕ). 2 ^ k - 1) e

pub within_all : (n : ℕ) {top : ℕ} → top ≡ 2 ^ min n 64 - 1 → (m : ℕ) → m < 2 ^ 64 → leb m top ≡ ltb m (2 ^ n)
within_all n {top} e m l = elim (dec_lt n 64) [ yes h ↦ below h | no h ↦ above (omega arith) ]
  where
    below : n < 64 → leb m top ≡ ltb m (2 ^ n)
    below h =
        let f : suc top ≡ 2 ^ n = omega (arith, below_64 n h, pow_pos n) in
        sym (leb-suc-suc m top) ∙ ap (λ (k : ℕ). leb (suc m) k) f

    above : 64 ≤ n → leb m top ≡ ltb m (2 ^ n)
    above h =
        let f : top ≡ 18446744073709551615 = e ∙ sym (from_64 n h) in
        le-leb m top (omega arith) ∙ sym (lt-ltb m (2 ^ n) (omega (arith, pow_mono h)))

pub beyond_all : (n : ℕ) {top : ℕ} → n ≤ 64 → top ≡ 2 ^ min n 64 - 1 → 2 ^ 64 - 1 - top ≡ 2 ^ 64 - 2 ^ n
beyond_all n {top} h e =
    let f : 2 ^ min n 64 ≡ 2 ^ n = (let g : min n 64 ≡ n = omega arith in ap (λ (k : ℕ). 2 ^ k) g) in
    omega (arith, pow_pos n)

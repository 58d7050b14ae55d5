-- Numbers as bytes: what is written reads back, and a number of k bytes is below 256 ^ k.
-- Assumes nothing.
use mathlib.Core.Path.{◌≡◌, refl, ap, ◌∙◌, subst}
use Prim.Native.Nat.{ℕ, zero, suc, ◌+◌, ◌*◌, ◌/◌, ◌%◌, ◌^◌, ◌<◌}
use native.Mathlib.Nat.{pow-suc, pow-le-pow_right, le_trans}
use native.Mathlib.Omega.{arith}
use mathlib.Core.List.{List, [], ◌∷◌, ◌++◌}
use lib.ListN.{length, take, drop, length-append}
use lib.Dec.{ltb, ltb→lt}
use Rattle.task.specs.Reach.{every}
use Rattle.task.proofs.Tests.{and_left, and_right}
use Rattle.meaning.specs.Bytes.{big_endian, bytes_of, number, AreBytes}

pub length_bytes_of : (k x : ℕ) → length (bytes_of k x) ≡ k
unfolding bytes_of
length_bytes_of zero x = refl
length_bytes_of (suc k) x = length-append (bytes_of k (x / 256)) (x % 256 ∷ []) ∙ (let e = length_bytes_of k (x / 256) in omega arith)

big_endian_append : (a : ℕ) (xs ys : List ℕ) → big_endian a (xs ++ ys) ≡ big_endian (big_endian a xs) ys
unfolding big_endian
big_endian_append a [] ys = refl
big_endian_append a (x ∷ xs) ys = big_endian_append (a * 256 + x) xs ys

pub big_endian_bytes_of : (k x : ℕ) → x < 256 ^ k → big_endian 0 (bytes_of k x) ≡ x
unfolding bytes_of big_endian
big_endian_bytes_of zero x h = omega arith
big_endian_bytes_of (suc k) x h =
    let P : ℕ = 256 ^ k in
    let e : 256 ^ suc k ≡ P * 256 = pow-suc 256 k in
    big_endian_append 0 (bytes_of k (x / 256)) (x % 256 ∷ [])
    ∙ ap (λ (y : ℕ). y * 256 + x % 256) (big_endian_bytes_of k (x / 256) (omega arith))
    ∙ omega arith

-- ---- bounds

below_take : (k j a : ℕ) (xs : List ℕ) → AreBytes xs → a < 256 ^ j → big_endian a (take k xs) < 256 ^ (j + k)
unfolding big_endian every
below_take zero j a xs h l = subst (λ (n : ℕ). a < 256 ^ n) (omega arith) l
below_take (suc k) j a [] h l = le_trans l (pow-le-pow_right (omega arith) (omega arith))
below_take (suc k) j a (x ∷ xs) h l =
    let P : ℕ = 256 ^ j in
    let e : 256 ^ suc j ≡ P * 256 = pow-suc 256 j in
    let b : x < 256 = ltb→lt x 256 (and_left (ltb x 256) _ h) in
    let n : suc j + k ≡ j + suc k = omega arith in
    subst (λ (m : ℕ). big_endian (a * 256 + x) (take k xs) < 256 ^ m) n
    (below_take k (suc j) (a * 256 + x) xs (and_right (ltb x 256) _ h) (omega arith))

below_drop : (k p : ℕ) (xs : List ℕ) → AreBytes xs → big_endian 0 (take k (drop p xs)) < 256 ^ (0 + k)
unfolding every
below_drop k zero xs h = below_take k 0 0 xs h (omega arith)
below_drop k (suc p) [] h = below_take k 0 0 [] h (omega arith)
below_drop k (suc p) (x ∷ xs) h = below_drop k p xs (and_right (ltb x 256) _ h)

pub number_lt : (bytes : List ℕ) → AreBytes bytes → (k p : ℕ) → number k bytes p < 256 ^ k
unfolding number
number_lt bytes h k p = subst (λ (n : ℕ). big_endian 0 (take k (drop p bytes)) < 256 ^ n) (omega arith) (below_drop k p bytes h)

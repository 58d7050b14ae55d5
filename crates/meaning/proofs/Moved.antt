-- The bytes of the version 2 file that says the same as one of version 1: where they stand, and the numbers that are read there.
-- Assumes nothing.
use mathlib.Core.Path.{◌≡◌, refl, ap, ◌∙◌, subst, subst⁻¹}
use mathlib.Core.Logic.{◌⊎◌, inl, inr}
use Prim.Native.Nat.{ℕ, zero, suc, ◌+◌, ◌-◌, ◌/◌, ◌%◌, ◌≤◌, ◌<◌}
use native.Mathlib.Omega.{arith}
use mathlib.Core.List.{List, [], ◌∷◌, ◌++◌, append_assoc}
use lib.ListN.{length, take, drop, length-drop}
use lib.Seq.{drop-drop, length-take-le}
use lib.Dec.{leb, ltb, eqb, le→leb, leb→le, ltb→lt, nltb→le, eqb→eq}
use Rattle.task.proofs.Tests.{excluded, both_ways, same}
use Rattle.meaning.specs.Bytes.{big_endian, bytes_of, number, inside, AreBytes}
use Rattle.meaning.specs.Versions.{twin}
use Rattle.meaning.proofs.Numbers.{length_bytes_of, big_endian_bytes_of, number_lt}
use Rattle.meaning.proofs.Suffix.{At, whole, at_next, after_number, after_byte, byte_back, number_back, number_here}

-- ---- tests of moved numbers

pub leb_moved : (m n k : ℕ) → leb (m + k) (n + k) ≡ leb m n
leb_moved m n k =
    both_ways (leb (m + k) (n + k)) (leb m n)
    (λ t. let l = leb→le (m + k) (n + k) t in le→leb m n (omega arith))
    (λ t. let l = leb→le m n t in le→leb (m + k) (n + k) (omega arith))

-- ---- the parts

-- bytes of a front part
front : (n k j : ℕ) (xs zs : List ℕ) → j + k ≤ n → n ≤ length xs → take k (drop j (take n xs ++ zs)) ≡ take k (drop j xs)
front zero zero zero xs zs h l = refl
front zero (suc k) zero xs zs h l = absurd (omega arith)
front zero k (suc j) xs zs h l = absurd (omega arith)
front (suc n) k j [] zs h l = absurd (omega arith)
front (suc n) zero zero (x ∷ xs) zs h l = refl
front (suc n) (suc k) zero (x ∷ xs) zs h l = ap (λ (ys : List ℕ). x ∷ ys) (front n k zero xs zs (omega arith) (omega arith))
front (suc n) k (suc j) (x ∷ xs) zs h l = front n k j xs zs (omega arith) (omega arith)

-- a number that may be a little too large for 4 bytes
abbrev Word : ℕ → ℕ → Type 0
Word x y = (y ≡ x) ⊎ ((y < 8) × (4294967296 ≤ x))

word : (x : ℕ) → x < 4294967304 → Word x (big_endian 0 (bytes_of 4 x))
unfolding bytes_of big_endian
word x l = elim (excluded (ltb x 4294967296)) [
  | inl t ↦ inl (big_endian_bytes_of 4 x (ltb→lt x 4294967296 t))
  | inr t ↦
      let h : 4294967296 ≤ x = nltb→le x 4294967296 t in
      let e : x / 256 ≡ 16777216 = omega arith in
      let r : x % 256 < 8 = omega arith in
      inr (rw e (omega arith), h)
]

module _ (a : List ℕ) (long : 14 ≤ length a) where
  abbrev b : List ℕ
  b = twin a

  -- the number of facts and the start; and what stands behind them
  abbrev kept : List ℕ
  kept = take 9 (drop 5 a)

  abbrev later : List ℕ
  later = bytes_of 8 0 ++ drop 14 a

  kept_length : length kept ≡ 9
  kept_length = let e = length-drop 5 a in length-take-le 9 (drop 5 a) (omega arith)

  parts : b ≡ bytes_of 4 (number 4 a 0 + 8) ++ (2 ∷ (kept ++ later))
  unfolding twin
  parts =
      let n : List ℕ = bytes_of 4 (number 4 a 0 + 8) in
      append_assoc (n ++ 2 ∷ kept) (bytes_of 8 0) (drop 14 a) ∙ append_assoc n (2 ∷ kept) later

  -- what stands from the length, the version, the number of facts, the unknown facts and the goal on
  at_length : At b 0 (bytes_of 4 (number 4 a 0 + 8) ++ (2 ∷ (kept ++ later)))
  at_length = subst (At b 0) parts (whole b)

  at_version : At b 4 (2 ∷ (kept ++ later))
  at_version = after_number b 0 4 (number 4 a 0 + 8) (2 ∷ (kept ++ later)) at_length 4 refl

  at_facts : At b 5 (kept ++ later)
  at_facts = after_byte b 4 2 (kept ++ later) at_version 5 refl

  at_unknown : At b 14 later
  at_unknown = at_next b 5 kept later at_facts 14 (let e = kept_length in omega arith)

  at_goal_lem : At b 22 (drop 14 a)
  at_goal_lem = after_number b 14 8 0 (drop 14 a) at_unknown 22 refl

  -- ---- the numbers

  pub twin_length : length b ≡ length a + 8
  twin_length = let s = at_goal_lem.size in let e = length-drop 14 a in omega arith

  pub version_two : number 1 b 4 ≡ 2
  version_two = byte_back b 4 2 (kept ++ later) at_version

  pub unknown_zero : number 8 b 14 ≡ 0
  unknown_zero = number_back b 14 8 0 (drop 14 a) at_unknown (omega arith)

  pub number_kept : (k p : ℕ) → 5 ≤ p → p + k ≤ 14 → number k b p ≡ number k a p
  unfolding number
  number_kept k p l u =
      let e : 5 + (p - 5) ≡ p = omega arith in
      let d : length (drop 5 a) ≡ length a - 5 = length-drop 5 a in
      let f : drop p b ≡ drop (p - 5) (drop 5 b) = rw (drop-drop (p - 5) 5 b, e) in
      let g : drop p a ≡ drop (p - 5) (drop 5 a) = rw (drop-drop (p - 5) 5 a, e) in
      rw (f, g, at_facts.suffix, front 9 k (p - 5) (drop 5 a) later (omega arith) (omega arith))

  pub number_moved : (k p q : ℕ) → 14 ≤ p → p + 8 ≡ q → number k b q ≡ number k a p
  unfolding number
  number_moved k p q l e =
      let i : 22 + (p - 14) ≡ q = omega arith in
      let j : 14 + (p - 14) ≡ p = omega arith in
      let f : drop q b ≡ drop (p - 14) (drop 22 b) = rw (drop-drop (p - 14) 22 b, i) in
      let g : drop p a ≡ drop (p - 14) (drop 14 a) = rw (drop-drop (p - 14) 14 a, j) in
      rw (f, g, at_goal_lem.suffix)

  pub inside_moved : (k p q : ℕ) → p + 8 ≡ q → inside k b q ≡ inside k a p
  unfolding inside
  inside_moved k p q e =
      let i : q + k ≡ p + k + 8 = omega arith in
      rw (i, twin_length) (leb_moved (p + k) (length a) 8)

  -- the length field says the length in both or in neither
  module _ (bytes : AreBytes a) (short : length a + 8 ≤ 65536) where
    length_read : number 4 b 0 ≡ big_endian 0 (bytes_of 4 (number 4 a 0 + 8))
    length_read = number_here b 0 (bytes_of 4 (number 4 a 0 + 8)) (2 ∷ (kept ++ later)) at_length 4 (length_bytes_of 4 _)

    pub length_says : eqb (number 4 b 0 + 4) (length b) ≡ eqb (number 4 a 0 + 4) (length a)
    length_says =
        let n : ℕ = number 4 a 0 in
        let m : ℕ = number 4 b 0 in
        let l : n < 4294967296 = number_lt a bytes 4 0 in
        let t : length b ≡ length a + 8 = twin_length in
        let w : Word (n + 8) m = subst⁻¹ (Word (n + 8)) length_read (word (n + 8) (omega arith)) in
        elim w [
          | inl e ↦
              both_ways (eqb (m + 4) (length b)) (eqb (n + 4) (length a))
              (λ i. let j = eqb→eq (m + 4) (length b) i in same {m = n + 4} {n = length a} (omega arith))
              (λ i. let j = eqb→eq (n + 4) (length a) i in same {m = m + 4} {n = length b} (omega arith))
          | inr e ↦
              let small : m < 8 = e.0 in
              let large : 4294967296 ≤ n + 8 = e.1 in
              both_ways (eqb (m + 4) (length b)) (eqb (n + 4) (length a))
              (λ i. let j = eqb→eq (m + 4) (length b) i in absurd (omega arith))
              (λ i. let j = eqb→eq (n + 4) (length a) i in absurd (omega arith))
        ]

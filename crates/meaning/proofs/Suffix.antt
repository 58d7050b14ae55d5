-- What stands from a place to the end of a list of bytes, and the numbers that are read there.
-- Assumes nothing.
use mathlib.Core.Path.{◌≡◌, refl, sym, ap, ◌∙◌, subst}
use Prim.Native.Nat.{ℕ, ◌+◌, ◌^◌, ◌≤◌, ◌<◌}
use native.Mathlib.Omega.{arith}
use mathlib.Core.List.{List, [], ◌∷◌, ◌++◌}
use lib.ListN.{length, take, drop, length-append}
use lib.Seq.{drop-drop, drop-append_seam, take_at}
use lib.Dec.{T, le→leb}
use Rattle.meaning.specs.Bytes.{big_endian, bytes_of, number, inside}
use Rattle.meaning.specs.Writing.{file_of}
use Rattle.meaning.proofs.Numbers.{length_bytes_of, big_endian_bytes_of}

-- l is what stands from place p to the end
pub record At (bytes : List ℕ) (p : ℕ) (l : List ℕ) : Type 0 where
  pub suffix : drop p bytes ≡ l
  pub size : p + length l ≡ length bytes

-- what stands behind x
pub at_next : (bytes : List ℕ) (p : ℕ) (x l : List ℕ) → At bytes p (x ++ l) → (q : ℕ) → p + length x ≡ q → At bytes q l
at_next bytes p x l a q e =
    subst (λ (r : ℕ). At bytes r l) e
    (record {
      suffix = sym (drop-drop (length x) p bytes) ∙ ap (drop (length x)) a.suffix ∙ drop-append_seam x l;
      size = (let s = a.size in let n = length-append x l in omega arith);
    })

-- k bytes, of those that stand there, do not run past the end
pub inside_here : (bytes : List ℕ) (p : ℕ) (x l : List ℕ) → At bytes p (x ++ l) → (k : ℕ) → k ≤ length x → T (inside k bytes p)
unfolding inside
inside_here bytes p x l a k h = le→leb (p + k) (length bytes) (let s = a.size in let n = length-append x l in omega arith)

-- the number in the k bytes x
pub number_here : (bytes : List ℕ) (p : ℕ) (x l : List ℕ) → At bytes p (x ++ l) → (k : ℕ) → length x ≡ k → number k bytes p ≡ big_endian 0 x
unfolding number
number_here bytes p x l a k e = ap (λ (y : List ℕ). big_endian 0 (take k y)) a.suffix ∙ ap (big_endian 0) (take_at x l k e)

-- a number that was written in k bytes, and what stands behind it
pub number_back : (bytes : List ℕ) (p k x : ℕ) (l : List ℕ) → At bytes p (bytes_of k x ++ l) → x < 256 ^ k → number k bytes p ≡ x
number_back bytes p k x l a h = number_here bytes p (bytes_of k x) l a k (length_bytes_of k x) ∙ big_endian_bytes_of k x h

pub after_number : (bytes : List ℕ) (p k x : ℕ) (l : List ℕ) → At bytes p (bytes_of k x ++ l) → (q : ℕ) → p + k ≡ q → At bytes q l
after_number bytes p k x l a q e = at_next bytes p (bytes_of k x) l a q (ap (λ (m : ℕ). p + m) (length_bytes_of k x) ∙ e)

-- the same for one byte
pub byte_back : (bytes : List ℕ) (p x : ℕ) (l : List ℕ) → At bytes p (x ∷ l) → number 1 bytes p ≡ x
unfolding big_endian
byte_back bytes p x l a = number_here bytes p (x ∷ []) l a 1 refl ∙ omega arith

pub after_byte : (bytes : List ℕ) (p x : ℕ) (l : List ℕ) → At bytes p (x ∷ l) → (q : ℕ) → p + 1 ≡ q → At bytes q l
after_byte bytes p x l a q e = at_next bytes p (x ∷ []) l a q e

-- ---- a file

pub whole : (bytes : List ℕ) → At bytes 0 bytes
whole bytes = record { suffix = refl; size = omega arith }

-- what stands after the length field
pub file_at : (table certificate : List ℕ) → At (file_of table certificate) 4 (table ++ certificate)
unfolding file_of
file_at table certificate =
    let n : ℕ = length (table ++ certificate) in
    at_next (file_of table certificate) 0 (bytes_of 4 n) (table ++ certificate) (whole (file_of table certificate)) 4
    (ap (λ (k : ℕ). 0 + k) (length_bytes_of 4 n))

-- how long a file is
pub length_file : (table certificate : List ℕ) → length (file_of table certificate) ≡ 4 + (length table + length certificate)
length_file table certificate = sym (file_at table certificate).size ∙ ap (λ (k : ℕ). 4 + k) (length-append table certificate)

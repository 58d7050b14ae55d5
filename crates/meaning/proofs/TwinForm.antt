-- A version 2 file with a zero mask is the twin of a version 1 file: the one with these eight bytes left out.
-- Assumes nothing.
use mathlib.Core.Path.{◌≡◌, refl, sym, ap, ◌∙◌, subst}
use Prim.Native.Nat.{ℕ, ◌+◌, ◌-◌, ◌<◌, ◌≤◌}
use native.Mathlib.Omega.{arith}
use mathlib.Core.List.{List, [], ◌∷◌, ◌++◌}
use lib.ListN.{length, take, drop, take-append-drop, length-drop}
use lib.Seq.{drop-drop, append_snoc, length-take-le, take_at}
use Rattle.meaning.specs.Bytes.{bytes_of, number, AreBytes}
use Rattle.meaning.specs.Versions.{twin}
use Rattle.meaning.specs.Points.{TwinForm}
use Rattle.meaning.proofs.Numbers.{number_lt}
use Rattle.meaning.proofs.Suffix.{At, whole, at_next, number_back, after_number, byte_back, after_byte}
use Rattle.meaning.proofs.Again.{Spans, joined, bytes_take, bytes_drop, number_spans, byte_spans}
use Rattle.meaning.proofs.WrittenBytes.{byte_more, bytes_append, bytes_number}

module _ (bytes : List ℕ) (h : AreBytes bytes) (long : 22 ≤ length bytes) (two : number 1 bytes 4 ≡ 2) (zeros : number 8 bytes 14 ≡ 0)
    (whole_length : number 4 bytes 0 + 4 ≡ length bytes) where
  abbrev n : ℕ
  n = number 4 bytes 0

  -- the number of facts and the start; the rest; and the file of them
  abbrev kept : List ℕ
  kept = take 9 (drop 5 bytes)

  abbrev rest : List ℕ
  rest = drop 22 bytes

  abbrev a : List ℕ
  a = bytes_of 4 (n - 8) ++ (1 ∷ (kept ++ rest))

  kept_length : length kept ≡ 9
  kept_length = let e = length-drop 5 bytes in length-take-le 9 (drop 5 bytes) (omega arith)

  at_version : At a 4 (1 ∷ (kept ++ rest))
  at_version = after_number a 0 4 (n - 8) (1 ∷ (kept ++ rest)) (whole a) 4 refl

  at_facts : At a 5 (kept ++ rest)
  at_facts = after_byte a 4 1 (kept ++ rest) at_version 5 refl

  at_goal_lem : At a 14 rest
  at_goal_lem = at_next a 5 kept rest at_facts 14 (let e = kept_length in omega arith)

  length_read : number 4 a 0 + 8 ≡ n
  length_read =
      let l : n < 4294967296 = number_lt bytes h 4 0 in
      let e : number 4 a 0 ≡ n - 8 = number_back a 0 4 (n - 8) (1 ∷ (kept ++ rest)) (whole a) (omega arith) in
      omega arith

  kept_read : take 9 (drop 5 a) ≡ kept
  kept_read = ap (take 9) at_facts.suffix ∙ take_at kept rest 9 kept_length

  -- the bytes, part by part
  kept_spans : Spans bytes 5 14 kept
  kept_spans = record {
    split = sym (take-append-drop 9 (drop 5 bytes)) ∙ ap (λ (x : List ℕ). kept ++ x) (drop-drop 9 5 bytes);
  }

  front_spans : Spans bytes 0 22 (bytes_of 4 n ++ 2 ∷ kept ++ bytes_of 8 0)
  front_spans =
      let v : Spans bytes 4 5 (2 ∷ []) = subst (λ (x : ℕ). Spans bytes 4 5 (x ∷ [])) two (byte_spans bytes h 4 5 refl (omega arith)) in
      let z : Spans bytes 14 22 (bytes_of 8 0) =
      subst (λ (x : ℕ). Spans bytes 14 22 (bytes_of 8 x)) zeros (number_spans bytes h 8 14 22 refl long) in
      subst (λ (x : List ℕ). Spans bytes 0 22 (x ++ bytes_of 8 0)) (append_snoc (bytes_of 4 n) 2 kept)
      (joined (joined (joined (number_spans bytes h 4 0 4 refl (omega arith)) v) kept_spans) z)

  its_twin : twin a ≡ bytes
  unfolding twin
  its_twin = rw (length_read, kept_read, at_goal_lem.suffix) (sym front_spans.split)

  its_bytes : AreBytes a
  its_bytes =
      bytes_append (bytes_of 4 (n - 8)) (1 ∷ (kept ++ rest)) (bytes_number 4 (n - 8))
      (byte_more 1 (kept ++ rest) (omega arith)
      (bytes_append kept rest (bytes_take 9 (drop 5 bytes) (bytes_drop 5 bytes h)) (bytes_drop 22 bytes h)))

  its_length : length a + 8 ≡ length bytes
  its_length = let s = at_goal_lem.size in let e = length-drop 22 bytes in omega arith

pub twin_form : TwinForm
twin_form bytes h long two zeros e = (
  a bytes h long two zeros e,
  its_bytes bytes h long two zeros e,
  byte_back _ 4 1 _ (at_version bytes h long two zeros e),
  its_length bytes h long two zeros e,
  its_twin bytes h long two zeros e,
)

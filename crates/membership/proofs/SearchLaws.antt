-- States listed in the file, by number, and what a search among states in order rules out.
-- Assumes nothing.
use mathlib.Core.Path.{◌≡◌, ap, subst, sym, ◌∙◌}
use mathlib.Core.Logic.{inl, inr}
use Prim.Native.Nat.{ℕ, zero, suc, ◌+◌, ◌*◌, ◌≤◌, ◌<◌}
use native.Mathlib.Nat.{not-suc-le-zero, le_of_suc-le-suc}
use native.Mathlib.Omega.{arith}
use mathlib.Core.Bool.{Bool}
use mathlib.Core.List.{List}
use lib.ListN.{length}
use Rattle.std.specs.Prelude.{None, Some}
use lib.Dec.{T, eqb→eq}
use Rattle.task.specs.Reach.{member}
use Rattle.task.proofs.Tests.{is_true, is_false, member_none, member_first, member_rest, member_cases}
use Rattle.file_numbers.specs.Numbers.{number_at}
use Rattle.meaning.proofs.Below.{some_at}
use Rattle.membership.specs.Found.{Found}
use Rattle.meaning.specs.Bytes.{number}
use Rattle.file_numbers.proofs.ByteLaws.{number_in}
use Rattle.certificate.specs.declared.Span.{Span}
use Rattle.certificate.specs.Rows.{row_of, state_in, InOrder}
use Rattle.leaves.specs.Holds.{states_at}

-- what holds from one number on up to i, and of i

-- state k of those from a place
abbrev pub word : List ℕ → ℕ → ℕ → ℕ
word bytes at k = number_at 8 bytes (at + 8 * k)

module _ (bytes : List ℕ) where
  word_first : (at : ℕ) → word bytes at 0 ≡ number_at 8 bytes at
  word_first at = ap (number_at 8 bytes) (omega arith)

  word_rest : (at k : ℕ) → word bytes at (suc k) ≡ word bytes (at + 8) k
  word_rest at k = ap (number_at 8 bytes) (omega arith)

  -- each is among the states, and nothing else is
  pub listed_at : (at count k : ℕ) → k < count → T (member (word bytes at k) (states_at bytes at count))
  unfolding states_at
  listed_at at zero k h = absurd (not-suc-le-zero h)
  listed_at at (suc n) zero h = member_first (word bytes at 0) (number_at 8 bytes at) (states_at bytes (at + 8) n) (word_first at)
  listed_at at (suc n) (suc k) h =
      member_rest (word bytes at (suc k)) (number_at 8 bytes at) (states_at bytes (at + 8) n)
      (rw (word_rest at k) (listed_at (at + 8) n k (le_of_suc-le-suc h)))

  pub listed_in_lem : (s at count : ℕ) → T (member s (states_at bytes at count)) → (k : ℕ) × (k < count) × (s ≡ word bytes at k)
  unfolding states_at
  listed_in_lem s at zero m = absurd (member_none s m)
  listed_in_lem s at (suc n) m =
      elim (member_cases s (number_at 8 bytes at) (states_at bytes (at + 8) n) m) [
        | inl e ↦ (0, omega arith, e ∙ sym (word_first at))
        | inr r ↦ (let w = listed_in_lem s (at + 8) n r in (suc w.0, omega arith, w.2 ∙ sym (word_rest at w.0)))
      ]

  -- a word that is read within the file
  pub word_in : (p : ℕ) → p + 8 ≤ length bytes → {x : ℕ} → x ≡ number 8 bytes p → x ≡ number_at 8 bytes p
  word_in p l e = e ∙ sym (number_in 8 bytes p l)

-- ---- a search among states in order

module _ (bytes index : List ℕ) (x : Span) (s : ℕ) where
  -- whether s is among them
  abbrev among : Bool
  among = member s (states_at bytes x.at x.count)

  -- where it is, it is one of those from lo on and before hi, by size
  pub record Bracket (lo hi : ℕ) : Type 0 where
    pub hi_le : hi ≤ x.count
    pub between : (k : ℕ) → k < x.count → s ≡ state_in bytes index x k → (lo ≤ k) × (k < hi)

  module _ (o : InOrder bytes index x) where
    pub search_found : {t k : ℕ} → t ≡ state_in bytes index x k → k < x.count → t ≡ s → Found bytes index x s (Some k)
    search_found {k = k} e l q =
        let m = subst (λ (y : ℕ). T (member y (states_at bytes x.at x.count))) (sym e ∙ q)
        (listed_at bytes x.at x.count (row_of index x k) (o.below k l)) in
        (l, sym e ∙ q, is_true _ m)

    -- a state that is among them is one of them by size
    pub listed_in_order : T among → (k : ℕ) × (k < x.count) × (s ≡ state_in bytes index x k)
    listed_in_order m =
        let (j, l, e) = listed_in_lem bytes s x.at x.count m in
        let (k, n, q) = some_at x.count _ (o.every j l) in
        (k, n, e ∙ sym (eqb→eq _ _ q))

    pub search_missed : {lo hi : ℕ} → Bracket lo hi → hi ≤ lo → Found bytes index x s None
    search_missed b l =
        is_false _ (λ m. let (k, n, e) = listed_in_order m in let v = b.between k n e in omega arith)

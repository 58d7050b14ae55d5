-- The rows of listed states: where there are some, and that states are in order by them or as they stand.
-- Assumes nothing.
use mathlib.Core.Path.{◌≡◌, refl, ap, ◌∙◌}
use Prim.Native.Nat.{ℕ, ◌+◌, ◌*◌, ◌≤◌}
use native.Mathlib.Omega.{arith}
use native.Mathlib.Decide.{dec_lt}
use mathlib.Core.Bool.{true, false, not}
use mathlib.Core.List.{List}
use lib.ListN.{length, get_or}
use borrow.Author.Tests.{eq-eqb, ne_eqb}
use Rattle.task.proofs.Tests.{same}
use Rattle.meaning.proofs.Below.{some_of}
use Rattle.file_numbers.specs.Numbers.{number_at}
use Rattle.sorting.specs.Rows.{state_at, Ascends, Ordered}
use Rattle.certificate.specs.declared.Span.{Span}
use Rattle.certificate.specs.Rows.{first_row, by_rows, row_of, state_in, InOrder}

-- ---- whether there are rows

module _ (index : List ℕ) where
  pub no_rows : get_or index 8960 0 ≡ 0 → by_rows index ≡ false
  unfolding by_rows
  no_rows e = ap not (eq-eqb _ _ e)

  pub some_rows : get_or index 8960 0 ≡ 1 → by_rows index ≡ true
  unfolding by_rows
  some_rows e = ap not (ne_eqb (get_or index 8960 0) 0 (λ z. omega arith))

  module _ (x : Span) (k : ℕ) where
    pub row_none : by_rows index ≡ false → row_of index x k ≡ k
    unfolding row_of
    row_none e = rw (e, row_of) refl

    pub row_some : by_rows index ≡ true → row_of index x k ≡ get_or index (first_row x.at + k) 0
    unfolding row_of
    row_some e = rw (e, row_of) refl

-- ---- states in order

module _ {bytes index : List ℕ} {x : Span} (short : length bytes ≤ 65536) where
  -- as they stand
  pub as_they_stand : x.at + 8 * x.count ≤ length bytes → by_rows index ≡ false → Ascends bytes x.at x.count → InOrder bytes index x
  as_they_stand inside none a = record {
    inside = inside;
    short = short;
    below = λ k l. omega (arith, row_none index x k none);
    every = λ j l. some_of x.count _ j l (same (state j));
    ascend = λ i j l m. elim (dec_lt i j) [
      | yes n ↦ omega (arith, state i, state j, a i j n m)
      | no n ↦ (let q : i ≡ j = omega arith in omega (arith, ap (state_in bytes index x) q))
    ];
  }
    where
      state : (k : ℕ) → state_in bytes index x k ≡ state_at bytes x.at k
      state k = ap (λ (r : ℕ). number_at 8 bytes (x.at + 8 * r)) (row_none index x k none)

  -- by their rows
  pub by_their_rows : by_rows index ≡ true → Ordered bytes x.at x.count index (first_row x.at) → InOrder bytes index x
  by_their_rows some o = record {
    inside = o.room.inside;
    short = short;
    below = λ k l. omega (arith, row_some index x k some, o.below k l);
    every = λ j l. (let w = o.every j l in some_of x.count _ w.0 w.1 (same (state w.0 ∙ w.2)));
    ascend = λ i j l m. omega (arith, state i, state j, o.ascend i j l m);
  }
    where
      state : (k : ℕ) → state_in bytes index x k ≡ state_at bytes x.at (get_or index (first_row x.at + k) 0)
      state k = ap (λ (r : ℕ). number_at 8 bytes (x.at + 8 * r)) (row_some index x k some)

-- where there are no states, they are
pub none_in_order : (bytes index : List ℕ) → length bytes ≤ 65536 → InOrder bytes index (record { at = 0; count = 0 })
none_in_order bytes index short = record {
  inside = omega arith;
  short = short;
  below = λ k l. absurd (omega arith);
  every = λ j l. absurd (omega arith);
  ascend = λ i j l m. absurd (omega arith);
}

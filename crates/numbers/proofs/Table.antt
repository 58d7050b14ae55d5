-- The table of the rules in ranges of numbers, as the code has it. Each range is held to the table by one test of its numbers.
-- Assumes nothing.
use mathlib.Core.Path.{◌≡◌, sym, ap}
use Prim.Native.Nat.{ℕ, ◌+◌, ◌-◌, ◌≤◌, ◌<◌}
use native.Mathlib.Decide.{dec_lt}
use native.Mathlib.Omega.{arith}
use lib.Dec.{T, eqb, eqb→eq, ltb, ltb→lt}
use lib.ListN.{get_or, get_or-eq_default}
use Rattle.task.proofs.Tests.{each, each_at}
use Rattle.numbers.specs.Numbers.{rule_table, premises_of, judgement_kind_of}

-- what a function has at each of so many numbers
ranged : (g : ℕ → ℕ) (from count value : ℕ) → T (each (λ k. eqb value (g (from + k))) count)
    → (n : ℕ) → from ≤ n → n < from + count → value ≡ g n
ranged g from count value t n lo hi =
    let e : from + (n - from) ≡ n = omega arith in
    rw e at (eqb→eq value (g (from + (n - from))) (each_at (λ k. eqb value (g (from + k))) count (n - from) t (omega arith)))

past : (n : ℕ) → 29 ≤ n → get_or rule_table n (0, 0) ≡ (0, 0)
unfolding rule_table
past n l = get_or-eq_default rule_table (0, 0) l

-- ---- premise counts

pub no_premise : (n : ℕ) → n < 7 → 0 ≡ premises_of n
unfolding premises_of rule_table
no_premise n l = ranged premises_of 0 7 0 tt n (omega arith) l

pub two_of_dead : (n : ℕ) → 7 ≤ n → n < 9 → 2 ≡ premises_of n
unfolding premises_of rule_table
two_of_dead = ranged premises_of 7 2 2 tt

pub three_premises : (n : ℕ) → 9 ≤ n → n < 13 → 3 ≡ premises_of n
unfolding premises_of rule_table
three_premises = ranged premises_of 9 4 3 tt

pub one_of_unsolvable : (n : ℕ) → 13 ≤ n → n < 15 → 1 ≡ premises_of n
unfolding premises_of rule_table
one_of_unsolvable = ranged premises_of 13 2 1 tt

pub none_of_within : (n : ℕ) → 15 ≤ n → n < 20 → 0 ≡ premises_of n
unfolding premises_of rule_table
none_of_within = ranged premises_of 15 5 0 tt

pub two_of_within : (n : ℕ) → 20 ≤ n → n < 27 → 2 ≡ premises_of n
unfolding premises_of rule_table
two_of_within = ranged premises_of 20 7 2 tt

pub one_of_within : (n : ℕ) → 27 ≤ n → n < 29 → 1 ≡ premises_of n
unfolding premises_of rule_table
one_of_within = ranged premises_of 27 2 1 tt

pub none_past : (n : ℕ) → 29 ≤ n → 0 ≡ premises_of n
unfolding premises_of
none_past n l = sym (ap (λ (r : ℕ × ℕ). r.0) (past n l))

pub ruleset premise_counts = (
  no_premise,
  two_of_dead,
  three_premises,
  one_of_unsolvable,
  none_of_within,
  two_of_within,
  one_of_within,
  none_past,
)

-- ---- judgement kinds

pub none_is_dead : (n : ℕ) → n < 1 → 0 ≡ judgement_kind_of n
unfolding judgement_kind_of rule_table
none_is_dead n l = ranged judgement_kind_of 0 1 0 tt n (omega arith) l

pub basic_within : (n : ℕ) → 1 ≤ n → n < 5 → 1 ≡ judgement_kind_of n
unfolding judgement_kind_of rule_table
basic_within = ranged judgement_kind_of 1 4 1 tt

pub actions_within : (n : ℕ) → n ≡ 5 → 2 ≡ judgement_kind_of n
unfolding judgement_kind_of rule_table
actions_within n e = rw e

pub dead : (n : ℕ) → 6 ≤ n → n < 13 → 0 ≡ judgement_kind_of n
unfolding judgement_kind_of rule_table
dead = ranged judgement_kind_of 6 7 0 tt

pub unsolvable : (n : ℕ) → 13 ≤ n → n < 15 → 3 ≡ judgement_kind_of n
unfolding judgement_kind_of rule_table
unsolvable = ranged judgement_kind_of 13 2 3 tt

pub within : (n : ℕ) → 15 ≤ n → n < 29 → 1 ≡ judgement_kind_of n
unfolding judgement_kind_of rule_table
within = ranged judgement_kind_of 15 14 1 tt

pub past_is_dead : (n : ℕ) → 29 ≤ n → 0 ≡ judgement_kind_of n
unfolding judgement_kind_of
past_is_dead n l = sym (ap (λ (r : ℕ × ℕ). r.1) (past n l))

pub ruleset judgement_kinds = (none_is_dead, basic_within, actions_within, dead, unsolvable, within, past_is_dead)

-- ---- bounds

-- what a number of the table's rows is below
bound : (g : ℕ → ℕ) → T (each (λ n. ltb (g n) 4) 29) → ((n : ℕ) → 29 ≤ n → 0 ≡ g n) → (n : ℕ) → g n < 4
bound g t none n =
    elim (dec_lt n 29) [
      | yes l ↦ ltb→lt (g n) 4 (each_at (λ k. ltb (g k) 4) 29 n t l)
      | no l ↦ (let e : 0 ≡ g n = none n (omega arith) in omega arith)
    ]

-- a judgement kind is one of 0 to 3
pub kind_bound : (n : ℕ) → judgement_kind_of n < 4
unfolding judgement_kind_of rule_table
kind_bound = bound judgement_kind_of tt past_is_dead

-- and there are at most three premises
pub premises_bound : (n : ℕ) → premises_of n < 4
unfolding premises_of rule_table
premises_bound = bound premises_of tt none_past

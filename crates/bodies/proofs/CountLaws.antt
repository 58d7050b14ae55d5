-- How many facts the masks of a clause have, in words of 64 digits.
-- Assumes nothing.
use mathlib.Core.Path.{◌≡◌, ap, ap₂}
use Prim.Native.Nat.{ℕ, ◌+◌, ◌^◌, ◌<◌}
use mathlib.Core.Bool.{true, false}
use lib.Count.{ones}
use lib.Dec.{leb}
use Rattle.task.proofs.Bits.{ones_are}
use Rattle.meaning.specs.Layout.{horn_rule, two_cnf_rule}
use Rattle.file_numbers.specs.ClauseRule.{clause_rule}

pub horn_count : (p q : ℕ) → p < 2 ^ 64 → leb (ones p) 1 ≡ clause_rule false p q
unfolding clause_rule horn_rule
horn_count p q h = ap (λ (x : ℕ). leb x 1) (ones_are 64 p h)

pub two_count : (p q : ℕ) → p < 2 ^ 64 → q < 2 ^ 64 → leb (ones p + ones q) 2 ≡ clause_rule true p q
unfolding clause_rule two_cnf_rule
two_count p q h l = ap₂ (λ (x y : ℕ). leb (x + y) 2) (ones_are 64 p h) (ones_are 64 q l)

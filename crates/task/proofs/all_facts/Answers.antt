-- `task::all_facts` meets its contract.
-- Assumes nothing.
use mathlib.Core.Path.{◌∙◌, ap}
use Prim.Native.Nat.{ℕ, ◌-◌}
use native.Mathlib.Omega.{arith}
use lib.Pow.{pow_pos}
use borrow.Author.Rules.{rules}
use Rattle.task.proofs.MaskLaws.{shifted_one, below_64, from_64}
use Rattle.task.proofs.all_facts.Goals as goal

pub overflow_sub-result : goal.overflow_sub-result
overflow_sub-result c = omega (arith, shifted_one c.before.args.n (search rules), pow_pos c.before.args.n)

pub returns-then-n-lt64 : goal.returns-then-n-lt64
returns-then-n-lt64 c = ap (λ (x : ℕ). x - 1) (shifted_one c.before.args.n (search rules)) ∙ below_64 c.before.args.n (search rules)

pub returns-else-n-lt64 : goal.returns-else-n-lt64
returns-else-n-lt64 c = from_64 c.before.args.n (search rules)

-- `rule_of` meets its contract: the step's number is looked up.
-- Assumes nothing.
use mathlib.Core.Path.{ap}
use Prim.Native.Nat.{ℕ, ◌<◌}
use native.Mathlib.Omega.{arith}
use borrow.Author.Rules.{rules}
use lib.ListN.{get_or}
use Rattle.certificate.specs.declared.Step as code
use Rattle.certificate.specs.Views.{step_of}
use Rattle.steps.proofs.rule_of.Goals as goal

pub returns : goal.returns
unfolding step_of
returns c l =
    let byte : c.step-s.result.rule < 256 = search rules in
    let same = ap (λ (x : code.Step). x.rule) c.step-s.ensures in
    (ap (λ (x : ℕ). get_or c.args.rules.now x 0) same, omega (arith, same, byte))

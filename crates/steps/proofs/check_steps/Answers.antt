-- `check_steps` meets its contract. The loop's invariant: in the file rewritten by what the table says, the steps that are left say what
-- all of them say, and the rule of the step that comes is known.
-- Assumes nothing.
use native.Mathlib.Omega.{arith}
use mathlib.Core.Path.{refl}
use borrow.Author.Rules.{rules}
use Rattle.certificate.proofs.KnownLaws.{placed_steps}
use Rattle.steps.proofs.StepsLaws.{passing_start, step_count_lem, refused_as, passed_as, steps_passed}
use Rattle.steps.proofs.check_steps.Goals as goal

pub overflow_add-end : goal.overflow_add-end
overflow_add-end c = let n = step_count_lem _ _ c.args.file.now.laid.placed in omega (arith, n.1, c.requires)

pub loop-k-init : goal.loop-k-init
loop-k-init c = (c.rule_of-next.ensures, λ g _. passing_start _ _ _)

pub returns-in-Err : goal.returns-in-Err
returns-in-Err c g stands =
    let n = placed_steps _ _ c.args.file.now.laid.placed in
    rw (c.into.ensures, c.into-in-Err.ensures)
    (refused_as g _ _ _ _ c.args.rules.now _ _ stands (search rules) (omega (arith, n, c.requires))
    (c.loop-k.invariant.0 (search rules)) c.in-Err.ensures _ (c.loop-k.invariant.1 g stands) refl)

pub loop-k-preserved : goal.loop-k-preserved
loop-k-preserved c =
    let n = placed_steps _ _ c.args.file.now.laid.placed in (
      c.rule_of-next-in-loop-k.ensures,
      λ g stands.
          passed_as g _ _ _ _ c.args.rules.now _ _ stands (search rules) (omega (arith, n, c.requires)) (c.loop-k.invariant.0 (search rules))
          c.check_step.ensures (c.loop-k.invariant.1 g stands) c.in_default.is,
    )

pub returns : goal.returns
returns c g stands = steps_passed _ _ _ _ (search rules) (c.loop-k.invariant.1 g stands)

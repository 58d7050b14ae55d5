-- `lookup::step`: the steps stand one after the other from their place.
-- Assumes nothing.
use mathlib.Core.Path.{ap, ◌∙◌}
use native.Mathlib.Omega.{arith}
use Rattle.certificate.specs.Views.{step_of}
use Rattle.certificate.proofs.KnownLaws.{placed_step, placed_fit}
use Rattle.lookup.proofs.step.Goals as goal

pub overflow_add-p : goal.overflow_add-p
overflow_add-p c = let h = placed_fit _ _ c.args.file.now.placed in omega arith

pub step_in-requires : goal.step_in-requires
step_in-requires c =
    let h = placed_fit _ _ c.args.file.now.placed in
    omega (arith, h.after_steps, c.requires)

pub returns : goal.returns
returns c =
    c.step_in.ensures ∙ ap step_of (placed_step _ _ c.args.file.now.placed c.args.k c.requires)

-- `lookup::action`: past the last action the default, else what stands at its place.
-- Assumes nothing.
use mathlib.Core.Path.{ap, ◌∙◌}
use Prim.Native.Nat.{◌≤◌}
use native.Mathlib.Nat.{mul-le-mul_right}
use native.Mathlib.Omega.{arith}
use Rattle.meaning.proofs.Places.{places}
use Rattle.certificate.specs.declared.Actions.{Actions}
use Rattle.certificate.specs.Views.{actions_in}
use Rattle.certificate.specs.Known.{decoded}
use Rattle.certificate.proofs.KnownLaws.{read_action, read_no_action}
use Rattle.lookup.proofs.action.Goals as goal

pub returns-then-all-i : goal.returns-then-all-i
unfolding actions_in
returns-then-all-i c =
    read_no_action _ c.requires.0 c.args.i (rw c.requires.1 at c.if-all-i.true)

pub overflow_add-all : goal.overflow_add-all
unfolding actions_in
overflow_add-all c =
    let o = places (decoded c.args.file.now).version in
    -- the place of an action is a small number
    let e = mul-le-mul_right {m = c.args.all.size} {n = 32} c.args.i (omega (arith, ap (λ (x : Actions). x.size) c.requires.1)) in
    let l : c.args.all.at ≤ 40 = omega (arith, ap (λ (x : Actions). x.at) c.requires.1) in
    record { fits = omega arith }

pub returns : goal.returns
unfolding actions_in
returns c =
    let l = rw c.requires.1 at c.if-all-i.false in
    c.action_at.ensures ∙ rw c.requires.1 (read_action _ c.requires.0 c.args.i (omega (arith, l)))

-- `versions::after_actions` meets its contract.
-- Assumes nothing.
-- all actions together have at most so many bytes
use mathlib.Core.Path.{ap}
use Prim.Native.Nat.{ℕ, ◌*◌, ◌≤◌}
use native.Mathlib.Nat.{mul-le-mul_right}
use native.Mathlib.Omega.{arith}
use Rattle.meaning.proofs.Places.{places, after_actions_lem}
use Rattle.versions.proofs.after_actions.Goals as goal

together : (c : goal.After-action_size) → let n = c.args.count in c.action_size.result * n ≤ 32 * n
together c =
    let a = c.args in
    let o = places a.version in
    mul-le-mul_right a.count (omega (arith, c.action_size.ensures))

pub overflow_add-result : goal.overflow_add-result
overflow_add-result c = let o = places c.args.version in record { fits = omega (arith, c.action_count_at.ensures) }

pub overflow_add-result-2 : goal.overflow_add-result-2
overflow_add-result-2 c =
    let o = places c.args.version in
    let e = together c in
    record { fits = omega (arith, c.action_count_at.ensures) }

pub returns : goal.returns
returns c =
    let a = c.args in
    let e = after_actions_lem a.version a.count in
    let z = ap (λ (k : ℕ). k * a.count) c.action_size.ensures in
    omega (arith, c.action_count_at.ensures)

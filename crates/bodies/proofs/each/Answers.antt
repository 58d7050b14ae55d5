-- `bodies::each` meets its contract.
-- Assumes nothing.
use mathlib.Core.Path.{◌≡◌, ◌∙◌}
use Prim.Native.Nat.{◌+◌, ◌*◌}
use native.Mathlib.Omega.{arith}
use borrow.Author.Rules.{rules}
use Rattle.bodies.proofs.Faults.{each_stop, each_next}
use Rattle.bodies.proofs.each.Goals as goal

pub returns-in_err-item : goal.returns-in_err-item
returns-in_err-item g c says agrees =
    let a = c.args in
    let i = c.loop-i.i in
    let e : c.from_residual.result ≡ c.item.result = search rules in
    e
    ∙ each_stop says a.size a.count i (a.size * i) (omega arith) c.in_err-item.was (agrees i _ (omega arith) c.item.ensures)
    ∙ c.loop-i.invariant says agrees

pub loop-i-preserved : goal.loop-i-preserved
loop-i-preserved g c says agrees =
    let a = c.args in
    let i = c.loop-i.i in
    each_next says a.size a.count i (a.size * i) (omega arith) (a.size * (i + 1)) (omega arith) c.in_ok-item.was
    (agrees i _ (omega arith) c.item.ensures)
    ∙ c.loop-i.invariant says agrees

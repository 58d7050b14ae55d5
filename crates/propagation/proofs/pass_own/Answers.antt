-- `propagation::pass_own` meets its contract.
-- Assumes nothing.
use Rattle.std.proofs.Common.{true, rules}
use Rattle.propagation.proofs.PassLaws.{passed_more, passed_early}
use Rattle.propagation.specs.Clauses.{OfOwn}
use Rattle.propagation.specs.Propagation.{Meets, NoneIn, PassedTo}
use Rattle.propagation.proofs.pass_own.Goals as goal

pub returns-in_err-x : goal.returns-in_err-x
returns-in_err-x c =
    let a = c.args in
    let looked : NoneIn (Meets (OfOwn a.ends a.set a.by c.loop-i.i)) c.loop-i.x =
    rw (c.pulled.ensures, c.own_clause.ensures) at c.in_err-x.ensures in
    rw c.from_residual.ensures (passed_early (OfOwn a.ends a.set a.by) _ _ (search rules) c.loop-i.invariant looked)

pub loop-i-preserved : goal.loop-i-preserved
loop-i-preserved c =
    let a = c.args in
    let looked : PassedTo true (OfOwn a.ends a.set a.by c.loop-i.i) c.loop-i.x c.in_ok-x.x =
    rw (c.pulled.ensures, c.own_clause.ensures) at c.in_ok-x.ensures in
    passed_more (OfOwn a.ends a.set a.by) _ c.loop-i.invariant looked

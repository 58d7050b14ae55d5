-- `propagation::pass_touched` meets its contract.
-- Assumes nothing.
use native.Mathlib.Omega.{arith}
use native.Mathlib.Nat.{le_refl}
use Rattle.std.specs.Prelude.{Some}
use Rattle.propagation.proofs.PassLaws.{passed_any, passed_more, passed_early}
use Rattle.propagation.proofs.RestLaws.{passed_missed}
use Rattle.propagation.specs.Clauses.{OfWords, Below}
use Rattle.propagation.specs.Propagation.{Meets, NoneIn, PassedTo}
use Rattle.propagation.proofs.pass_touched.Goals as goal

pub returns : goal.returns
returns c =
    let a = c.args in
    let i = c.loop-j.invariant in
    passed_missed a.file.now a.s a.by a.base _ _ c.loop-j.i a.s.count c.requires.based i.0 (le_refl _) c.since.ensures
    c.in_default.ensures i.1

pub returns-in_err-x : goal.returns-in_err-x
returns-in_err-x c =
    let a = c.args in
    let h = c.in-Some.ensures in
    let upto : PassedTo a.two (Below (OfWords a.file.now a.s.at a.by) c.in-Some.j) a.start c.loop-j.x =
    passed_missed a.file.now a.s a.by a.base _ _ c.loop-j.i c.in-Some.j c.requires.based h.from (omega (arith, h.within))
    c.since.ensures h.past c.loop-j.invariant.1 in
    let looked : NoneIn (Meets (OfWords a.file.now a.s.at a.by c.in-Some.j)) c.loop-j.x =
    rw (c.pulled.ensures, c.words_in.ensures) at c.in_err-x.ensures in
    rw c.from_residual.ensures (passed_early (OfWords a.file.now a.s.at a.by) _ _ h.within upto looked)

pub loop-j-preserved : goal.loop-j-preserved
loop-j-preserved c =
    let a = c.args in
    let h = c.in-Some.ensures in
    let upto : PassedTo a.two (Below (OfWords a.file.now a.s.at a.by) c.in-Some.j) a.start c.loop-j.x =
    passed_missed a.file.now a.s a.by a.base _ _ c.loop-j.i c.in-Some.j c.requires.based h.from (omega (arith, h.within))
    c.since.ensures h.past c.loop-j.invariant.1 in
    let looked : PassedTo a.two (OfWords a.file.now a.s.at a.by c.in-Some.j) c.loop-j.x c.in_ok-x.x =
    passed_any a.two _ _ (Some c.in_ok-x.x) (rw (c.pulled.ensures, c.words_in.ensures) at c.in_ok-x.ensures) in
    (omega (arith, h.within), passed_more (OfWords a.file.now a.s.at a.by) _ upto looked)

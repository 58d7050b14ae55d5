-- `clauses::refuted` meets its contract.
-- Assumes nothing.
use Rattle.std.proofs.Common.{rules}
use mathlib.Core.Path.{◌≡◌}
use Prim.Native.Nat.{◌≤◌}
use native.Mathlib.Omega.{arith}
use mathlib.Core.List.{List}
use lib.ListN.{length, length-take}
use Rattle.leaves.specs.declared.Leaf.{Leaf}
use Rattle.leaves.specs.Leaves.{leaves_in}
use Rattle.task.proofs.Tests.{holds}
use Rattle.task.proofs.MaskLaws.{beyond_all}
use Rattle.propagation.specs.declared.Setting.{Setting}
use Rattle.propagation.specs.Propagation.{OpposedTo}
use Rattle.clauses.proofs.SetLaws.{InWords}
use Rattle.clauses.proofs.StartLaws.{start_clause, nothing, start_ready, tells_stuck, tells_unmet, tells_worth, tells_none}
use Rattle.clauses.proofs.refuted.Goals as goal

-- the first two right leaves are two
two : (right : List Leaf) → 2 ≤ length right → length (leaves_in right 2) ≡ 2
unfolding leaves_in
two right l = omega (arith, length-take 2 right)

-- the action applies in no state
pub returns-in_default : goal.returns-in_default
returns-in_default c =
    let s = c.requires in
    let a = c.args in
    let k : Setting = record { ends = a.ends; two = a.two; action = a.a } in
    let words : InWords a.ends = (search rules, search rules, search rules, search rules) in
    tells_stuck a.file.now a.left.now (leaves_in a.right.now 2) k words s.facts_bound.0 s.facts_bound.1 s.clausal (two _ s.pair.0) s.pair.1
    (rw (beyond_all a.ends.facts s.facts_bound.0 c.all_facts.ensures) at c.in_default.ensures)

-- it applies in none that meets the left clauses
pub returns-in_default-solve : goal.returns-in_default-solve
returns-in_default-solve c =
    let s = c.requires in
    let a = c.args in
    let starts : OpposedTo (start_clause a.ends.facts a.a) nothing c.in-Some.x =
    rw (beyond_all a.ends.facts s.facts_bound.0 c.all_facts.ensures) at c.in-Some.ensures in
    let k : Setting = record { ends = a.ends; two = a.two; action = a.a } in
    let words : InWords a.ends = (search rules, search rules, search rules, search rules) in
    tells_unmet a.file.now a.left.now (leaves_in a.right.now 2) k words s.facts_bound.0 s.facts_bound.1 s.clausal (two _ s.pair.0) s.pair.1
    _ starts c.in_default-solve.ensures

-- the search starts where the action applies, and no fact is on but the task's
pub seek-requires-clause-ready : goal.seek-requires-clause-ready
seek-requires-clause-ready c =
    let s = c.requires in
    let a = c.args in
    let starts : OpposedTo (start_clause a.ends.facts a.a) nothing c.in-Some.x =
    rw (beyond_all a.ends.facts s.facts_bound.0 c.all_facts.ensures) at c.in-Some.ensures in
    start_ready _ _ a.ends.facts s.facts_bound.0 a.a _ _ starts c.in-Some-solve.ensures

pub worth-requires : goal.worth-requires
worth-requires c =
    let s = c.requires in
    let a = c.args in
    let starts : OpposedTo (start_clause a.ends.facts a.a) nothing c.in-Some.x =
    rw (beyond_all a.ends.facts s.facts_bound.0 c.all_facts.ensures) at c.in-Some.ensures in
    start_ready _ _ a.ends.facts s.facts_bound.0 a.a _ _ starts c.in-Some-solve.ensures

pub returns-then-seek : goal.returns-then-seek
unfolding leaves_in
returns-then-seek c =
    let s = c.requires in
    let a = c.args in
    let starts : OpposedTo (start_clause a.ends.facts a.a) nothing c.in-Some.x =
    rw (beyond_all a.ends.facts s.facts_bound.0 c.all_facts.ensures) at c.in-Some.ensures in
    let k : Setting = record { ends = a.ends; two = a.two; action = a.a } in
    let words : InWords a.ends = (search rules, search rules, search rules, search rules) in
    tells_worth a.file.now a.left.now (leaves_in a.right.now 2) k words s.facts_bound.0 s.facts_bound.1 s.clausal (two _ s.pair.0) s.pair.1
    _ _ starts c.in-Some-solve.ensures c.seek.ensures (holds c.if-seek.true) c.worth.ensures

pub returns : goal.returns
unfolding leaves_in
returns c =
    let s = c.requires in
    let a = c.args in
    let starts : OpposedTo (start_clause a.ends.facts a.a) nothing c.in-Some.x =
    rw (beyond_all a.ends.facts s.facts_bound.0 c.all_facts.ensures) at c.in-Some.ensures in
    let k : Setting = record { ends = a.ends; two = a.two; action = a.a } in
    let words : InWords a.ends = (search rules, search rules, search rules, search rules) in
    tells_none a.file.now a.left.now (leaves_in a.right.now 2) k words s.facts_bound.0 s.facts_bound.1 s.clausal (two _ s.pair.0) s.pair.1
    _ _ starts c.in-Some-solve.ensures c.seek.ensures c.if-seek.false

-- `inclusion::one_refutes`: either search tells whether the action makes the statement untrue.
-- Assumes nothing.
use mathlib.Core.Logic.Iff
use lib.ListN.{length-take}
use native.Mathlib.Omega.{arith}
use Rattle.std.proofs.lemmas.List.{get_or-take}
use Rattle.leaves.specs.Leaves.{no_leaf, leaf_in, leaves_in}
use Rattle.inclusion.proofs.RightTwo.{unlisted_both, countered_both}
use Rattle.inclusion.proofs.one_refutes.Goals as goal

pub slice_bounds-moved-end : goal.slice_bounds-moved-end
slice_bounds-moved-end c = omega (arith, length-take c.args.x.now.told.left_count c.args.x.now.left.now, c.requires.searchable.room_left)

pub slice_bounds-shown-end : goal.slice_bounds-shown-end
slice_bounds-shown-end c = omega (arith, length-take c.args.x.now.told.right_count c.args.x.now.right.now, c.requires.searchable.room_right)

pub shown-requires-clause-anchored : goal.shown-requires-clause-anchored
unfolding leaf_in leaves_in
shown-requires-clause-anchored c =
    let s = c.requires.searchable in
    let w = s.anchored c.if-told.true in
    (omega (arith, length-take c.args.x.now.told.left_count c.args.x.now.left.now, w.0, s.room_left), rw (get_or-take _ c.args.x.now.left.now _ no_leaf w.0) w.1)

pub shown-requires-clause-each : goal.shown-requires-clause-each
unfolding leaves_in
shown-requires-clause-each c = (c.requires.searchable.orderly_left, c.requires.searchable.orderly_right)

pub returns-then-told : goal.returns-then-told
unfolding leaves_in
returns-then-told c = c.shown.ensures

pub refuted-requires-clause-clausal : goal.refuted-requires-clause-clausal
unfolding leaves_in
refuted-requires-clause-clausal c = c.requires.searchable.clausal_left c.if-told.false

pub refuted-requires-clause-pair : goal.refuted-requires-clause-pair
unfolding leaves_in
refuted-requires-clause-pair c =
    let s = c.requires.searchable in
    let q = c.if-told.false in
    (s.pair, unlisted_both c.args.x.now.right.now _ (s.few_right q) s.pair s.no_more (s.clausal_right q))

pub returns : goal.returns
unfolding leaves_in
returns c =
    let s = c.requires.searchable in
    let q = c.if-told.false in
    Iff.trans (c.refuted.ensures.finds, c.refuted.ensures.sees) (countered_both c.args.x.now.right.now _ (s.few_right q) s.pair s.no_more _ _ _ _)

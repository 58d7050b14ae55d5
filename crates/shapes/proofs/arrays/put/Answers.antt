-- `arrays::put` meets its contract: the leaves of what was taken of the entries passed so far stand in the array.
-- Assumes nothing.
use mathlib.Core.Path.{refl, sym, ap, ◌∙◌}
use Prim.Native.Nat.{◌<◌}
use native.Mathlib.Omega.{arith}
use borrow.Author.Rules.{rules}
use lib.ListN.{length, length-set}
use Rattle.meaning.specs.Shapes.{keep}
use Rattle.shapes.specs.Arrays.{picked}
use Rattle.trees.specs.Trees.{list_of}
use Rattle.trees.proofs.TreeLaws.{count_list}
use Rattle.shapes.proofs.ArrayLaws.{put_none, put_taken, put_not_taken, put_all}
use Rattle.shapes.proofs.arrays.put.Goals.{in-Some, in_default}
use Rattle.shapes.proofs.arrays.put.Goals as goal

pub loop-e-init : goal.loop-e-init
unfolding picked keep
loop-e-init g c = record { few = omega arith; long = refl; written = λ t a h. put_none _ _ _ _ }

pub bounds-out-n : goal.bounds-out-n
bounds-out-n g c =
    let v = c.loop-e.invariant in
    omega (arith, v.few, v.long, c.loop-e-test.true, ap length c.entries-e-items.ensures, count_list c.args.xs.now, c.requires.room)

pub offset_bounds-out-n : goal.offset_bounds-out-n
offset_bounds-out-n g c =
    let v = c.loop-e.invariant in
    record {
      fits = omega (
        arith,
        v.few,
        v.long,
        c.loop-e-test.true,
        ap length c.entries-e-items.ensures,
        count_list c.args.xs.now,
        c.requires.room,
        c.requires.small,
      );
    }

pub loop-e-preserved : goal.loop-e-preserved
loop-e-preserved g c =
    let v = c.loop-e.invariant in
    elim c.match-take.branch [
      | in-Some w ↦ (
          let l : c.loop-e.n < length c.loop-e.out = omega (
            arith,
            v.few,
            v.long,
            c.loop-e-test.true,
            ap length c.entries-e-items.ensures,
            count_list c.args.xs.now,
            c.requires.room,
          ) in
          rw (w.out-is, w.n-is) (record {
            few = omega (arith, v.few);
            long = length-set c.loop-e.out c.loop-e.n _ ∙ v.long;
            written = λ t a h.
                put_taken _ t a _ _ _ _ _ _ c.loop-e-test.true _ _ (v.written t a h) _
                (sym w.in-Some.is ∙ h _ _ c.take.ensures) l _ w.leaf_of.ensures;
          }))
      | in_default w ↦ rw (w.out-is, w.n-is) (record {
        few = omega (arith, v.few);
        long = v.long;
        written = λ t a h.
            put_not_taken _ t a _ _ _ _ _ _ c.loop-e-test.true _ _ (v.written t a h)
            (search (rules, w.in_default.is) ∙ h _ _ c.take.ensures);
      })
    ]

pub returns : goal.returns
unfolding list_of
returns g c =
    let v = c.loop-e.invariant in
    let n = ap length c.entries-e-items.ensures ∙ count_list c.args.xs.now in
    record { few = (omega (arith, v.few, n), v.long); written = λ t a h. put_all _ t a _ _ _ _ _ _ _ _ _ (v.written t a h) c.loop-e-test.false c.entries-e-items.ensures }

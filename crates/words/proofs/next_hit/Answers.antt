-- `words::next_hit` meets its contract: turned twice, the masks are as they were.
-- Assumes nothing.
use mathlib.Core.Path.{◌≡◌, ap, ◌∙◌}
use borrow.Author.Rules.{rules}
use native.Mathlib.Omega.{arith}
use Rattle.words.specs.Words.{turned_masks}
use Rattle.words.proofs.HitLaws.{masks_twice}
use Rattle.words.proofs.next_hit.Goals as goal

pub returns-then-hit-ne0 : goal.returns-then-hit-ne0
returns-then-hit-ne0 c =
    let a = c.args in
    let e : turned_masks c.turned_masks-m.result ≡ a.wanted =
    ap turned_masks c.turned_masks-m.ensures ∙ masks_twice a.wanted (search rules) (search rules) in
    record {
      from = c.loop-j.invariant.0;
      within = c.loop-j-test.true;
      past = rw e at c.loop-j.invariant.1;
      there = λ k. c.if-hit-ne0.true (c.hit.ensures.1 (rw e k));
    }

pub returns : goal.returns
returns c =
    let a = c.args in
    let e : turned_masks c.turned_masks-m.result ≡ a.wanted =
    ap turned_masks c.turned_masks-m.ensures ∙ masks_twice a.wanted (search rules) (search rules) in
    let past = rw e at c.loop-j.invariant.1 in
    λ j l h. past j l (omega arith)

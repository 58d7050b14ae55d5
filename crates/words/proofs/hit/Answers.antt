-- `words::hit` meets its contract.
-- Assumes nothing.
use borrow.Author.Rules.{rules}
use Prim.Native.Nat.{◌+◌, ◌*◌}
use Rattle.file_numbers.specs.Numbers.{clause_at, number_at}
use Rattle.file_numbers.proofs.ByteLaws.{number_in}
use Rattle.words.proofs.HitLaws.{hit_misses, hit_body}
use Rattle.words.specs.Words.{words_at}
use Rattle.words.proofs.hit.Goals as goal

pub returns-then-m : goal.returns-then-m
unfolding words_at clause_at
returns-then-m c =
    let a = c.args in
    rw (number_in 8 a.file.now (a.at + 16 * a.i) (search rules), number_in 8 a.file.now (a.at + 16 * a.i + 8) (search rules))
    (rw (c.u64_turned-p.ensures.1, c.u64_turned-n.ensures.1)
    (hit_misses a.m _ _ c.if-m.true c.u64_turned-p.ensures.0 c.u64_turned-n.ensures.0 (search rules) (search rules)))

-- only the body of a Horn clause
pub returns : goal.returns
unfolding words_at clause_at
returns c =
    let a = c.args in
    rw (number_in 8 a.file.now (a.at + 16 * a.i + 8) (search rules))
    (rw c.u64_turned-n.ensures.1 (hit_body a.m (number_at 8 a.file.now (a.at + 16 * a.i)) _ c.if-m.false
    c.u64_turned-n.ensures.0 (search rules)))

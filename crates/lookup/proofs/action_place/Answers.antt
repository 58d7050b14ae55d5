-- `lookup::action_place` meets its contract: a number past its part of the table has no place.
-- Assumes nothing.
use mathlib.Core.Path.{sym}
use Rattle.certificate.specs.Index.{action_place}
use Rattle.certificate.proofs.IndexLaws.{in_part, past_part}
use Rattle.lookup.proofs.action_place.Goals as goal

pub returns-then-a-lt256 : goal.returns-then-a-lt256
unfolding action_place
returns-then-a-lt256 c = sym (in_part _ _ _ c.if-a-lt256.true)

pub returns-else-a-lt256 : goal.returns-else-a-lt256
unfolding action_place
returns-else-a-lt256 c = sym (past_part _ _ _ c.if-a-lt256.false)

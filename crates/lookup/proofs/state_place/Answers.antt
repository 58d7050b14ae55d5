-- `lookup::state_place` meets its contract: a number past its part of the table has no place.
-- Assumes nothing.
use mathlib.Core.Path.{sym}
use Rattle.certificate.specs.Index.{state_place}
use Rattle.certificate.proofs.IndexLaws.{in_part, past_part}
use Rattle.lookup.proofs.state_place.Goals as goal

pub returns-then-e-lt512 : goal.returns-then-e-lt512
unfolding state_place
returns-then-e-lt512 c = sym (in_part _ _ _ c.if-e-lt512.true)

pub returns-else-e-lt512 : goal.returns-else-e-lt512
unfolding state_place
returns-else-e-lt512 c = sym (past_part _ _ _ c.if-e-lt512.false)

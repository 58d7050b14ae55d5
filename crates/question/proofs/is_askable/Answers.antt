-- `question::is_askable`: the four conditions, two of them by one walk.
-- Assumes nothing.
use Rattle.question.proofs.AskableLaws.{placed, unknown, in_file}
use Rattle.question.proofs.is_askable.Goals as goal

pub returns-then-at-entry : goal.returns-then-at-entry
returns-then-at-entry c = unknown _ _ (placed c.args.file.now) c.args.entry c.args.state c.if-at-entry.true

pub returns : goal.returns
returns c =
    in_file _ _ (placed c.args.file.now) c.args.entry c.args.state c.if-at-entry.false c.ranges.state.fits _ c.all_facts.ensures _
    c.is_shallow.ensures

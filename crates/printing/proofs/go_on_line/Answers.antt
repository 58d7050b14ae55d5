-- `printing::go_on_line`: three puts, one after the other.
-- Assumes nothing.
use Rattle.printing.specs.Lines.{go_on_from}
use Rattle.printing.proofs.LineLaws.{go_on_by_parts}
use Rattle.printing.proofs.go_on_line.Goals as goal

pub returns-clause-go_on_line : goal.returns-clause-go_on_line
unfolding go_on_from
returns-clause-go_on_line c =
    go_on_by_parts c.args.step _ _ _ c.put-words.ensures.line_after c.put_number-number.ensures.by_index c.put.ensures.line_after

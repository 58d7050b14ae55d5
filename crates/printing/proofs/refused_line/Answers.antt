-- `printing::refused_line`: five puts, one after the other.
-- Assumes nothing.
use Rattle.printing.specs.Lines.{refused}
use Rattle.printing.proofs.LineLaws.{refused_by_parts}
use Rattle.printing.proofs.refused_line.Goals as goal

pub returns-clause-refused_line : goal.returns-clause-refused_line
unfolding refused
returns-clause-refused_line c =
    refused_by_parts c.args.number c.args.place _ _ _ _ _ c.put-word.ensures.line_after c.put_number-first.ensures.by_index
    c.put-space.ensures.line_after c.put_number-second.ensures.by_index c.put.ensures.line_after

-- `entries::inside` meets its contract.
-- Assumes nothing.
use mathlib.Core.Path.{sym, ◌∙◌}
use borrow.Author.Rules.{rules}
use borrow.Author.Tests.{lt-leb}
use Rattle.file_numbers.proofs.ByteLaws.{inside_past, inside_room}
use Rattle.entries.proofs.inside.Goals as goal

pub returns-then-k-file : goal.returns-then-k-file
returns-then-k-file c = sym (inside_room c.args.k c.args.file.now c.args.at (search rules))

pub returns-else-k-file : goal.returns-else-k-file
returns-else-k-file c =
    lt-leb c.args.k _ (search rules) ∙ sym (inside_past c.args.k c.args.file.now c.args.at (search rules))

-- `arrays::filled` meets its contract: by the entry's kind.
-- Assumes nothing.
use mathlib.Core.Path.{sym, ◌∙◌}
use borrow.Author.Rules.{rules}
use Rattle.certificate.specs.Known.{decoded}
use Rattle.shapes.proofs.ArrayLaws.{filled_none, filled_is, filled_not}
use Rattle.shapes.proofs.arrays.filled.Goals as goal

pub returns-in_err-d : goal.returns-in_err-d
returns-in_err-d c = let h = filled_none (decoded c.args.file.now.bytes.now) c.args.e (search rules) in search rules

pub returns-then-has_kind : goal.returns-then-has_kind
returns-then-has_kind c = filled_not _ _ c.in_ok-d.d (search rules) (sym c.has_kind.ensures ∙ c.if-has_kind.true)

pub returns-else-has_kind : goal.returns-else-has_kind
returns-else-has_kind c = filled_is _ _ c.in_ok-d.d (search rules) (sym c.has_kind.ensures ∙ c.if-has_kind.false)

-- `parts::Parts::plain` meets its contract.
-- Assumes nothing.
use borrow.Author.Rules.{rules}
use Rattle.certificate.specs.Known.{decoded}
use Rattle.parts.proofs.PartLaws.{sides_are, many_left, many_right}
use Rattle.parts.proofs.Parts.plain.Goals as goal

pub returns-in_err-outer : goal.returns-in_err-outer
returns-in_err-outer c = let h = many_left (decoded c.args.file.now.bytes.now) c.args.a c.args.b c.in_err-outer.ensures in search rules

pub returns-in_err-right : goal.returns-in_err-right
returns-in_err-right c = let h = many_right (decoded c.args.file.now.bytes.now) c.args.a c.args.b c.in_err-right.ensures in search rules

pub returns : goal.returns
returns c = sides_are _ _ _ _ c.in_ok-outer.ensures.0 c.none.ensures c.in_ok-right.ensures.0

-- `versions::off_size` meets its contract.
-- Assumes nothing.
use mathlib.Core.Path.{sym}
use borrow.Author.Tests.{eq-eqb, ne_eqb}
use Rattle.meaning.proofs.Places.{off_some, off_none}
use Rattle.versions.proofs.off_size.Goals as goal

pub returns-then-version-eq3 : goal.returns-then-version-eq3
returns-then-version-eq3 c = sym (off_some _ (eq-eqb _ 3 c.if-version-eq3.true))

pub returns-else-version-eq3 : goal.returns-else-version-eq3
returns-else-version-eq3 c = sym (off_none _ (ne_eqb _ 3 c.if-version-eq3.false))

-- `index::with_entries`: the table begins as zeros, and what it is handed on with is the file that was given.
-- Assumes nothing.
use mathlib.Core.Path.{refl}
use Rattle.certificate.proofs.IndexLaws.{zeros}
use Rattle.certificate.proofs.index.with_entries.Goals as goal

pub put_entries-requires : goal.put_entries-requires
put_entries-requires g c = (c.args.laid.now.placed, refl, zeros 8961)

pub returns : goal.returns
returns g c = (_, refl, (_, c.then.ensures, refl))

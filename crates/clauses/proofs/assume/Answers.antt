-- `clauses::assume` meets its contract.
-- Assumes nothing.
use Rattle.clauses.proofs.AssumeLaws.{assumed_same, assumed_solved}
use Rattle.task.proofs.Tests.{holds}
use native.Mathlib.Nat.{le_refl}
use Rattle.clauses.proofs.assume.Goals as goal

pub returns-then-alike : goal.returns-then-alike
returns-then-alike c =
    assumed_same _ _ _ _ _ c.in_ok-y.ensures (c.alike.ensures.finds (holds c.if-alike.true))

pub solve-requires : goal.solve-requires
solve-requires c =
    λ d p. record { seen = c.args.x; after = λ b f. le_refl _; until = c.in_ok-y.ensures.goes.grows; settled = c.requires d p }

pub returns : goal.returns
returns c = assumed_solved _ _ _ _ _ c.in_ok-y.ensures c.solve.result c.solve.ensures

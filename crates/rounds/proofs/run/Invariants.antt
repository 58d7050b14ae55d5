-- `run` meets its contract. The loop's invariant: some rounds have come to step `from`.
-- Assumes nothing.
use Prim.Native.Nat.{◌-◌}
use Rattle.meaning.specs.declared.Round.TheVariants.{GoOn}
use Rattle.rounds.proofs.RunLaws.{Said}
use Rattle.rounds.proofs.run.Given as goal

abbrev pub invariant-loop-step : goal.invariant-loop-step
invariant-loop-step l = Said l.file l.count (GoOn l.from)

abbrev pub decreases-loop-step : goal.decreases-loop-step
decreases-loop-step l = 2048 - l.from

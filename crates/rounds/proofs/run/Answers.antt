-- `run` meets its contract. The loop's invariant: some rounds have come to step `from`.
-- Assumes nothing.
use mathlib.Core.Path.{sym, ◌∙◌}
use native.Mathlib.Omega.{arith}
use Rattle.meaning.specs.Rounds.{at_end}
use Rattle.meaning.proofs.Rounds.{goes_further}
use Rattle.rounds.proofs.RunLaws.{said_first, said_next, said_reply, said_judged}
use Rattle.rounds.proofs.run.Goals as goal

pub loop-step-init : goal.loop-step-init
loop-step-init c = said_first _ _

pub returns-in-Ended-clause-rounds : goal.returns-in-Ended-clause-rounds
unfolding at_end
returns-in-Ended-clause-rounds c = said_next _ _ _ c.loop-step.invariant (sym c.in-Ended.is ∙ c.check_round-round.ensures.round)

pub returns-in-Ended-clause-reply : goal.returns-in-Ended-clause-reply
unfolding at_end
returns-in-Ended-clause-reply c =
    said_reply _ _ _ (said_next _ _ _ c.loop-step.invariant (sym c.in-Ended.is ∙ c.check_round-round.ensures.round))

pub returns-in-Ended-clause-judged : goal.returns-in-Ended-clause-judged
unfolding at_end
returns-in-Ended-clause-judged c =
    said_judged _ _ _ (said_next _ _ _ c.loop-step.invariant (sym c.in-Ended.is ∙ c.check_round-round.ensures.round))

pub loop-step-smaller : goal.loop-step-smaller
loop-step-smaller c =
    let l = goes_further _ _ _ _ (sym c.check_round-round.ensures.round ∙ c.in-GoOn.is) in
    omega (arith, l.0, l.1)

pub loop-step-preserved : goal.loop-step-preserved
loop-step-preserved c = said_next _ _ _ c.loop-step.invariant (sym c.in-GoOn.is ∙ c.check_round-round.ensures.round)

pub returns-in-Refused-clause-rounds : goal.returns-in-Refused-clause-rounds
unfolding at_end
returns-in-Refused-clause-rounds c = said_next _ _ _ c.loop-step.invariant (sym c.in-Refused.is ∙ c.check_round-round.ensures.round)

pub returns-in-Refused-clause-reply : goal.returns-in-Refused-clause-reply
unfolding at_end
returns-in-Refused-clause-reply c =
    said_reply _ _ _ (said_next _ _ _ c.loop-step.invariant (sym c.in-Refused.is ∙ c.check_round-round.ensures.round))

pub returns-in-Refused-clause-judged : goal.returns-in-Refused-clause-judged
unfolding at_end
returns-in-Refused-clause-judged c =
    said_judged _ _ _ (said_next _ _ _ c.loop-step.invariant (sym c.in-Refused.is ∙ c.check_round-round.ensures.round))

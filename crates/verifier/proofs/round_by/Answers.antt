-- `round_by` meets its contract: a case for each reply.
-- Assumes nothing.
use mathlib.Core.Path.{sym, ap}
use Rattle.meaning.specs.declared.Reply.{Reply}
use Rattle.verifier.specs.Round.{or_else}
use Rattle.verifier.proofs.round_by.Goals as goal

pub returns-in-Accepted : goal.returns-in-Accepted
unfolding or_else
returns-in-Accepted c = ap (λ (x : Reply). or_else x c.args.passed) (sym c.in-Accepted.is)

pub returns-in-Refused : goal.returns-in-Refused
unfolding or_else
returns-in-Refused c = ap (λ (x : Reply). or_else x c.args.passed) (sym c.in-Refused.is)

-- What a round says by its steps' reply.
-- Assumes nothing.
use Rattle.meaning.specs.declared.Reply.{Reply}
use Rattle.meaning.specs.declared.Reply.TheVariants.{Accepted, Refused}
use Rattle.meaning.specs.declared.Round.{Round}
use Rattle.meaning.specs.declared.Round.TheVariants as round

-- the refusal as a round tells it, or else what the round says where its steps pass
unfoldable pub or_else : Reply → Round → Round
or_else Accepted passed = passed
or_else (Refused r p) passed = round.Refused r p

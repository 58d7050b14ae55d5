-- `lookup::state_set`: where the table has no place the default, else what stands there.
-- Assumes nothing.
use mathlib.Core.Path.{sym, ◌∙◌}
use Rattle.certificate.proofs.KnownLaws.{known_state_here, known_state_none, known_state_room}
use Rattle.lookup.proofs.state_set.Goals as goal

pub returns-then-place-eq0 : goal.returns-then-place-eq0
returns-then-place-eq0 c =
    known_state_none _ _ c.args.file.now.known c.args.e (sym c.state_place-place.ensures ∙ c.if-place-eq0.true)

pub state_entry-requires : goal.state_entry-requires
state_entry-requires c =
    rw c.state_place-place.ensures (known_state_room _ _ c.args.file.now.known c.args.e (λ z. c.if-place-eq0.false (c.state_place-place.ensures ∙ z)))

pub returns : goal.returns
returns c =
    c.state_entry.ensures ∙ rw c.state_place-place.ensures (known_state_here _ _ c.args.file.now.known c.args.e (λ z. c.if-place-eq0.false (c.state_place-place.ensures ∙ z)))

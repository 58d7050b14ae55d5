-- `lookup::action_set`: where the table has no place the default, else what stands there.
-- Assumes nothing.
use mathlib.Core.Path.{sym, ◌∙◌}
use Rattle.certificate.proofs.KnownLaws.{known_actions_here, known_actions_none, known_actions_room}
use Rattle.lookup.proofs.action_set.Goals as goal

pub returns-then-place-eq0 : goal.returns-then-place-eq0
returns-then-place-eq0 c =
    known_actions_none _ _ c.args.file.now.known c.args.a (sym c.action_place-place.ensures ∙ c.if-place-eq0.true)

pub action_entry-requires : goal.action_entry-requires
action_entry-requires c =
    rw c.action_place-place.ensures (known_actions_room _ _ c.args.file.now.known c.args.a (λ z. c.if-place-eq0.false (c.action_place-place.ensures ∙ z)))

pub returns : goal.returns
returns c =
    c.action_entry.ensures ∙ rw c.action_place-place.ensures (known_actions_here _ _ c.args.file.now.known c.args.a (λ z. c.if-place-eq0.false (c.action_place-place.ensures ∙ z)))

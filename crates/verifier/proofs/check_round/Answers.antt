-- `check_round` meets its contract: a file that is not read is refused as the layout check says, and one that is read by its round.
-- Assumes nothing.
use mathlib.Core.Path.{◌≡◌, refl, ap, ◌∙◌}
use borrow.Author.Rules.{rules}
use Rattle.meaning.specs.Rounds.{round_of}
use Rattle.certificate.specs.declared.Laid.{Laid}
use Rattle.certificate.proofs.OutlineKnown.{lawful_placed, refused_full}
use Rattle.verifier.proofs.CheckLaws.{unread_round}
use Rattle.verifier.proofs.check_round.Goals as goal

pub invariant_of-with_entries : goal.invariant_of-with_entries
invariant_of-with_entries c = record { placed = lawful_placed _ _ c.read_layout.ensures _ c.in-Ok.is }

pub returns-in-Err-clause-round : goal.returns-in-Err-clause-round
returns-in-Err-clause-round c = c.from.ensures ∙ unread_round _ _ _ _ _ (refused_full _ _ c.read_layout.ensures refl _ c.in-Err.is)

pub returns-in-Ok-clause-round : goal.returns-in-Ok-clause-round
returns-in-Ok-clause-round c =
    let (w, same, gave) = c.with_entries.ensures in
    let said : c.with_entries.result ≡ round_of w.laid.bytes.now c.args.from c.args.count = search rules in
    said ∙ ap (λ (l : Laid). round_of l.bytes.now c.args.from c.args.count) same

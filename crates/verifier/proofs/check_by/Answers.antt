-- `check_by` meets its contract: a file that is not read is refused as the layout check says, and one that is read by its steps.
-- Assumes nothing.
use mathlib.Core.Path.{◌≡◌, ap, ◌∙◌}
use borrow.Author.Rules.{rules}
use Rattle.meaning.specs.Reply.{check_from, reply_to}
use Rattle.meaning.specs.Numbering.{rewritten}
use Rattle.certificate.specs.Known.{decoded}
use Rattle.certificate.specs.declared.Laid.{Laid}
use Rattle.certificate.proofs.OutlineKnown.{lawful_placed, lawful_read, refused_read}
use Rattle.verifier.proofs.CheckLaws.{read_reply, unread_reply}
use Rattle.verifier.proofs.check_by.Goals as goal

pub invariant_of-with_entries : goal.invariant_of-with_entries
invariant_of-with_entries c = record { placed = lawful_placed _ _ c.read_layout.ensures _ c.in-Ok.is }

pub returns-in-Err : goal.returns-in-Err
returns-in-Err c g stands = c.from.ensures ∙ unread_reply _ g _ _ _ (refused_read _ _ c.read_layout.ensures _ c.in-Err.is)

pub returns-in-Ok : goal.returns-in-Ok
returns-in-Ok c g stands =
    let (w, same, gave) = c.with_entries.ensures in
    let said : c.with_entries.result ≡ reply_to (check_from (rewritten g (decoded w.laid.bytes.now)) 0) = search rules in
    said ∙ rw (ap (λ (l : Laid). l.bytes.now) same) (read_reply _ g _ (lawful_read _ _ c.read_layout.ensures _ c.in-Ok.is))

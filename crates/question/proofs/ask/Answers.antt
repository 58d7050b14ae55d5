-- `question::ask` meets its contract: a file that is not read is refused as the layout check says, and one that is read is asked.
-- Assumes nothing.
use borrow.Author.Rules.{rules}
use mathlib.Core.Path.{◌≡◌, refl, ◌∙◌, sym, ap}
use Rattle.certificate.specs.Known.{decoded}
use Rattle.question.specs.Asked.{answer_in}
use Rattle.certificate.specs.declared.Laid.{Laid}
use Rattle.certificate.proofs.OutlineKnown.{lawful_placed, refused_full}
use Rattle.question.proofs.AskableLaws.{read_answer, unread_answer}
use Rattle.question.proofs.ask.Goals as goal

pub invariant_of-with_entries : goal.invariant_of-with_entries
invariant_of-with_entries c = record { placed = lawful_placed _ _ c.read_layout.ensures _ c.in-Ok.is }

pub returns-in-Err-clause-answer : goal.returns-in-Err-clause-answer
returns-in-Err-clause-answer c =
    c.from.ensures ∙ unread_answer _ _ _ _ _ (refused_full _ _ c.read_layout.ensures refl _ c.in-Err.is)

pub returns-in-Ok-clause-answer : goal.returns-in-Ok-clause-answer
returns-in-Ok-clause-answer c =
    let (w, same, gave) = c.with_entries.ensures in
    let said : c.with_entries.result ≡ answer_in (decoded w.entries.bytes.now) c.args.entry c.args.state = search rules in
    let bytes : w.entries.bytes.now ≡ c.args.file.now = sym w.same ∙ ap (λ (l : Laid). l.bytes.now) same in
    said ∙ rw bytes (read_answer _ _ _ _ (lawful_placed _ _ c.read_layout.ensures _ c.in-Ok.is).read)

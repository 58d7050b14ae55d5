-- `check_numbered` meets its contract: a list with a fault is refused before the file is read, and by a lawful one the file is checked
-- with the rules that its numbers stand for.
-- Assumes nothing.
use mathlib.Core.Path.{◌≡◌, refl, ◌∙◌}
use Rattle.meaning.specs.Numbering.{reply_numbered}
use Rattle.meaning.proofs.Points.{a_file_accepted_with_a_list_is_safe, judgements_are_true_with_a_list}
use Rattle.verifier.proofs.CheckLaws.{list_reply_lem, numbered_reply, as_replied}
use Rattle.verifier.proofs.check_numbered.Goals as goal

checked : (c : goal.After-check_by) → c.check_by.result ≡ reply_numbered c.args.file.now c.args.numbers.now
checked c = c.check_by.ensures _ c.in-Ok.ensures.stands ∙ numbered_reply _ _ refl c.in-Ok.ensures.lawful

pub returns-in-Ok-clause-reply : goal.returns-in-Ok-clause-reply
returns-in-Ok-clause-reply c = checked c

pub returns-in-Ok-clause-safe : goal.returns-in-Ok-clause-safe
returns-in-Ok-clause-safe c = (as_replied _ (checked c) (a_file_accepted_with_a_list_is_safe _ _) (judgements_are_true_with_a_list _ _)).0

pub returns-in-Ok-clause-judged : goal.returns-in-Ok-clause-judged
returns-in-Ok-clause-judged c = (as_replied _ (checked c) (a_file_accepted_with_a_list_is_safe _ _) (judgements_are_true_with_a_list _ _)).1

pub returns-in-Err-clause-reply : goal.returns-in-Err-clause-reply
returns-in-Err-clause-reply c = list_reply_lem _ _ _ c.in-Err.ensures.fault

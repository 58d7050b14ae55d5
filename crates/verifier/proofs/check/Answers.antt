-- `check` meets its contract: by a table in which each byte stands for itself.
-- Assumes nothing.
use mathlib.Core.Path.{refl, ◌∙◌}
use Rattle.meaning.proofs.Points.{an_accepted_file_is_safe, judgements_are_true_by_the_reply}
use Rattle.verifier.proofs.CheckLaws.{plain_reply, as_replied}
use Rattle.verifier.proofs.check.Goals as goal

pub returns-clause-reply : goal.returns-clause-reply
returns-clause-reply c =
    let e = c.check_by.ensures (λ x. x) c.own_numbers-rules.ensures
    ∙ plain_reply _ refl in
    e

pub returns-clause-safe : goal.returns-clause-safe
returns-clause-safe c =
    let e = c.check_by.ensures (λ x. x) c.own_numbers-rules.ensures
    ∙ plain_reply _ refl in
    (as_replied _ e (an_accepted_file_is_safe _) (judgements_are_true_by_the_reply _)).0

pub returns-clause-judged : goal.returns-clause-judged
returns-clause-judged c =
    let e = c.check_by.ensures (λ x. x) c.own_numbers-rules.ensures
    ∙ plain_reply _ refl in
    (as_replied _ e (an_accepted_file_is_safe _) (judgements_are_true_by_the_reply _)).1

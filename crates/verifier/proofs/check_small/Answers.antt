-- `check_small` meets its contract: as `check`, by the small limits.
-- Assumes nothing.
use mathlib.Core.Path.{refl, ◌∙◌}
use Rattle.meaning.specs.Limits.{small}
use Rattle.meaning.specs.Small.{reply_small}
use Rattle.meaning.proofs.Points.{a_file_that_the_small_check_accepts_is_safe, judgements_are_true_under_limits}
use Rattle.verifier.proofs.CheckLaws.{small_reply, as_replied}
use Rattle.verifier.proofs.check_small.Goals as goal

pub returns-clause-reply : goal.returns-clause-reply
unfolding reply_small
returns-clause-reply c =
    let e = c.check_by.ensures (λ x. x) c.own_numbers-rules.ensures
    ∙ small_reply _ refl in
    e

pub returns-clause-safe : goal.returns-clause-safe
unfolding reply_small
returns-clause-safe c =
    let e = c.check_by.ensures (λ x. x) c.own_numbers-rules.ensures
    ∙ small_reply _ refl in
    (as_replied _ e (a_file_that_the_small_check_accepts_is_safe _) (judgements_are_true_under_limits small _)).0

pub returns-clause-judged : goal.returns-clause-judged
unfolding reply_small
returns-clause-judged c =
    let e = c.check_by.ensures (λ x. x) c.own_numbers-rules.ensures
    ∙ small_reply _ refl in
    (as_replied _ e (a_file_that_the_small_check_accepts_is_safe _) (judgements_are_true_under_limits small _)).1

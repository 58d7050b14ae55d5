-- `question::answer`: 13 where the question may not be asked, and else what the entry holds.
-- Assumes nothing.
use native.Mathlib.Omega.{arith}
use mathlib.Core.Bool.{true, false}
use Rattle.meaning.specs.Question.{answer_to}
use Rattle.certificate.proofs.KnownLaws.{placed_ends, read_file_lem}
use Rattle.question.proofs.AskableLaws.{placed, asked, refused, answered}
use Rattle.std.proofs.lemmas.Bool.{not_from_false, not_from_true}
use Rattle.question.proofs.answer.Goals as goal

pub returns-then-not-is_askable : goal.returns-then-not-is_askable
returns-then-not-is_askable c =
    refused _ _ (placed c.args.file.now) _ _ _ c.is_askable.ensures (not_from_false _ c.if-not-is_askable.true)

pub overflow_cast-entry : goal.overflow_cast-entry
overflow_cast-entry c =
    let l = (asked _ _ (placed c.args.file.now) _ _ _ c.is_askable.ensures (not_from_true _ c.if-not-is_askable.false)).0 in
    let few = (read_file_lem _ c.args.file.now.entries.known.read).few_state_sets in
    omega arith

pub invariant_of-posed : goal.invariant_of-posed
invariant_of-posed c = record { ends_are = placed_ends _ _ (placed c.args.file.now) }

pub member-requires : goal.member-requires
member-requires c =
    (asked _ _ (placed c.args.file.now) _ _ _ c.is_askable.ensures (not_from_true _ c.if-not-is_askable.false)).1

pub returns-then-member : goal.returns-then-member
unfolding answer_to
returns-then-member c =
    answered _ _ (placed c.args.file.now) _ _ _ c.is_askable.ensures (not_from_true _ c.if-not-is_askable.false) _ c.member.ensures true c.if-member.true

pub returns-else-member : goal.returns-else-member
unfolding answer_to
returns-else-member c =
    answered _ _ (placed c.args.file.now) _ _ _ c.is_askable.ensures (not_from_true _ c.if-not-is_askable.false) _ c.member.ensures false c.if-member.false

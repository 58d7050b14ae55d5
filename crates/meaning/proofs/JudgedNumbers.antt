-- What the reply with a caller's list says of the file's judgements, and that an accepted file is safe.
-- Assumes nothing.
use mathlib.Core.Path.{◌≡◌, refl, sym, ap, ◌∙◌, subst}
use Prim.Native.Nat.{ℕ, ◌≤◌}
use native.Mathlib.Omega.{arith}
use lib.ListN.{length}
use Rattle.meaning.specs.Result.{Result, refuse, found}
use Rattle.meaning.specs.File.{Step, File, step_at}
use Rattle.meaning.specs.Step.{check_step}
use Rattle.meaning.specs.Reply.{check_file, reply_to}
use Rattle.meaning.specs.Numbering.{check_numbers, rule_meant, with_rule, rewritten, check_rewritten, reply_numbered}
use Rattle.meaning.specs.Judged.{JudgedBy}
use Rattle.meaning.specs.Points.{Pass, NumberedIsSafe, NumberedJudged}
use Rattle.meaning.proofs.Results.{bind_out, bind_found, bind_refused}
use Rattle.meaning.proofs.Refusals.{accepted_out, list_number}
use Rattle.meaning.proofs.Judgements.{Passed, Told, check_told, told_as, no_judgement, reply_judged, reply_safe}
use Rattle.meaning.proofs.RuleBytes.{count_stays, step_stays, step_renamed, checked_same}

-- a step that passes in a rewritten file passes in the file, by the rule that its byte stands for
passed_rewritten : (g : ℕ → ℕ) (f : File) (n : ℕ) → n ≤ length f.steps → Pass (rewritten g f) 0 n → Passed f n
passed_rewritten g f n l h k m = (
  g (step_at f k).rule,
  sym (checked_same g f k (with_rule (g (step_at f k).rule) (step_at f k)))
      ∙ ap (check_step (rewritten g f) k) (sym (step_renamed g f k (omega arith)))
      ∙ h k (omega arith) m,
)

steps_stay : (g : ℕ → ℕ) (f : File) → length (rewritten g f).steps ≡ length f.steps
unfolding rewritten
steps_stay g f = count_stays g f.steps

told_rewritten : (g : ℕ → ℕ) (f : File) → Told f (Passed f) (check_file (rewritten g f))
told_rewritten g f =
    told_as f (rewritten g f) (steps_stay g f) (λ k. ap (λ (s : Step). s.kind) (step_stays g f k)) (passed_rewritten g f)
    (check_file (rewritten g f)) (check_told (rewritten g f))

pub numbered_judged : NumberedJudged
unfolding reply_numbered check_rewritten reply_to
numbered_judged bytes numbers = go (check_numbers numbers) refl
  where
    go : (x : Result (Unit {0})) → check_numbers numbers ≡ x → JudgedBy bytes (reply_numbered bytes numbers)
    go (refuse r p) e =
        subst (λ (x : Result (Unit {0})). JudgedBy bytes (reply_to x)) (sym (bind_refused (λ _. check_rewritten (rule_meant numbers) bytes) e))
        (no_judgement bytes r p (λ low high. let z = list_number numbers r p e in omega arith))
    go (found u) e =
        subst (λ (x : Result (Unit {0})). JudgedBy bytes (reply_to x)) (sym (bind_found (λ _. check_rewritten (rule_meant numbers) bytes) e))
        (reply_judged bytes (λ f. check_file (rewritten (rule_meant numbers) f)) (told_rewritten (rule_meant numbers)))

pub numbered_is_safe : NumberedIsSafe
unfolding reply_numbered check_rewritten reply_to
numbered_is_safe bytes numbers e =
    let d = bind_out (check_numbers numbers) _ tt (accepted_out _ e) in
    reply_safe bytes (λ f. check_file (rewritten (rule_meant numbers) f)) (told_rewritten (rule_meant numbers)) (ap reply_to d.2)

-- A file that is read, as version 3 (document 02, j): it is read back, and the same is said of it.
-- Assumes nothing.
use mathlib.Core.Path.{◌≡◌, refl, sym, ap, ◌∙◌}
use mathlib.Core.Logic.{inr}
use Prim.Native.Nat.{ℕ}
use mathlib.Core.List.{List}
use Rattle.meaning.specs.Result.{Result, refuse, found, ◌>>=◌, need}
use Rattle.meaning.specs.declared.Limits.{Limits}
use Rattle.meaning.specs.Limits.{full}
use Rattle.meaning.specs.File.{File}
use Rattle.meaning.specs.Layout.{read_within, read_file}
use Rattle.meaning.specs.Writing.{Fits}
use Rattle.meaning.specs.Sets.{in_set}
use Rattle.meaning.specs.Reply.{check_file, reply_to, reply_of}
use Rattle.meaning.specs.Small.{reply_within}
use Rattle.meaning.specs.Numbering.{check_numbers, rule_meant, rewritten, check_rewritten, reply_numbered}
use Rattle.meaning.specs.Rounds.{check_round, round_to, round_of}
use Rattle.meaning.specs.Question.{askable, answer_to, answer_of}
use Rattle.meaning.specs.Versions.{as_version3}
use Rattle.meaning.specs.Points.{SameAsVersion3, OlderReplies, OlderChecks}
use Rattle.meaning.proofs.Reading.{reads_within}
use Rattle.meaning.proofs.Written.{reads_back}
use Rattle.meaning.proofs.Alike.{Alike}
use Rattle.meaning.proofs.AlikeSteps.{all_same}
use Rattle.meaning.proofs.AlikeChecks.{alike_check, alike_round, alike_askable, alike_holds, alike_rewritten}

newer_fits : (l : Limits) (f : File) → Fits l f → Fits l (as_version3 f)
unfolding as_version3
newer_fits l f h = record { version = inr (inr refl); task = h.task; certificate = h.certificate; allowed = h.allowed }

newer_alike : (f : File) → Alike (as_version3 f) f
unfolding as_version3
newer_alike f = record { task = refl; action_sets_hold = refl; state_sets_hold = all_same f.state_sets; steps = refl }

-- what is said after a check that is the same of files that are alike
module _ {A R : Type 0} (finish : Result A → R) (check : File → Result A) (checks : (f g : File) → Alike f g → check f ≡ check g) where
  newer_said : (l : Limits) → SameAsVersion3 l (λ bytes. finish (read_within l bytes >>= check))
  unfolding ◌>>=◌
  newer_said l bytes f h e size =
      ap (λ (r : Result File). finish (r >>= check)) (reads_back l (as_version3 f) (newer_fits l f (reads_within l bytes f h e).0) size)
      ∙ ap finish (checks (as_version3 f) f (newer_alike f))
      ∙ ap (λ (r : Result File). finish (r >>= check)) (sym e)

pub older_replies : OlderReplies
unfolding reply_within
older_replies = newer_said reply_to check_file alike_check

older_reply : SameAsVersion3 full reply_of
unfolding reply_of reply_within read_file
older_reply = older_replies full

-- a list's own fault is the same of all files
numbered : (to : ℕ → ℕ) (x : Result (Unit {0})) → SameAsVersion3 full (λ bytes. reply_to (x >>= λ _. check_rewritten to bytes))
unfolding check_rewritten read_file ◌>>=◌
numbered to (refuse r p) = λ _ _ _ _ _. refl
numbered to (found u) =
    newer_said reply_to (λ f. check_file (rewritten to f))
    (λ f g h. alike_check (rewritten to f) (rewritten to g) (alike_rewritten to f g h)) full

older_numbered : (numbers : List ℕ) → SameAsVersion3 full (λ bytes. reply_numbered bytes numbers)
unfolding reply_numbered
older_numbered numbers = numbered (rule_meant numbers) (check_numbers numbers)

older_round : (from count : ℕ) → SameAsVersion3 full (λ bytes. round_of bytes from count)
unfolding round_of read_file
older_round from count = newer_said round_to (λ f. check_round f from count) (λ f g h. alike_round f g h from count) full

older_answer : (e s : ℕ) → SameAsVersion3 full (λ bytes. answer_of bytes e s)
unfolding answer_of read_file
older_answer e s =
    newer_said answer_to (λ f. need (askable f e s) 13 0 >>= λ _. found (in_set f e s))
    (λ f g h. rw (alike_askable f g h e s, alike_holds f g h e s)) full

pub older_checks : OlderChecks
older_checks = (older_reply, older_numbered, older_round, older_answer)

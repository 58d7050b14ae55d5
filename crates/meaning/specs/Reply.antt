-- The checker's reply to a file.
-- Assumes nothing.
use Rattle.std.specs.Prelude.{ℕ, suc, ◌-◌, List, [], ◌∷◌, length, drop, eqb}
use Rattle.meaning.specs.Result.{Result, refuse, found, ◌>>=◌, need}
use Rattle.meaning.specs.File.{Step, File, step_at}
use Rattle.meaning.specs.Layout.{read_file}
use Rattle.meaning.specs.Step.{check_step}
use Rattle.meaning.specs.declared.Reply.{Reply}
use Rattle.meaning.specs.declared.Reply.TheVariants.{Accepted, Refused}

-- the steps from step i on, in turn
unfoldable pub check_steps : File → ℕ → List Step → Result (Unit {0})
check_steps f i [] = found tt
check_steps f i (s ∷ ss) = do
  _ ← check_step f i s
  check_steps f (suc i) ss

-- whether the last step says "unsolvable"
abbrev pub check_last : File → Result (Unit {0})
check_last f = need (eqb (step_at f (length f.steps - 1)).kind 3) 12 (length f.steps - 1)

-- the steps from step `from` on, and then the last one's judgement
unfoldable pub check_from : File → ℕ → Result (Unit {0})
check_from f from = do
  _ ← check_steps f from (drop from f.steps)
  check_last f

-- all steps
unfoldable pub check_file : File → Result (Unit {0})
check_file f = check_from f 0

-- the reply's cases, with document 01's number and place
unfoldable pub reply_to : Result (Unit {0}) → Reply
reply_to (refuse r p) = Refused r p
reply_to (found u) = Accepted

unfoldable pub reply_of : List ℕ → Reply
reply_of bytes = reply_to (read_file bytes >>= check_file)

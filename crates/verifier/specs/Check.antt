-- What a check replies by its limits and by the rules that the file's rule bytes stand for.
-- Assumes nothing.
use Rattle.std.specs.Prelude.{ℕ, List}
use Rattle.meaning.specs.Result.{◌>>=◌}
use Rattle.meaning.specs.declared.Limits.{Limits}
use Rattle.meaning.specs.Layout.{read_within}
use Rattle.meaning.specs.declared.Reply.{Reply}
use Rattle.meaning.specs.Reply.{check_file, reply_to}
use Rattle.meaning.specs.Numbering.{rewritten}

unfoldable pub reply_by : Limits → (ℕ → ℕ) → List ℕ → Reply
reply_by l g bytes = reply_to (do
  f ← read_within l bytes
  check_file (rewritten g f))

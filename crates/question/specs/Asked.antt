-- The question about a file that was read.
-- Assumes nothing.
use Rattle.std.specs.Prelude.{ℕ}
use Rattle.meaning.specs.Result.{found, ◌>>=◌, need}
use Rattle.meaning.specs.File.{File}
use Rattle.meaning.specs.Sets.{in_set}
use Rattle.meaning.specs.declared.Answer.{Answer}
use Rattle.meaning.specs.Question.{askable, answer_to}

-- what `answer_of` is where the file was read
unfoldable pub answer_in : File → ℕ → ℕ → Answer
answer_in f e s = answer_to (need (askable f e s) 13 0 >>= (λ _. found (in_set f e s)))

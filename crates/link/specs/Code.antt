-- Replies, rounds and answers as one number. The refusal numbers start at 1, so that every refusal's code is 2^32 or more, and a step's
-- number is below 2,048 (proofs/CodeLaws.antt).
-- Assumes nothing.
use Rattle.std.specs.Prelude.{◌≡◌, ℕ, ◌+◌, ◌*◌, ◌/◌, ◌%◌, ◌≤◌, min, List}
use Rattle.meaning.specs.declared.Reply.{Reply}
use Rattle.meaning.specs.declared.Reply.TheVariants.{Accepted, Refused}
use Rattle.meaning.specs.Judged.{AllTrue, TrueUpTo}
use Rattle.meaning.specs.declared.Round.{Round}
use Rattle.meaning.specs.declared.Round.TheVariants as round
use Rattle.meaning.specs.declared.Answer.{Answer}
use Rattle.meaning.specs.declared.Answer.TheVariants as answer

-- the number above the 32 bits of the place; a place that has more of them is told as the largest that has not
unfoldable pub refusal_code : ℕ → ℕ → ℕ
refusal_code number place = number * 4294967296 + min place 4294967295

unfoldable pub code_of : Reply → ℕ
code_of Accepted = 0
code_of (Refused number place) = refusal_code number place

unfoldable pub round_code_of : Round → ℕ
round_code_of round.Ended = 0
round_code_of (round.GoOn step) = step
round_code_of (round.Refused number place) = refusal_code number place

unfoldable pub answer_code_of : Answer → ℕ
answer_code_of answer.Out = 0
answer_code_of answer.In = 1
answer_code_of (answer.Refused number place) = refusal_code number place

-- what the code of a reply says of the file's judgements (document 02, k): every one is true where it is 0 or of the number 12; each before
-- the step told where it is of a number from 8 to 11
abbrev pub JudgedByCode : List ℕ → ℕ → Type 0
JudgedByCode bytes code =
    (code ≡ 0 → AllTrue bytes)
    × (code / 4294967296 ≡ 12 → AllTrue bytes)
    × (8 ≤ code / 4294967296 → code / 4294967296 ≤ 11 → TrueUpTo bytes (code % 4294967296))

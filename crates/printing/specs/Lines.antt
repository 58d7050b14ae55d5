-- The line that a program prints for a reply, a round or an answer, as ASCII codes.
-- Assumes nothing.
use Rattle.std.specs.Prelude.{◌≡◌, ℕ, List, [], ◌∷◌, ◌++◌}
use Rattle.io.specs.Digits.{last_digits, IsDigitCount}
use Rattle.meaning.specs.declared.Reply.{Reply}
use Rattle.meaning.specs.declared.Reply.TheVariants.{Accepted, Refused}
use Rattle.meaning.specs.declared.Round.{Round}
use Rattle.meaning.specs.declared.Round.TheVariants as round
use Rattle.meaning.specs.declared.Answer.{Answer}
use Rattle.meaning.specs.declared.Answer.TheVariants as answer

-- "accepted", "refused " with its space, "ended", "go on from " with its space, "in" and "out". A line ends with 10; 32 is a space.
unfoldable pub accepted : List ℕ
accepted = 97 ∷ 99 ∷ 99 ∷ 101 ∷ 112 ∷ 116 ∷ 101 ∷ 100 ∷ []

unfoldable pub refused : List ℕ
refused = 114 ∷ 101 ∷ 102 ∷ 117 ∷ 115 ∷ 101 ∷ 100 ∷ 32 ∷ []

unfoldable pub ended : List ℕ
ended = 101 ∷ 110 ∷ 100 ∷ 101 ∷ 100 ∷ []

unfoldable pub go_on_from : List ℕ
go_on_from = 103 ∷ 111 ∷ 32 ∷ 111 ∷ 110 ∷ 32 ∷ 102 ∷ 114 ∷ 111 ∷ 109 ∷ 32 ∷ []

unfoldable pub in_text : List ℕ
in_text = 105 ∷ 110 ∷ []

unfoldable pub out_text : List ℕ
out_text = 111 ∷ 117 ∷ 116 ∷ []

-- t is n in decimal, with no zeros in front
unfoldable pub Numeral : ℕ → List ℕ → Type 0
Numeral n t = (k : ℕ) × (IsDigitCount 10 1 n k × (t ≡ last_digits 10 k n))

-- t is "refused", number and place in decimal, one space between them
unfoldable pub RefusedLine : ℕ → ℕ → List ℕ → Type 0
RefusedLine number place t =
    (a : List ℕ) × (b : List ℕ) × (Numeral number a × (Numeral place b × (t ≡ refused ++ a ++ (32 ∷ []) ++ b ++ (10 ∷ []))))

unfoldable pub ReplyLine : Reply → List ℕ → Type 0
ReplyLine Accepted t = t ≡ accepted ++ (10 ∷ [])
ReplyLine (Refused number place) t = RefusedLine number place t

-- t is "go on from" and the step in decimal
unfoldable pub GoOnLine : ℕ → List ℕ → Type 0
GoOnLine step t = (a : List ℕ) × (Numeral step a × (t ≡ go_on_from ++ a ++ (10 ∷ [])))

unfoldable pub RoundLine : Round → List ℕ → Type 0
RoundLine round.Ended t = t ≡ ended ++ (10 ∷ [])
RoundLine (round.GoOn step) t = GoOnLine step t
RoundLine (round.Refused number place) t = RefusedLine number place t

unfoldable pub AnswerLine : Answer → List ℕ → Type 0
AnswerLine answer.In t = t ≡ in_text ++ (10 ∷ [])
AnswerLine answer.Out t = t ≡ out_text ++ (10 ∷ [])
AnswerLine (answer.Refused number place) t = RefusedLine number place t

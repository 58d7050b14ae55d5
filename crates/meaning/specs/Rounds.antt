-- A check in rounds (document 02, f): some of the steps at a time, with questions between.
-- Assumes nothing.
use Rattle.std.specs.Prelude.{ℕ, ◌+◌, ◌-◌, ◌/◌, Bool, true, false, ◌&&◌, List, [], ◌∷◌, length, take, drop, leb, ltb}
use Rattle.std.proofs.Math.Option.{Option, none, some}
use Rattle.meaning.specs.Result.{Result, refuse, found, ◌>>=◌, need}
use Rattle.meaning.specs.File.{File}
use Rattle.meaning.specs.Layout.{read_file}
use Rattle.meaning.specs.Rules.{StatePattern, Pattern, dead, ◌⊑◌, ◌⊑ᴬ◌, unsolvable, Rule, ◌⊢◌}
use Rattle.meaning.specs.Reply.{check_steps, check_last}
use Rattle.meaning.specs.Question.{answer_of}
use Rattle.meaning.specs.declared.Reply.{Reply}
use Rattle.meaning.specs.declared.Reply.TheVariants as reply
use Rattle.meaning.specs.declared.Round.{Round}
use Rattle.meaning.specs.declared.Round.TheVariants.{Ended, GoOn, Refused}
use Rattle.meaning.specs.declared.Answer.{Answer}

-- ---- one round

-- how many steps a round may take
unfoldable pub lawful_count : ℕ → Bool
lawful_count count = leb 1 count && leb count 2048

-- `count` steps from step `from` on, or as many as are left
abbrev pub check_some : File → ℕ → ℕ → Result (Unit {0})
check_some f from count = check_steps f from (take count (drop from f.steps))

-- where a round that got as far as step `next` leaves the check: at that step, or past the last one, which has to say "unsolvable"
unfoldable pub hand_back : File → ℕ → Result (Option ℕ)
hand_back f next = elim (ltb next (length f.steps)) [
  | true ↦ found (some next)
  | false ↦ do
    _ ← check_last f
    found none
]

-- 17 for a count out of range or a place beyond the last step, and then the round's own steps
unfoldable pub check_round : File → ℕ → ℕ → Result (Option ℕ)
check_round f from count = do
  _ ← need (lawful_count count && ltb from (length f.steps)) 17 0
  _ ← check_some f from count
  hand_back f (from + count)

-- the cases of what a round says
unfoldable pub round_to : Result (Option ℕ) → Round
round_to (refuse r p) = Refused r p
round_to (found (some next)) = GoOn next
round_to (found none) = Ended

unfoldable pub round_of : List ℕ → ℕ → ℕ → Round
round_of bytes from count = round_to (do
  f ← read_file bytes
  check_round f from count)

-- ---- a run of rounds

-- one more round at the place handed back; where a round ended or refused the run, none follows
unfoldable pub go_on : List ℕ → Round → ℕ → Round
go_on bytes (GoOn from) count = round_of bytes from count
go_on bytes Ended count = Ended
go_on bytes (Refused r p) count = Refused r p

-- rounds of these counts, one after the other
unfoldable pub run_from : List ℕ → Round → List ℕ → Round
run_from bytes at [] = at
run_from bytes at (count ∷ counts) = run_from bytes (go_on bytes at count) counts

-- begun at step 0
unfoldable pub run : List ℕ → List ℕ → Round
run bytes counts = run_from bytes (GoOn 0) counts

-- what a run says at its end, by the reply to the file
unfoldable pub at_end : Reply → Round
at_end reply.Accepted = Ended
at_end (reply.Refused r p) = Refused r p

-- r / k, rounded up: the smallest number of rounds of k steps that covers r of them
unfoldable pub rounds_for : ℕ → ℕ → ℕ
rounds_for r k = (r + k - 1) / k

-- ---- questions between rounds

-- what may be called for: a round of some steps, or whether a state is in an entry's set
pub data Call : Type 0 where
  round : ℕ → Call
  question : ℕ → ℕ → Call

-- calls in turn: where they leave the run, and the answers
unfoldable pub session : List ℕ → Round → List Call → Round × List Answer
session bytes at [] = (at, [])
session bytes at (round count ∷ calls) = session bytes (go_on bytes at count) calls
session bytes at (question e s ∷ calls) = ((session bytes at calls).0, answer_of bytes e s ∷ (session bytes at calls).1)

-- the counts of the rounds among them
unfoldable pub counts_of : List Call → List ℕ
counts_of [] = []
counts_of (round count ∷ calls) = count ∷ counts_of calls
counts_of (question e s ∷ calls) = counts_of calls

-- the answers to the questions among them, each by the file alone
unfoldable pub answers_of : List ℕ → List Call → List Answer
answers_of bytes [] = []
answers_of bytes (round count ∷ calls) = answers_of bytes calls
answers_of bytes (question e s ∷ calls) = answer_of bytes e s ∷ answers_of bytes calls

-- ---- what the premises of a rule are about

unfoldable pub premises_of : Rule → List Pattern
premises_of (ps ⊢ c) = ps

-- the state sets that a pattern names
unfoldable pub named_sets : Pattern → List StatePattern
named_sets (dead p) = p ∷ []
named_sets (p ⊑ q) = p ∷ q ∷ []
named_sets (p ⊑ᴬ q) = []
named_sets unsolvable = []

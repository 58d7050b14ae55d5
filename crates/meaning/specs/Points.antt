-- What is proved of the definitions: the page to read first. Each statement is proved in one line in proofs/Points.antt.
-- Assumes nothing.
use Rattle.std.specs.Prelude.{◌≡◌, ◌↔◌, ◌⊎◌, true, false, not, ◌&&◌, ℕ, ◌+◌, ◌-◌, ◌*◌, ◌≤◌, ◌<◌, List, [], ◌∷◌, ◌++◌, map, length, take, drop, replicate, T, leb, eqb}
use Rattle.std.proofs.Math.Option.{none, some}
use Rattle.std.proofs.Math.ListN.{get_elem?}
use Rattle.std.specs.Int.Bits.{bit_and}
use Rattle.task.specs.Facts.{all_on, ones_in}
use Rattle.task.specs.Task.{Task, is_init, is_goal, applies}
use Rattle.task.specs.declared.Action.{Action}
use Rattle.task.specs.Reach.{member, every, Safe, Unsolvable, Reachable, AtMostReachable}
use Rattle.task.specs.System.{System, States, Actions}
use Rattle.task.specs.Stricter.{stricter, Alterations}
use Rattle.meaning.specs.Result.{found}
use Rattle.meaning.specs.Bytes.{number, AreBytes}
use Rattle.meaning.specs.File.{File, step_at}
use Rattle.meaning.specs.declared.Limits.{Limits}
use Rattle.meaning.specs.Limits.{full, small}
use Rattle.meaning.specs.Layout.{read_task, read_within, read_file}
use Rattle.meaning.specs.Writing.{All, file_of, write_file, Fits, FitsSize, Lawful}
use Rattle.meaning.specs.Sets.{in_set}
use Rattle.meaning.specs.Shapes.{lists_init, shape₁, shape₂}
use Rattle.meaning.specs.Rules.{letter, rules}
use Rattle.meaning.specs.Match.{Letters, match}
use Rattle.meaning.specs.Truth.{SoundRules}
use Rattle.meaning.specs.declared.Reply.{Reply}
use Rattle.meaning.specs.declared.Reply.TheVariants.{Accepted, Refused}
use Rattle.meaning.specs.declared.Round.TheVariants as round
use Rattle.meaning.specs.declared.Answer.TheVariants as answer
use Rattle.meaning.specs.Step.{check_step}
use Rattle.meaning.specs.Reply.{check_steps, check_last, reply_to, reply_of}
use Rattle.meaning.specs.Judged.{Judged, TrueUpTo, JudgedBy}
use Rattle.meaning.specs.Numbering.{check_numbers, rule_numbers, rewritten, reply_numbered, rewrite_bytes, Renumbering}
use Rattle.meaning.specs.Question.{depth, has_progression, shallow, answer_of}
use Rattle.meaning.specs.Rounds.{lawful_count, round_of, run_from, run, at_end, rounds_for, Call, session, counts_of, answers_of}
use Rattle.meaning.specs.Rounds.{premises_of, named_sets}
use Rattle.meaning.specs.Small.{reply_within, reply_small, breaches, Before}
use Rattle.meaning.specs.Structure.{state_set_count}
use Rattle.meaning.specs.Relisted.{wrong_in, InState, Relisted}
use Rattle.meaning.specs.Cases.{Case, cases, word, with_length, sample, file_bytes, explicit012, step_bytes, first_steps, all_steps}
use Rattle.meaning.specs.Cases.{unknown_bytes, leave_file, off_table, off_bytes, goal_steps, off_file, plain_table, adding, deleting}
use Rattle.meaning.specs.Cases.{off_version, all_events, listed_events, back_bytes, stricter_table}
use Rattle.meaning.specs.Versions.{read_task₁, read_task₂, twin, moved_reply, moved_round, moved_answer, as_version3}
use Rattle.meaning.specs.Certain.{certificate_of}

-- The sample has 234 bytes, and each of the twelve cases has its reply.
abbrev pub SampleLength : Type 0
SampleLength = length sample ≡ 234

abbrev pub TwelveCases : Type 0
TwelveCases = map (λ (c : Case). reply_of c.bytes) cases ≡ map (λ (c : Case). c.reply) cases

-- Each rule of 6 to 28 is sound, in any transition system and whatever sets the letters stand for.
abbrev pub RulesSound : Type 1
RulesSound = (y : System) (ρ : ℕ → States y) (α : ℕ → Actions y) → SoundRules y ρ α rules

-- Every judgement of a file whose steps pass is true.
abbrev pub JudgementsTrue : Type 0
JudgementsTrue =
    (bytes : List ℕ) (f : File) → read_file bytes ≡ found f → check_steps f 0 f.steps ≡ found tt
    → (k : ℕ) → k < length f.steps → Judged f (step_at f k).kind (step_at f k).left (step_at f k).right

-- By the reply to a file: every judgement of an accepted file is true, and of one that is refused with 12 alone; where a step fails, with
-- 8 to 11, each before it is. A set called dead meets no sequence from an initial state to a forbidden one.
abbrev pub ReplyJudges : Type 0
ReplyJudges = (bytes : List ℕ) → JudgedBy bytes (reply_of bytes)

-- Point 3, first half: of an accepted file, no list of the task's actions, played from an initial state, passes a forbidden state.
abbrev pub AcceptedIsSafe : Type 0
AcceptedIsSafe = (bytes : List ℕ) → reply_of bytes ≡ Accepted → (f : File) × (read_file bytes ≡ found f) × Safe f.task

-- By a check, of a lawful table with at most so many states within reach,
-- some certificate is accepted exactly when no list of its actions leads from an initial state to a forbidden state.
abbrev pub Certifies : (List ℕ → Reply) → ℕ → Type 0
Certifies check states =
    (table : List ℕ) (t : Task) → Lawful table t → AtMostReachable states t
    → ((certificate : List ℕ) × AreBytes certificate × (check (file_of table certificate) ≡ Accepted)) ↔ Unsolvable t

-- Point 3, second half.
abbrev pub SafeIsAccepted : Type 0
SafeIsAccepted = Certifies reply_of 4096

-- That certificate is the sample's with the states within reach, in any order, as its explicit set.
abbrev pub CertifiesByList : (List ℕ → Reply) → ℕ → Type 0
CertifiesByList check states =
    (table : List ℕ) (t : Task) (ss : List ℕ) → Lawful table t → Unsolvable t
    → length ss ≤ states → ((s : ℕ) → T (member s ss) ↔ Reachable t s)
    → AreBytes (certificate_of ss) × (check (file_of table (certificate_of ss)) ≡ Accepted)

abbrev pub CertainCertificate : Type 0
CertainCertificate = CertifiesByList reply_of 4096

abbrev pub SampleForm : Type 0
SampleForm = file_of (take 68 (drop 4 sample)) (certificate_of (0 ∷ 1 ∷ 2 ∷ [])) ≡ sample

-- What is read is within the limits, and reading what was written within them gives it back.
abbrev pub ReadsWithin : Type 0
ReadsWithin = (l : Limits) (bytes : List ℕ) (f : File) → AreBytes bytes → read_within l bytes ≡ found f → Fits l f × FitsSize l (length bytes)

abbrev pub ReadsBack : Type 0
ReadsBack = (l : Limits) (f : File) → Fits l f → FitsSize l (length (write_file f)) → read_within l (write_file f) ≡ found f

-- A file has no other bytes than those that are written of what is read.
abbrev pub WritesBack : Type 0
WritesBack = (bytes : List ℕ) (f : File) → AreBytes bytes → read_file bytes ≡ found f → write_file f ≡ bytes

-- A question's bounds, by document 01's depth and progression, are those of one walk at most four levels down.
abbrev pub Shortcut : Type 0
Shortcut =
    (bytes : List ℕ) (f : File) → read_file bytes ≡ found f
    → (e : ℕ) → not (has_progression f e) && leb (depth f e) 4 ≡ shallow f e 4

-- A refusal of a file is one of document 01's 1 to 12, or 16; and of a question one of the layout's, 1 to 7 or 16, or 13.
abbrev pub OfFile : ℕ → Type 0
OfFile r = ((1 ≤ r) × (r ≤ 12)) ⊎ (r ≡ 16)

abbrev pub OfLayout : ℕ → Type 0
OfLayout r = ((1 ≤ r) × (r ≤ 7)) ⊎ (r ≡ 16)

abbrev pub RefusalNumbers : Type 0
RefusalNumbers = (bytes : List ℕ) (r p : ℕ) → reply_of bytes ≡ Refused r p → OfFile r

abbrev pub AnswerNumbers : Type 0
AnswerNumbers = (bytes : List ℕ) (e s r p : ℕ) → answer_of bytes e s ≡ answer.Refused r p → OfLayout r ⊎ (r ≡ 13)

-- ---- document 02, i: a caller's own rule numbers

-- A list's faults, with an empty file: its length first; a zero; of two equal bytes the later; and all of them before the file's 1.
abbrev pub ListFaults : Type 0
ListFaults =
    (reply_numbered [] [] ≡ Refused 18 0)
    × (reply_numbered [] (0 ∷ rule_numbers) ≡ Refused 18 29)
    × (reply_numbered [] (take 27 rule_numbers ++ 0 ∷ []) ≡ Refused 18 27)
    × (reply_numbered [] (take 27 rule_numbers ++ 1 ∷ []) ≡ Refused 18 27)
    × (reply_numbered [] rule_numbers ≡ Refused 1 0)

-- With the list 1 to 28 the reply is the plain one.
abbrev pub PlainNumbers : Type 0
PlainNumbers = (bytes : List ℕ) → reply_numbered bytes rule_numbers ≡ reply_of bytes

-- By each lawful list bytes can be rewritten one to one, rule k's as the list's k-th.
abbrev pub Renumbered : Type 0
Renumbered =
    (numbers : List ℕ) → AreBytes numbers → check_numbers numbers ≡ found tt
    → (to : ℕ → ℕ) × (from : ℕ → ℕ) × Renumbering numbers to from

-- However that is done, it is a bijection on lists of bytes, which rewrites a file's rule bytes and nothing else,
abbrev pub RewritingIsBijective : Type 0
RewritingIsBijective =
    (numbers : List ℕ) (to from : ℕ → ℕ) → Renumbering numbers to from → (bytes : List ℕ) → AreBytes bytes
    → (AreBytes (rewrite_bytes to bytes) × AreBytes (rewrite_bytes from bytes))
    × (rewrite_bytes from (rewrite_bytes to bytes) ≡ bytes) × (rewrite_bytes to (rewrite_bytes from bytes) ≡ bytes)

abbrev pub RewrittenIsRead : Type 0
RewrittenIsRead =
    (numbers : List ℕ) (to from : ℕ → ℕ) → Renumbering numbers to from → (bytes : List ℕ) (f : File) → AreBytes bytes
    → read_file bytes ≡ found f → read_file (rewrite_bytes to bytes) ≡ found (rewritten to f)

-- and with the list the rewritten file gets the reply of the plain one.
abbrev pub RewrittenAlike : Type 0
RewrittenAlike =
    (numbers : List ℕ) (to from : ℕ → ℕ) → check_numbers numbers ≡ found tt → Renumbering numbers to from
    → (bytes : List ℕ) → AreBytes bytes → reply_numbered (rewrite_bytes to bytes) numbers ≡ reply_of bytes

-- Of a file that is accepted with a list, no list of the task's actions, played from an initial state, passes a forbidden state.
abbrev pub NumberedIsSafe : Type 0
NumberedIsSafe =
    (bytes numbers : List ℕ) → reply_numbered bytes numbers ≡ Accepted → (f : File) × (read_file bytes ≡ found f) × Safe f.task

-- A refusal is one of a file, or 18 of the list.
abbrev pub NumberedRefusals : Type 0
NumberedRefusals = (bytes numbers : List ℕ) (r p : ℕ) → reply_numbered bytes numbers ≡ Refused r p → OfFile r ⊎ (r ≡ 18)

-- ---- document 02, f: a check in rounds

-- The whole check is one round of 2,048 steps from step 0.
abbrev pub OneRound : Type 0
OneRound = (bytes : List ℕ) → round_of bytes 0 2048 ≡ at_end (reply_of bytes)

-- A run, begun at step 0 and gone on with at the place handed back, ends with the reply of one whole check, whatever counts its rounds
-- have; and it ends, after 2,048 rounds at the latest.
abbrev pub RunIsCheck : Type 0
RunIsCheck = (bytes counts : List ℕ) → T (every lawful_count counts) → (r : Reply) → run bytes counts ≡ at_end r → r ≡ reply_of bytes

abbrev pub RunEnds : Type 0
RunEnds = (bytes counts : List ℕ) → T (every lawful_count counts) → 2048 ≤ length counts → run bytes counts ≡ at_end (reply_of bytes)

-- With r steps left, none failing, and the same count k each round, the smallest number of rounds that covers r, and no smaller one,
-- reaches the last step.
abbrev pub FewestRounds : Type 0
FewestRounds =
    (bytes : List ℕ) (f : File) (from k : ℕ) → read_file bytes ≡ found f → from < length f.steps → T (lawful_count k)
    → check_steps f from (drop from f.steps) ≡ found tt
    → (run_from bytes (round.GoOn from) (replicate (rounds_for (length f.steps - from) k) k) ≡ at_end (reply_to (check_last f)))
    × ((n : ℕ) → n < rounds_for (length f.steps - from) k
    → run_from bytes (round.GoOn from) (replicate n k) ≡ round.GoOn (from + n * k))

-- What a round hands back is the step behind its own, further on, and none beyond the last.
abbrev pub HandsBack : Type 0
HandsBack =
    (bytes : List ℕ) (from count next : ℕ) → round_of bytes from count ≡ round.GoOn next
    → (f : File) × (read_file bytes ≡ found f) × (from < next) × (next < length f.steps) × (next ≡ from + count)

-- Of a file whose run ends accepted, no list of the task's actions, played from an initial state, passes a forbidden state.
abbrev pub RunIsSafe : Type 0
RunIsSafe = (bytes counts : List ℕ) → run bytes counts ≡ round.Ended → (f : File) × (read_file bytes ≡ found f) × Safe f.task

-- The steps from one up to another pass, each by what stands in the file.
abbrev pub Pass : File → ℕ → ℕ → Type 0
Pass f from next = (k : ℕ) → from ≤ k → k < next → check_step f k (step_at f k) ≡ found tt

-- A round, wherever it is begun, says of its own steps exactly that each passes, and at the end that the last one says "unsolvable".
abbrev pub RoundSays : Type 0
RoundSays =
    (bytes : List ℕ) (f : File) (from count : ℕ) → read_file bytes ≡ found f → from < length f.steps → T (lawful_count count)
    → (from + count < length f.steps → (round_of bytes from count ≡ round.GoOn (from + count)) ↔ Pass f from (from + count))
    × (length f.steps ≤ from + count
    → (round_of bytes from count ≡ round.Ended) ↔ (Pass f from (length f.steps) × (check_last f ≡ found tt)))

-- It says nothing of the steps before them: a round from step 5 ends, although step 4 fails.
abbrev pub EndsElsewhere : Type 0
EndsElsewhere =
    (reply_of (file_bytes 1 2 0 explicit012 0 3 all_steps) ≡ Refused 9 4)
    × (round_of (file_bytes 1 2 0 explicit012 0 3 all_steps) 5 3 ≡ round.Ended)

-- In such a round a premise's entry may be outside the file. In the rules 6 to 28 its number fits a letter, as any number does, and no
-- other pattern of a state set that a premise names.
abbrev pub OutsideFitsLetters : Type 0
OutsideFitsLetters =
    (f : File) (e : ℕ) (σ : Letters) → length f.state_sets ≤ e
    → All (λ rule. All (λ premise. All (λ p. ((x : ℕ) × (p ≡ letter x)) ⊎ (match f p e σ ≡ none)) (named_sets premise)) (premises_of rule))
    rules

-- So with the premises "1 within 200" and "200 dead" step 2 passes by SD, and with "200 dead" step 1 fails by CI.
abbrev pub OutsideEntries : Type 0
OutsideEntries =
    (round_of (file_bytes 1 2 0 explicit012 3 0
    (0 ∷ 3 ∷ step_bytes 1 1 1 200 0 0 0 ++ step_bytes 6 0 200 0 0 0 0 ++ step_bytes 8 0 1 0 0 1 0)) 2 1 ≡ round.Refused 12 2)
    × (round_of (file_bytes 1 2 0 explicit012 3 0
    (0 ∷ 2 ∷ step_bytes 6 0 200 0 0 0 0 ++ step_bytes 13 3 0 0 0 0 0)) 1 1 ≡ round.Refused 9 1)

-- The sample in rounds: 17 for a count of 0 or over 2,048 and for a place from the number of steps on, after the layout's refusals; the
-- round that does the last step is the last; and 12 comes from that round alone.
abbrev pub RoundCases : Type 0
RoundCases =
    (round_of sample 0 7 ≡ round.GoOn 7)
    × (round_of sample 0 8 ≡ round.Ended)
    × (round_of sample 7 2048 ≡ round.Ended)
    × (round_of sample 8 1 ≡ round.Refused 17 0)
    × (round_of sample 0 0 ≡ round.Refused 17 0)
    × (round_of sample 0 2049 ≡ round.Refused 17 0)
    × (round_of [] 8 0 ≡ round.Refused 1 0)
    × (round_of (file_bytes 1 2 0 explicit012 3 0 (0 ∷ 7 ∷ first_steps)) 0 6 ≡ round.GoOn 6)
    × (round_of (file_bytes 1 2 0 explicit012 3 0 (0 ∷ 7 ∷ first_steps)) 6 1 ≡ round.Refused 12 6)

-- The reply of a run with questions put between its rounds is the reply of the run, and each question is answered by the file alone.
abbrev pub QuestionsBetween : Type 0
QuestionsBetween =
    (bytes : List ℕ) (calls : List Call)
    → ((session bytes (round.GoOn 0) calls).0 ≡ run bytes (counts_of calls)) × ((session bytes (round.GoOn 0) calls).1 ≡ answers_of bytes calls)

-- A refusal is one of a file, or 17 of the round's numbers, at 0.
abbrev pub RoundRefusals : Type 0
RoundRefusals =
    (bytes : List ℕ) (from count r p : ℕ) → round_of bytes from count ≡ round.Refused r p
    → OfFile r ⊎ ((r ≡ 17) × (p ≡ 0))

-- ---- document 02, l: the same check with smaller limits

-- With document 01's limits it is the check itself, and 19 does not come.
abbrev pub FullLimits : Type 0
FullLimits = (bytes : List ℕ) → (reply_within full bytes ≡ reply_of bytes) × ((p : ℕ) → reply_within full bytes ≡ Refused 19 p → ⊥)

-- Whatever the limits are: the reply is that of the check, or 19,
abbrev pub RepliesAlike : Type 0
RepliesAlike =
    (l : Limits) (bytes : List ℕ) → (reply_within l bytes ≡ reply_of bytes) ⊎ ((p : ℕ) × (reply_within l bytes ≡ Refused 19 p))

-- and it is 19 at the first breach in the written order exactly when this comes before what the check refuses, if anything.
abbrev pub FirstBreach : Type 0
FirstBreach =
    (l : Limits) (bytes : List ℕ) (p : ℕ)
    → (reply_within l bytes ≡ Refused 19 p) ↔ ((get_elem? (breaches bytes l) 0 ≡ some p) × Before p (reply_of bytes))

-- What the small check accepts the check accepts, and it is safe.
abbrev pub SmallIsAccepted : Type 0
SmallIsAccepted = (bytes : List ℕ) → reply_small bytes ≡ Accepted → reply_of bytes ≡ Accepted

abbrev pub SmallIsSafe : Type 0
SmallIsSafe = (bytes : List ℕ) → reply_small bytes ≡ Accepted → (f : File) × (read_file bytes ≡ found f) × Safe f.task

-- A table's bytes and the certain certificate make a file of this length; with 512 states, and 256 actions in a table of version 1
-- (20 bytes and 24 for each action), of version 2 (28 and 24) or of version 3 (36 and 32), it is within the small limits.
abbrev pub CertainLength : Type 0
CertainLength =
    ((table ss : List ℕ) → length (file_of table (certificate_of ss)) ≡ length table + 8 * length ss + 142)
    × (20 + 24 * 256 + 8 * small.states + 142 ≡ 10402)
    × (28 + 24 * 256 + 8 * small.states + 142 ≡ 10410)
    × (36 + 32 * 256 + 8 * small.states + 142 ≡ 12466)
    × (12466 ≤ small.size)

-- So the small check has both halves of point 3 up to 512 states within reach.
abbrev pub SmallSafeIsAccepted : Type 0
SmallSafeIsAccepted = Certifies reply_small 512

abbrev pub SmallCertainCertificate : Type 0
SmallCertainCertificate = CertifiesByList reply_small 512

-- The sample has 234 bytes, an explicit set of 3 states at 88 and, at 136, a count of 8 steps. Each limit met, and broken by one;
-- the size before the states, and these before the steps; 1 before the size, and that before the version; a fault in front of a breach
-- before it, and one behind it, in a state of the set, after it.
abbrev pub LimitCases : Type 0
LimitCases =
    (reply_within (record { size = 234; states = 3; steps = 8 }) sample ≡ Accepted)
    × (reply_within (record { size = 233; states = 3; steps = 8 }) sample ≡ Refused 19 0)
    × (reply_within (record { size = 234; states = 2; steps = 8 }) sample ≡ Refused 19 88)
    × (reply_within (record { size = 234; states = 3; steps = 7 }) sample ≡ Refused 19 136)
    × (reply_within (record { size = 233; states = 2; steps = 7 }) sample ≡ Refused 19 0)
    × (reply_within (record { size = 234; states = 2; steps = 7 }) sample ≡ Refused 19 88)
    × (reply_within (record { size = 233; states = 3; steps = 8 }) (sample ++ 0 ∷ []) ≡ Refused 1 0)
    × (reply_within (record { size = 233; states = 3; steps = 8 }) (file_bytes 0 2 0 explicit012 3 0 all_steps) ≡ Refused 19 0)
    × (reply_within (record { size = 234; states = 2; steps = 8 }) (file_bytes 1 1 0 explicit012 3 0 all_steps) ≡ Refused 5 14)
    × (reply_within (record { size = 234; states = 2; steps = 8 }) (file_bytes 1 2 0 (0 ∷ 25 ∷ 3 ∷ word 4 ++ word 1 ++ word 2) 3 0 all_steps)
    ≡ Refused 19 88)
    × (breaches sample (record { size = 233; states = 2; steps = 7 }) ≡ 0 ∷ 88 ∷ 136 ∷ [])

-- A refusal is one of a file, or 19.
abbrev pub LimitRefusals : Type 0
LimitRefusals = (l : Limits) (bytes : List ℕ) (r p : ℕ) → reply_within l bytes ≡ Refused r p → OfFile r ⊎ (r ≡ 19)

-- ---- document 02, b: explicit states in any order, with repeats

-- Something said of files is the same of two that differ only in the order of the states within explicit sets, or in their repeats. But 5
-- follows the bad state: it is refused so in the same set, in each file at the first state there that names a fact of n or above.
abbrev pub SameInAnyOrder : {R : Type 0} → (ℕ → ℕ → R) → (List ℕ → R) → Type 0
SameInAnyOrder refused said =
    (a b : List ℕ) → Relisted a b
    → (said a ≡ said b)
    ⊎ ((e : ℕ) × (p : ℕ) × (q : ℕ) × (e < number 2 a (state_set_count a))
    × (get_elem? (wrong_in a e) 0 ≡ some p) × (get_elem? (wrong_in b e) 0 ≡ some q)
    × (said a ≡ refused 5 p) × (said b ≡ refused 5 q))

-- So are the reply to a file, whatever the limits and the rule numbers, a round of it and the answer to a question.
abbrev pub OrderAlike : Type 0
OrderAlike = SameInAnyOrder Refused reply_of

abbrev pub LimitedOrderAlike : Type 0
LimitedOrderAlike = (l : Limits) → SameInAnyOrder Refused (reply_within l)

abbrev pub NumberedOrderAlike : Type 0
NumberedOrderAlike = (numbers : List ℕ) → SameInAnyOrder Refused (λ bytes. reply_numbered bytes numbers)

abbrev pub RoundOrderAlike : Type 0
RoundOrderAlike = (from count : ℕ) → SameInAnyOrder round.Refused (λ bytes. round_of bytes from count)

abbrev pub AnswerOrderAlike : Type 0
AnswerOrderAlike = (e s : ℕ) → SameInAnyOrder answer.Refused (λ bytes. answer_of bytes e s)

-- In each file it is at the first state of the set, in the order of the file, that names a fact of n or above.
abbrev pub FirstWrongState : Type 0
FirstWrongState =
    (bytes : List ℕ) (p : ℕ) → reply_of bytes ≡ Refused 5 p → InState bytes p
    → (e : ℕ) × (e < number 2 bytes (state_set_count bytes)) × (get_elem? (wrong_in bytes e) 0 ≡ some p)

-- 7 does not come from an explicit set.
abbrev pub NoOrderFault : Type 0
NoOrderFault = (bytes : List ℕ) (p : ℕ) → reply_of bytes ≡ Refused 7 p → InState bytes p → ⊥

-- The sample with its states as 2, 0, 1 and as 1, 2, 0, 1; one short of a state, with another twice; 5 at the first state in the file that
-- names fact 2 or above, whichever is the smallest; and a limit of three states, broken by a fourth that repeats one.
abbrev pub OrderCases : Type 0
OrderCases =
    (reply_of (file_bytes 1 2 0 (0 ∷ 25 ∷ 3 ∷ word 2 ++ word 0 ++ word 1) 3 0 all_steps) ≡ Accepted)
    × (reply_of (file_bytes 1 2 0 (0 ∷ 33 ∷ 3 ∷ word 1 ++ word 2 ++ word 0 ++ word 1) 3 0 all_steps) ≡ Accepted)
    × (reply_of (file_bytes 1 2 0 (0 ∷ 25 ∷ 3 ∷ word 1 ++ word 0 ++ word 1) 3 0 all_steps) ≡ Refused 11 1)
    × (reply_of (file_bytes 1 2 0 (0 ∷ 25 ∷ 3 ∷ word 9 ++ word 4 ++ word 0) 3 0 all_steps) ≡ Refused 5 91)
    × (reply_of (file_bytes 1 2 0 (0 ∷ 25 ∷ 3 ∷ word 0 ++ word 9 ++ word 4) 3 0 all_steps) ≡ Refused 5 99)
    × (reply_within (record { size = 65536; states = 3; steps = 8 })
    (file_bytes 1 2 0 (0 ∷ 33 ∷ 3 ∷ word 1 ++ word 2 ++ word 0 ++ word 1) 3 0 all_steps) ≡ Refused 19 88)

-- ---- document 02, d: facts that may be on or off at the start

-- Version 1 is read as document 01 says, byte for byte. No fact is unknown there: the start is the one initial state, and kind 1 gives
-- leave. Nothing else hangs on the version.
abbrev pub VersionOne : Type 0
VersionOne =
    ((bytes : List ℕ) → number 1 bytes 4 ≡ 1 → read_task bytes ≡ read_task₁ bytes)
    × ((t : Task) → t.unknown ≡ 0 → (s : ℕ) → is_init t s ≡ eqb s t.init)
    × ((f : File) → f.task.unknown ≡ 0 → T (lists_init f))

-- A version 2 file with a zero mask gets its version 1 twin's reply, byte places from 14 on moved by 8, where these 8 bytes do not bring it
-- past the limits; and so do a round, a question and a check with a caller's own rule numbers.
abbrev pub SameAsTwin : {R : Type 0} → Limits → (R → R) → (List ℕ → R) → Type 0
SameAsTwin l moved said =
    (bytes : List ℕ) → AreBytes bytes → 14 ≤ length bytes → number 1 bytes 4 ≡ 1 → FitsSize l (length bytes + 8)
    → said (twin bytes) ≡ moved (said bytes)

abbrev pub TwinReplies : Type 0
TwinReplies = (l : Limits) → SameAsTwin l moved_reply (reply_within l)

abbrev pub TwinChecks : Type 0
TwinChecks =
    SameAsTwin full moved_reply reply_of
    × ((numbers : List ℕ) → SameAsTwin full moved_reply (λ bytes. reply_numbered bytes numbers))
    × ((from count : ℕ) → SameAsTwin full moved_round (λ bytes. round_of bytes from count))
    × ((e s : ℕ) → SameAsTwin full moved_answer (λ bytes. answer_of bytes e s))

-- Each version 2 file with a zero mask is such a twin.
abbrev pub TwinForm : Type 0
TwinForm =
    (bytes : List ℕ) → AreBytes bytes → 22 ≤ length bytes → number 1 bytes 4 ≡ 2 → number 8 bytes 14 ≡ 0
    → number 4 bytes 0 + 4 ≡ length bytes
    → (a : List ℕ) × AreBytes a × (number 1 a 4 ≡ 1) × (length a + 8 ≡ length bytes) × (twin a ≡ bytes)

-- A task with at most 4,096 states within reach has at most 12 unknown facts, so that kind 1 lists its states: the certain certificate's
-- step 5, which says that kind 1 is within the explicit set, has the leave that it needs.
abbrev pub FewUnknown : Type 0
FewUnknown = (t : Task) → AtMostReachable 4096 t → ones_in 64 t.unknown ≤ 12

-- The sample as version 2: without unknown facts, its twin; with fact 0 unknown; with both, so that the forbidden state 3 is initial.
-- 16 at the mask, after the start's 5 and its own, and before the forbidden mask is looked at; 3 where the file ends in it. And which
-- states set 1 holds.
abbrev pub UnknownCases : Type 0
UnknownCases =
    (unknown_bytes 0 0 3 ≡ twin sample)
    × (reply_of (unknown_bytes 0 0 3) ≡ Accepted)
    × (reply_of (unknown_bytes 0 1 3) ≡ Accepted)
    × (reply_of (unknown_bytes 0 3 3) ≡ Refused 11 5)
    × (reply_of (unknown_bytes 1 1 3) ≡ Refused 16 14)
    × (reply_of (unknown_bytes 1 5 3) ≡ Refused 5 14)
    × (reply_of (unknown_bytes 4 4 3) ≡ Refused 5 6)
    × (reply_of (unknown_bytes 1 1 4) ≡ Refused 16 14)
    × (reply_of (unknown_bytes 0 1 4) ≡ Refused 5 22)
    × (reply_of (with_length (2 ∷ 2 ∷ word 0 ++ 0 ∷ [])) ≡ Refused 3 14)
    × (answer_of (unknown_bytes 0 1 3) 1 0 ≡ answer.In)
    × (answer_of (unknown_bytes 0 1 3) 1 1 ≡ answer.In)
    × (answer_of (unknown_bytes 0 1 3) 1 2 ≡ answer.Out)

-- Leave in explicit shapes: kind 1 gives it with 12 unknown facts, on the left of B1 and in the bracket of B2, and with 13 it does not;
-- but it may stand there, on either side, where kind 3, or kind 0 that changed sides, gives it.
abbrev pub LeaveCases : Type 0
LeaveCases =
    (shape₁ (leave_file 4095) 1 2 ≡ true)
    × (shape₁ (leave_file 8191) 1 2 ≡ false)
    × (shape₂ (leave_file 4095) 4 2 ≡ true)
    × (shape₂ (leave_file 8191) 4 2 ≡ false)
    × (shape₁ (leave_file 8191) 3 2 ≡ true)
    × (shape₁ (leave_file 8191) 2 1 ≡ true)
    × (shape₁ (leave_file 8191) 1 6 ≡ true)

-- ---- document 02, j: facts that an action or the goal needs off

-- A version 2 file is read as document 02, d, says. In it, as in one of version 1, no fact is needed off: then an action applies where all
-- its needs are on, and a state is forbidden by the one mask.
abbrev pub VersionTwo : Type 0
VersionTwo =
    ((bytes : List ℕ) → number 1 bytes 4 ≡ 2 → read_task bytes ≡ read_task₂ bytes)
    × ((a : Action) → a.off ≡ 0 → (s : ℕ) → applies a s ≡ all_on a.pre s)
    × ((t : Task) → t.off ≡ 0 → (s : ℕ) → is_goal t s ≡ all_on t.goal s)

-- A file of version 1 or 2 that is read gets the same reply as version 3, where that is within the limits; and so do a round, a question
-- and a check with a caller's own rule numbers.
abbrev pub SameAsVersion3 : {R : Type 0} → Limits → (List ℕ → R) → Type 0
SameAsVersion3 l said =
    (bytes : List ℕ) (f : File) → AreBytes bytes → read_within l bytes ≡ found f → FitsSize l (length (write_file (as_version3 f)))
    → said (write_file (as_version3 f)) ≡ said bytes

abbrev pub OlderReplies : Type 0
OlderReplies = (l : Limits) → SameAsVersion3 l (reply_within l)

abbrev pub OlderChecks : Type 0
OlderChecks =
    SameAsVersion3 full reply_of
    × ((numbers : List ℕ) → SameAsVersion3 full (λ bytes. reply_numbered bytes numbers))
    × ((from count : ℕ) → SameAsVersion3 full (λ bytes. round_of bytes from count))
    × ((e s : ℕ) → SameAsVersion3 full (λ bytes. answer_of bytes e s))

-- An action that needs a fact on and off applies nowhere. A goal with a fact in both masks has no state, and one with neither has every
-- state.
abbrev pub NeededBothWays : Type 0
NeededBothWays =
    ((a : Action) → 0 < bit_and a.pre a.off → (s : ℕ) → applies a s ≡ false)
    × ((t : Task) → 0 < bit_and t.goal t.off → (s : ℕ) → is_goal t s ≡ false)
    × ((t : Task) → t.goal ≡ 0 → t.off ≡ 0 → (s : ℕ) → is_goal t s ≡ true)

-- The sample with events that need off what the other sets: accepted, and untrue where one of them needs nothing off. An event needs its
-- facts off before it sets them. Each new mask has its own 3 and 5, and 16 is at 14 here too. Set 2 holds the states that meet both masks.
abbrev pub OffCases : Type 0
OffCases =
    (reply_of (off_bytes (off_table 0 0 3 0 2 1) explicit012 all_steps) ≡ Accepted)
    × (reply_of (off_bytes (off_table 0 0 3 0 0 1) explicit012 all_steps) ≡ Refused 11 1)
    × (reply_of (off_bytes (off_table 0 0 3 0 3 2) (0 ∷ 9 ∷ 3 ∷ word 0) all_steps) ≡ Refused 11 1)
    × (reply_of (off_bytes (off_table 0 0 1 2 2 1) explicit012 all_steps) ≡ Refused 11 2)
    × (reply_of (off_bytes (off_table 0 0 3 4 2 1) explicit012 all_steps) ≡ Refused 5 30)
    × (reply_of (off_bytes (off_table 0 0 3 0 4 1) explicit012 all_steps) ≡ Refused 5 64)
    × (reply_of (off_bytes (off_table 0 0 3 0 2 4) explicit012 all_steps) ≡ Refused 5 96)
    × (reply_of (off_bytes (off_table 1 1 3 0 2 1) explicit012 all_steps) ≡ Refused 16 14)
    × (reply_of (with_length (take 33 (off_table 0 0 3 0 2 1))) ≡ Refused 3 30)
    × (reply_of (with_length (take 67 (off_table 0 0 3 0 2 1))) ≡ Refused 3 64)
    × (reply_of (file_bytes 4 2 0 explicit012 3 0 all_steps) ≡ Refused 2 4)
    × (answer_of (off_bytes (off_table 0 0 1 2 2 1) explicit012 all_steps) 2 0 ≡ answer.Out)
    × (answer_of (off_bytes (off_table 0 0 1 2 2 1) explicit012 all_steps) 2 1 ≡ answer.In)
    × (answer_of (off_bytes (off_table 0 0 1 2 2 1) explicit012 all_steps) 2 2 ≡ answer.Out)
    × (answer_of (off_bytes (off_table 0 0 1 2 2 1) explicit012 all_steps) 2 3 ≡ answer.Out)

-- A goal without states: kind 2 is within the empty set, and so dead, and its task unsolvable, whatever the actions do. It is kind 2 still:
-- a rule does not take it for the empty set (9), it gives no leave, and it counts among the two on the right, where kind 0 does not. With
-- no mask at all, every state is forbidden. And [A]S has the states before the action, where what it needs off is off.
abbrev pub NoGoalCases : Type 0
NoGoalCases =
    (reply_of (off_bytes (off_table 0 0 1 1 0 0) explicit012 goal_steps) ≡ Accepted)
    × (reply_of (off_bytes (off_table 0 0 3 0 0 0) explicit012 goal_steps) ≡ Refused 11 1)
    × (reply_of (off_bytes (off_table 0 0 1 1 0 0) explicit012 (0 ∷ 1 ∷ step_bytes 6 0 2 0 0 0 0)) ≡ Refused 9 0)
    × (reply_of (off_bytes (off_table 0 0 0 0 2 1) explicit012 all_steps) ≡ Refused 11 2)
    × (shape₁ off_file 1 0 ≡ true)
    × (shape₁ off_file 1 2 ≡ false)
    × (shape₁ off_file 0 3 ≡ true)
    × (shape₁ off_file 0 4 ≡ false)
    × (shape₁ off_file 0 6 ≡ true)
    × (in_set off_file 7 0 ≡ true)
    × (in_set off_file 7 1 ≡ false)

-- ---- document 02, k: what a half-finished proof is good for

-- Of the step that fails no more can be said: one that is refused with 11 is not true.
abbrev pub RefusedIsUntrue : Type 0
RefusedIsUntrue =
    (bytes : List ℕ) (p : ℕ) → reply_of bytes ≡ Refused 11 p
    → (f : File) × (read_file bytes ≡ found f) × (Judged f (step_at f p).kind (step_at f p).left (step_at f p).right → ⊥)

-- ReplyJudges holds as well of the reply with a caller's own rule numbers, and of the reply with smaller limits, whatever they are.
abbrev pub NumberedJudged : Type 0
NumberedJudged = (bytes numbers : List ℕ) → JudgedBy bytes (reply_numbered bytes numbers)

abbrev pub LimitedJudged : Type 0
LimitedJudged = (l : Limits) (bytes : List ℕ) → JudgedBy bytes (reply_within l bytes)

-- And of a run of rounds, whatever its counts, by the reply that it ends with; a run that goes on has shown each judgement before the step
-- handed back.
abbrev pub RunJudged : Type 0
RunJudged =
    (bytes counts : List ℕ)
    → ((r : Reply) → run bytes counts ≡ at_end r → JudgedBy bytes r)
    × ((n : ℕ) → run bytes counts ≡ round.GoOn n → 0 < n → TrueUpTo bytes n)

-- Of an accepted file, each task that is stricter than its own is safe as well, whatever the versions of the two tables are: actions are
-- taken away, needs are added to actions, facts to either forbidden mask. That holds of any safe task.
abbrev pub StricterIsSafe : Type 0
StricterIsSafe =
    (bytes : List ℕ) → reply_of bytes ≡ Accepted
    → (f : File) × (read_file bytes ≡ found f) × ((t : Task) → T (stricter t f.task) → Safe t)

abbrev pub StricterThanSafe : Type 0
StricterThanSafe = (t u : Task) → T (stricter t u) → Safe u → Safe t

-- A task is stricter than another just where single alterations make it, any number of them one after the other.
abbrev pub StricterByAlterations : Type 0
StricterByAlterations = (t u : Task) → T (stricter t u) ↔ Alterations u t

-- So a task is as strict as itself, and one that is stricter than a stricter one is stricter.
abbrev pub StricterOrder : Type 0
StricterOrder =
    ((t : Task) → T (stricter t t))
    × ((t u v : Task) → T (stricter t u) → T (stricter u v) → T (stricter t v))

-- A certificate that goes backwards from the forbidden states. With a fact added to the mask the table is stricter, and the certificate no
-- longer passes: an event leads to the states that are still forbidden from one that was. Nor does it where an event that it lists is
-- taken away. It still passes where events have more needs, in another order, one of them twice, and in a later version. The first table
-- is not stricter than any of these, and one that knows less of its start is not stricter than it.
abbrev pub StricterCases : Type 0
StricterCases =
    (reply_of (back_bytes (plain_table 1 2 (adding ++ deleting)) all_events) ≡ Accepted)
    × (reply_of (back_bytes (plain_table 3 2 (adding ++ deleting)) all_events) ≡ Refused 11 1)
    × (stricter_table (plain_table 3 2 (adding ++ deleting)) (plain_table 1 2 (adding ++ deleting)) ≡ found true)
    × (stricter_table (plain_table 1 2 (adding ++ deleting)) (plain_table 3 2 (adding ++ deleting)) ≡ found false)
    × (reply_of (back_bytes (plain_table 1 2 (adding ++ deleting)) listed_events) ≡ Accepted)
    × (reply_of (back_bytes (plain_table 1 1 adding) listed_events) ≡ Refused 6 58)
    × (stricter_table (plain_table 1 1 adding) (plain_table 1 2 (adding ++ deleting)) ≡ found true)
    × (stricter_table (plain_table 1 2 (adding ++ deleting)) (plain_table 1 1 adding) ≡ found false)
    × (reply_of (back_bytes (off_version 0) all_events) ≡ Accepted)
    × (stricter_table (off_version 0) (plain_table 1 2 (adding ++ deleting)) ≡ found true)
    × (stricter_table (plain_table 1 2 (adding ++ deleting)) (off_version 0) ≡ found false)
    × (stricter_table (off_version 1) (plain_table 1 2 (adding ++ deleting)) ≡ found false)

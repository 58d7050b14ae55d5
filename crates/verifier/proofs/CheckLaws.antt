-- The reply to a file and what a round says, from what the layout check and the walk over steps tell.
-- Assumes nothing.
use mathlib.Core.Path.{◌≡◌, refl, sym, ap, ◌∙◌, subst}
use Prim.Native.Nat.{ℕ, ◌+◌, ◌≤◌, ◌<◌}
use native.Mathlib.Omega.{arith}
use mathlib.Core.Bool.{Bool, true, false, not, ◌&&◌}
use mathlib.Core.Option.{some}
use mathlib.Core.List.{List}
use lib.ListN.{length}
use lib.Dec.{T, ltb, ltb→lt}
use borrow.Author.Tests.{not-true, not-false}
use Rattle.meaning.specs.Result.{Result, refuse, found, ◌>>=◌, need}
use Rattle.meaning.specs.File.{File}
use Rattle.meaning.specs.declared.Limits.{Limits}
use Rattle.meaning.specs.Limits.{full, small}
use Rattle.meaning.specs.Layout.{read_within, read_file}
use Rattle.meaning.specs.declared.Reply.{Reply}
use Rattle.meaning.specs.declared.Reply.TheVariants.{Accepted, Refused}
use Rattle.meaning.specs.declared.Round.TheVariants as round
use Rattle.meaning.specs.Reply.{check_from, check_file, reply_to, reply_of}
use Rattle.meaning.specs.Judged.{JudgedBy}
use Rattle.meaning.specs.Rounds.{lawful_count, check_some, check_round, round_to, round_of, at_end}
use Rattle.meaning.specs.Numbering.{check_numbers, rule_meant, rewritten, check_rewritten, reply_numbered}
use Rattle.meaning.proofs.Results.{bind_same, and_out}
use Rattle.meaning.proofs.RuleBytes.{rewritten_same}
use Rattle.meaning.proofs.Rounds.{between, at_last}
use Rattle.task.proofs.Tests.{holds}
use Rattle.certificate.specs.Known.{decoded}
use Rattle.meaning.specs.Small.{reply_within, reply_small}
use Rattle.verifier.specs.Check.{reply_by}
use Rattle.verifier.specs.Round.{or_else}

-- ---- the reply to the bytes

module _ (l : Limits) (g : ℕ → ℕ) (bytes : List ℕ) where
  pub read_reply : read_within l bytes ≡ found (decoded bytes) → reply_to (check_from (rewritten g (decoded bytes)) 0) ≡ reply_by l g bytes
  unfolding reply_by check_file ◌>>=◌
  read_reply h = rw h refl

  pub unread_reply : (r p : ℕ) → read_within l bytes ≡ refuse r p → Refused r p ≡ reply_by l g bytes
  unfolding reply_by reply_to ◌>>=◌
  unread_reply r p h = rw h refl

-- where each byte stands for itself
own_reply : (l : Limits) (bytes : List ℕ) → reply_by l (λ x. x) bytes ≡ reply_within l bytes
unfolding reply_by reply_within
own_reply l bytes = ap reply_to (bind_same refl (λ f. ap check_file (rewritten_same f (λ x. x) (λ x. refl))))

-- with document 01's limits, and with the small ones
module _ {l : Limits} (bytes : List ℕ) where
  pub plain_reply : l ≡ full → reply_by l (λ x. x) bytes ≡ reply_of bytes
  unfolding reply_within reply_of read_file
  plain_reply e = own_reply l bytes ∙ ap (λ (k : Limits). reply_within k bytes) e

  pub small_reply : l ≡ small → reply_by l (λ x. x) bytes ≡ reply_small bytes
  unfolding reply_small
  small_reply e = own_reply l bytes ∙ ap (λ (k : Limits). reply_within k bytes) e

-- by a list
module _ (bytes numbers : List ℕ) where
  pub list_reply_lem : (p : ℕ) → check_numbers numbers ≡ refuse 18 p → Refused 18 p ≡ reply_numbered bytes numbers
  unfolding reply_numbered reply_to ◌>>=◌
  list_reply_lem p h = rw h refl

  pub numbered_reply : {l : Limits} → l ≡ full → check_numbers numbers ≡ found tt
      → reply_by l (rule_meant numbers) bytes ≡ reply_numbered bytes numbers
  unfolding reply_numbered check_rewritten read_file reply_by ◌>>=◌
  numbered_reply e h = rw (e, h) refl

-- ---- what follows of the reply: that an accepted file is safe, and which judgements are true

pub as_replied : {S : Type 0} (bytes : List ℕ) {r x : Reply} → r ≡ x → (x ≡ Accepted → S) → JudgedBy bytes x
    → (r ≡ Accepted → S) × JudgedBy bytes r
as_replied bytes e safe judged = ((λ y. safe (sym e ∙ y)), subst (JudgedBy bytes) (sym e) judged)

-- ---- a round

-- the steps' reply, and where they pass the step to go on from, or that it has ended
going_on : (x : Result (Unit {0})) (n : ℕ) → or_else (reply_to x) (round.GoOn n) ≡ round_to (x >>= (λ _. found (some n)))
unfolding or_else reply_to round_to ◌>>=◌
going_on (refuse r p) n = refl
going_on (found u) n = refl

ending : (x : Reply) → or_else x round.Ended ≡ at_end x
unfolding or_else at_end
ending Accepted = refl
ending (Refused r p) = refl

own_rules : (f : File) → rewritten (λ x. x) f ≡ f
own_rules f = rewritten_same f (λ x. x) (λ x. refl)

-- a round of a file with n steps, where a test b tells whether it is lawful
module _ (from count n : ℕ) {b : Bool} (told : b ≡ (lawful_count count && ltb from n)) where
  lawful_both : not b ≡ false → T (lawful_count count) × T (ltb from n)
  lawful_both h = and_out (lawful_count count) (ltb from n) (holds (sym told ∙ not-false b h))

  pub lawful_place : not b ≡ false → from < n
  lawful_place h = ltb→lt from n (lawful_both h).1

  -- and the file is read
  module _ (bytes : List ℕ) (f : File) (read : read_file bytes ≡ found f) (steps : n ≡ length f.steps) where
    pub unlawful_round : not b ≡ true → round.Refused 17 0 ≡ round_of bytes from count
    unfolding round_of check_round need ◌>>=◌ round_to
    unlawful_round h = rw (read, sym steps, sym told ∙ not-true b h) refl

    below : not b ≡ false → from < length f.steps
    below h = let l = lawful_place h in omega arith

    pub round_goes_on : {r : Reply} → not b ≡ false → from + count < n → r ≡ reply_to (check_some (rewritten (λ x. x) f) from count)
        → or_else r (round.GoOn (from + count)) ≡ round_of bytes from count
    round_goes_on h l e =
        ap (λ (x : Reply). or_else x (round.GoOn (from + count))) (e ∙ ap (λ (x : File). reply_to (check_some x from count)) (own_rules f))
        ∙ going_on (check_some f from count) (from + count)
        ∙ sym (between f bytes read from count (below h) (lawful_both h).0 (omega arith))

    pub round_ends : {r : Reply} → not b ≡ false → n ≤ from + count → r ≡ reply_to (check_from (rewritten (λ x. x) f) from)
        → or_else r round.Ended ≡ round_of bytes from count
    round_ends {r} h l e =
        ending r ∙ ap at_end (e ∙ ap (λ (x : File). reply_to (check_from x from)) (own_rules f))
        ∙ sym (at_last f bytes read from count (below h) (lawful_both h).0 (omega arith))

-- of one that is not
pub unread_round : (bytes : List ℕ) (from count r p : ℕ) → read_file bytes ≡ refuse r p → round.Refused r p ≡ round_of bytes from count
unfolding round_of round_to ◌>>=◌
unread_round bytes from count r p h = rw h refl

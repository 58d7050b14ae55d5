-- A run of rounds of the same count, from the rounds that the code has done.
-- Assumes nothing.
use mathlib.Core.Path.{◌≡◌, refl, sym, ap, ◌∙◌}
use Prim.Native.Nat.{ℕ, zero, suc}
use mathlib.Core.List.{List}
use lib.ListN.{replicate}
use lib.Dec.{T}
use Rattle.task.specs.Reach.{every}
use Rattle.meaning.specs.declared.Reply.{Reply}
use Rattle.meaning.specs.declared.Round.{Round}
use Rattle.meaning.specs.declared.Round.TheVariants.{GoOn}
use Rattle.meaning.specs.Reply.{reply_of}
use Rattle.meaning.specs.Judged.{JudgedBy}
use Rattle.meaning.specs.Rounds.{lawful_count, go_on, round_of, run_from, run, at_end}
use Rattle.meaning.proofs.Results.{and_in}
use Rattle.meaning.proofs.Runs.{last_round, run_is_check}
use Rattle.meaning.proofs.Points.{judgements_are_true_by_a_run}

module _ (bytes : List ℕ) (count : ℕ) where
  -- some rounds of this count say it
  abbrev pub Said : Round → Type 0
  Said x = (n : ℕ) × (run bytes (replicate n count) ≡ x)

  pub said_first : Said (GoOn 0)
  unfolding run run_from
  said_first = (0, refl)

  -- and one more
  pub said_next : (from : ℕ) {x : Round} → Said (GoOn from) → x ≡ round_of bytes from count → Said x
  unfolding run go_on
  said_next from (n, h) e = (suc n, last_round bytes n count (GoOn 0) ∙ ap (λ y. go_on bytes y count) h ∙ sym e)

  lawful : (n : ℕ) → T (lawful_count count) → T (every lawful_count (replicate n count))
  unfolding every
  lawful zero t = tt
  lawful (suc n) t = and_in (lawful_count count) (every lawful_count (replicate n count)) t (lawful n t)

  -- at its end a run says the reply of one whole check
  pub said_reply : (r : Reply) → Said (at_end r) → T (lawful_count count) → r ≡ reply_of bytes
  said_reply r (n, h) t = run_is_check bytes (replicate n count) (lawful n t) r h

  -- and by it the judgements are true
  pub said_judged : (r : Reply) → Said (at_end r) → JudgedBy bytes r
  said_judged r (n, h) = (judgements_are_true_by_a_run bytes (replicate n count)).0 r h

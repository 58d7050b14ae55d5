-- `membership::meets_all` meets its contract. The invariant: the state meets the first `i` clauses.
-- Assumes nothing.
use mathlib.Core.Path.{◌≡◌}
use mathlib.Core.Bool.{true}
use Rattle.meaning.specs.Sets.{all_below, meets}
use Rattle.words.specs.Words.{words_at}
use Rattle.membership.proofs.meets_all.Given as goal

abbrev pub invariant-loop-i : goal.invariant-loop-i
invariant-loop-i l = all_below l.i (λ k. meets l.s (words_at l.file l.x.at k)) ≡ true

-- The question whether a state is in an entry's set.
-- Assumes nothing.
use Rattle.std.specs.Prelude.{ℕ, suc, ◌^◌, max, Bool, true, false, not, ◌&&◌, ◌||◌, List, length, leb, ltb}
use Rattle.meaning.specs.Result.{Result, refuse, found, ◌>>=◌, need}
use Rattle.meaning.specs.File.{StateSet, basic, complement, intersection, union, progression, regression, File, state_set_at}
use Rattle.meaning.specs.Layout.{read_file}
use Rattle.meaning.specs.Sets.{rounds, settled, in_set}
use Rattle.meaning.specs.declared.Answer.{Answer}
use Rattle.meaning.specs.declared.Answer.TheVariants.{In, Out, Refused}

-- kinds 0 to 5 have depth 1, others one more than their deepest state set
unfoldable pub depth_node : (ℕ → ℕ) → StateSet → ℕ
depth_node depth (basic b) = 1
depth_node depth (complement a) = suc (depth a)
depth_node depth (intersection a b) = suc (max (depth a) (depth b))
depth_node depth (union a b) = suc (max (depth a) (depth b))
depth_node depth (progression a e) = suc (depth a)
depth_node depth (regression a e) = suc (depth a)

unfoldable pub depth : File → ℕ → ℕ
depth f e = settled (λ depth e. depth_node depth (state_set_at f e)) 0 e

-- a progression at or beneath the entry
unfoldable pub progression_node : (ℕ → Bool) → StateSet → Bool
progression_node beneath (basic b) = false
progression_node beneath (complement a) = beneath a
progression_node beneath (intersection a b) = beneath a || beneath b
progression_node beneath (union a b) = beneath a || beneath b
progression_node beneath (progression a e) = true
progression_node beneath (regression a e) = beneath a

unfoldable pub has_progression : File → ℕ → Bool
has_progression f e = settled (λ beneath e. progression_node beneath (state_set_at f e)) false e

-- the entry is known, the state has no fact of n or above, there is no progression, and the depth is at most 4
unfoldable pub askable : File → ℕ → ℕ → Bool
askable f e s =
    ltb e (length f.state_sets) && ltb s (2 ^ f.task.facts) && not (has_progression f e) && leb (depth f e) 4

-- the same by one walk downwards: at most d levels deep, and no progression on the way
unfoldable pub shallow_node : (ℕ → Bool) → StateSet → Bool
shallow_node less (basic b) = true
shallow_node less (complement a) = less a
shallow_node less (intersection a b) = less a && less b
shallow_node less (union a b) = less a && less b
shallow_node less (progression a e) = false
shallow_node less (regression a e) = less a

unfoldable pub shallow : File → ℕ → ℕ → Bool
shallow f e d = rounds (λ less e. shallow_node less (state_set_at f e)) false d e

-- the answer's cases, with document 01's number and place
unfoldable pub answer_to : Result Bool → Answer
answer_to (refuse r p) = Refused r p
answer_to (found true) = In
answer_to (found false) = Out

unfoldable pub answer_of : List ℕ → ℕ → ℕ → Answer
answer_of bytes e s = answer_to (do
  f ← read_file bytes
  _ ← need (askable f e s) 13 0
  found (in_set f e s))

-- A statement whose leaves are gathered: what the two searches may count on, and what makes it untrue.
-- Only the code's inner promises speak of this.
-- Assumes nothing.
use Rattle.std.specs.Prelude.{◌≡◌, ℕ, ◌≤◌, ◌<◌, Bool, true, false, List, [], ◌∷◌, length, get_or}
use Rattle.task.specs.declared.Action.{Action}
use Rattle.task.specs.declared.Ends.{Ends}
use Rattle.task.specs.Inner.{no_action}
use Rattle.certificate.specs.Known.{decoded}
use Rattle.counterexample.specs.Counter.{ActionsOf}
use Rattle.leaves.specs.declared.Leaf.{Leaf}
use Rattle.leaves.specs.Leaves.{no_leaf, leaf_in, leaves_in}
use Rattle.leaves.specs.Holds.{Orderly}
use Rattle.leaves.specs.Lists.{Each, Countered}
use Rattle.propagation.specs.Clauses.{Clausal, Unlisted}
use Rattle.listed.specs.Listed.{Anchored}
use Rattle.kinds.specs.declared.Gathered.{Gathered}

-- rules 2 and 3 have a bracket
unfoldable pub has_bracket : ℕ → Bool
has_bracket rule = get_or (false ∷ false ∷ true ∷ true ∷ []) rule false

-- the leaves are in order; they have an anchor where one is of listed states, and are of clauses of one sort where none is
pub record Searchable (bytes index : List ℕ) (ends : Ends) (left right : List Leaf) (g : Gathered) : Type 0 where
  pub facts : ends.facts ≤ 64
  pub room_left : g.left_count ≤ length left
  pub room_right : g.right_count ≤ length right
  pub pair : 2 ≤ length right
  pub orderly_left : Each (λ x. Orderly bytes index x.set) (leaves_in left g.left_count)
  pub orderly_right : Each (λ x. Orderly bytes index x.set) (leaves_in right g.right_count)
  pub anchored : g.listed ≡ true → (g.anchor < g.left_count) × Anchored bytes ends (leaf_in left g.anchor)
  pub clausal_left : g.listed ≡ false → Each (Clausal bytes g.two) (leaves_in left g.left_count)
  pub clausal_right : g.listed ≡ false → Each Unlisted (leaves_in right g.right_count)
  pub few_right : g.listed ≡ false → g.right_count ≤ 2
  pub no_more : (j : ℕ) → g.right_count ≤ j → leaf_in right j ≡ no_leaf

module _ (bytes : List ℕ) (ends : Ends) (left right : List Leaf) (g : Gathered) where
  -- an action makes the statement untrue; some action of its set does; the one that does nothing, or one of its set, as the rule says
  abbrev pub CounteredBy : Action → Type 0
  CounteredBy a = Countered bytes ends a (leaves_in left g.left_count) (leaves_in right g.right_count)

  abbrev pub SomeCountered : Type 0
  SomeCountered = (a : Action) × ActionsOf (decoded bytes) g.actions a × CounteredBy a

  abbrev pub WithBracket : Bool → Type 0
  WithBracket true = SomeCountered
  WithBracket false = CounteredBy no_action

  abbrev pub ByRule : ℕ → Type 0
  ByRule rule = WithBracket (has_bracket rule)

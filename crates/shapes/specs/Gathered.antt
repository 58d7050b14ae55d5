-- What the code gathers of a basic statement on state sets, rules 1 to 4, before it decides its truth.
-- Only the code's inner promises speak of this.
-- Assumes nothing.
use Rattle.std.specs.Prelude.{◌≡◌, ℕ, zero, suc, ◌≤◌, ◌<◌, Bool, true, false, ◌||◌, List, [], ◌∷◌, map, length, T, eqb}
use Rattle.task.specs.Reach.{member}
use Rattle.meaning.specs.File.{File}
use Rattle.meaning.specs.Shapes.{kind_at, is_basic, lists_init}
use Rattle.task.specs.declared.Action.{Action}
use Rattle.task.specs.Inner.{no_action}
use Rattle.counterexample.specs.Counter.{Asked, ActionsOf, left_leaves, right_leaves}
use Rattle.leaves.specs.declared.Leaf.{Leaf}
use Rattle.leaves.specs.Leaves.{no_leaf, leaf_in, leaves_in, set_of}
use Rattle.kinds.specs.declared.Gathered.{Gathered}
use Rattle.kinds.specs.Summary.{may_anchor}
use Rattle.parts.specs.Written.{sides_of, actions_of_rule}

-- the leaf that the code is given of an entry that is asked
unfoldable pub leaf_of : List ℕ → File → Asked → Leaf
leaf_of index f x = record { set = set_of index f x.entry; after = x.after }

-- every entry of the list is of kinds 0 to 5
abbrev pub AllBasic : File → List Asked → Type 0
AllBasic f [] = Unit {0}
AllBasic f (x ∷ xs) = T (is_basic f x.entry) × AllBasic f xs

-- the entries that are not of kind 0
unfoldable pub not_empty : File → List Asked → List Asked
not_empty f [] = []
not_empty f (x ∷ xs) = elim (eqb (kind_at f x.entry) 0) [ true ↦ not_empty f xs | false ↦ x ∷ not_empty f xs ]

module _ (f : File) where
  -- whether outer and right leaves are asked about the state after the action
  unfoldable pub after_of : ℕ → Bool
  after_of rule = eqb rule 2

  unfoldable pub left_of : ℕ → ℕ → ℕ → List Asked
  left_of rule a b = left_leaves f (after_of rule) (sides_of f rule a b)

  -- without those of kind 0, which hold nothing
  unfoldable pub right_of : ℕ → ℕ → ℕ → List Asked
  right_of rule a b = not_empty f (right_leaves f (after_of rule) (sides_of f rule a b))

  unfoldable pub kinds_of : List Asked → List ℕ
  kinds_of xs = map (λ x. kind_at f x.entry) xs

-- the actions that a rule's statement is about: none, or those of its action set
abbrev pub Acts : File → ℕ → ℕ → Action → Type 0
Acts f (suc (suc zero)) a = ActionsOf f (actions_of_rule f 2 a)
Acts f (suc (suc (suc zero))) a = ActionsOf f (actions_of_rule f 3 a)
Acts f zero a = λ c. c ≡ no_action
Acts f (suc zero) a = λ c. c ≡ no_action
Acts f (suc (suc (suc (suc k)))) a = λ c. c ≡ no_action

-- of a permitted statement: its left and right leaves
pub record Gathers (f : File) (index : List ℕ) (rule a b : ℕ) (left right : List Leaf) (r : Gathered) : Type 0 where
  pub left_count_is : r.left_count ≡ length (left_of f rule a b)
  pub left_leaves_are : leaves_in left r.left_count ≡ map (leaf_of index f) (left_of f rule a b)
  pub few_left : r.left_count ≤ 24
  pub right_count_is : r.right_count ≡ length (right_of f rule a b)
  pub right_leaves_are : leaves_in right r.right_count ≡ map (leaf_of index f) (right_of f rule a b)
  pub few_right : r.right_count ≤ 16
  -- after the right leaves stand leaves of the empty set
  pub no_more : (j : ℕ) → r.right_count ≤ j → leaf_in right j ≡ no_leaf
  -- some leaf is explicit
  pub listed : r.listed ≡ member 3 (kinds_of f (left_of f rule a b)) || member 3 (kinds_of f (right_of f rule a b))
  -- a left leaf is two-literal
  pub two : r.two ≡ member 5 (kinds_of f (left_of f rule a b))
  -- the action set of rules 2 and 3
  pub action_set : (2 ≤ rule) → (rule ≤ 3) → r.actions ≡ actions_of_rule f rule a
  -- where no leaf is explicit: at most two right leaves, and the left ones are not Horn and two-literal at once
  pub clauses : r.listed ≡ false → (r.right_count ≤ 2)
      × (T (member 4 (kinds_of f (left_of f rule a b))) → T (member 5 (kinds_of f (left_of f rule a b))) → ⊥)
  -- where one is: a left leaf whose states are listed and that is asked about the state before the action
  pub anchored : r.listed ≡ true → (r.anchor < r.left_count)
      × T (may_anchor (lists_init f) (leaf_in left r.anchor).set) × ((leaf_in left r.anchor).after ≡ false)
  pub basic_left : AllBasic f (left_of f rule a b)
  pub basic_right : AllBasic f (right_of f rule a b)

-- What the kinds of a statement's leaves say, as they stand in two lists: whether they are permitted, and which leaf is the anchor.
-- Only the code's inner promises speak of this.
-- Assumes nothing.
use Rattle.std.specs.Prelude.{◌≡◌, ℕ, ◌≤◌, ◌<◌, Bool, true, false, not, ◌&&◌, ◌||◌, List, length, T, eqb, leb}
use Rattle.std.specs.Prelude.{Option, Some, None, MatchOption, is_some, Result, Ok, Err, is_ok}
use Rattle.std.specs.List.{list_any}
use Rattle.leaves.specs.declared.Leaf.{Leaf}
use Rattle.certificate.specs.declared.BasicEntry.{BasicEntry}
use Rattle.certificate.specs.declared.BasicEntry.TheVariants.{Empty, Init, Goal, Explicit, Horn, TwoCnf}
use Rattle.leaves.specs.Leaves.{kind_of, leaf_in}
use Rattle.kinds.specs.declared.Gathered.{Gathered}
use Rattle.kinds.specs.declared.Flags.{Flags}

-- sets whose states are listed: none, the initial states where they are few, an explicit list
abbrev pub may_anchor : Bool → BasicEntry → Bool
may_anchor few Empty = true
may_anchor few Init = few
may_anchor few Goal = false
may_anchor few (Explicit s) = true
may_anchor few (Horn s) = false
may_anchor few (TwoCnf s) = false

-- ---- the kinds that stand in the arrays

-- some of the leaves is of kind k
unfoldable pub kind_in : List Leaf → ℕ → Bool
kind_in xs k = list_any (λ x. eqb (kind_of x.set) k) xs

unfoldable pub flags_in : List Leaf → List Leaf → Flags
flags_in left right = record {
  l3 = kind_in left 3;
  l4 = kind_in left 4;
  l5 = kind_in left 5;
  r3 = kind_in right 3;
  r4 = kind_in right 4;
  r5 = kind_in right 5;
}

-- no states are listed of the leaves from a number up to another
abbrev pub NoAnchor : Bool → List Leaf → ℕ → ℕ → Type 0
NoAnchor few left from to = (j : ℕ) → from ≤ j → j < to → T (may_anchor few (leaf_in left j).set) → ⊥

-- the first of them whose states are
pub record Anchor (few : Bool) (left : List Leaf) (from to r : ℕ) : Type 0 where
  pub after : from ≤ r
  pub within : r < to
  pub here : T (may_anchor few (leaf_in left r).set)
  pub first : NoAnchor few left from r

abbrev pub Sought : Bool → List Leaf → ℕ → ℕ → Option ℕ → Type 0
Sought few left from to r = MatchOption r (NoAnchor few left from to) (λ j. Anchor few left from to j)

-- rule 2 has its anchor inside the bracket, the others outside
unfoldable pub from_of : ℕ → ℕ → ℕ
from_of rule outside = elim (eqb rule 2) [ true ↦ outside | false ↦ 0 ]

unfoldable pub to_of : ℕ → ℕ → ℕ → ℕ
to_of rule outside all = elim (eqb rule 2) [ true ↦ all | false ↦ outside ]

module _ (x : Flags) where
  unfoldable pub clauses_by : ℕ → Bool
  clauses_by n = not (x.l3 || x.r3) && not ((x.l4 || x.r4) && (x.l5 || x.r5)) && leb n 2

  unfoldable pub states_by : Bool → Bool
  states_by anchored = (x.l3 || x.r3) && not (x.l4 || x.r4) && not (x.l5 || x.r5) && anchored

  unfoldable pub pair_by : Bool
  pair_by =
      (((x.l3 || x.r3) && (x.l4 || x.r4)) || ((x.l3 || x.r3) && (x.l5 || x.r5)) || ((x.l4 || x.r4) && (x.l5 || x.r5)))
      && not x.r3 && not (x.l4 && x.l5)

unfoldable pub permits_by : ℕ → Flags → ℕ → Bool → Bool
permits_by rule x n anchored = elim (eqb rule 4) [ true ↦ pair_by x | false ↦ clauses_by x n || states_by x anchored ]

-- what is told of a statement, permitted or not
pub record Told (left right : List Leaf) (anchor : Option ℕ) (to actions : ℕ) (r : Gathered) : Type 0 where
  pub left_count_is : r.left_count ≡ length left
  pub right_count_is : r.right_count ≡ length right
  pub action_set : r.actions ≡ actions
  pub listed : r.listed ≡ kind_in left 3 || kind_in right 3
  pub two : r.two ≡ kind_in left 5
  pub anchor_is : (j : ℕ) → anchor ≡ Some j → r.anchor ≡ j
  pub no_anchor : anchor ≡ None → r.anchor ≡ to

-- what is told, whether the statement is permitted (Ok) or not (Err)
unfoldable pub either : Result Gathered Gathered → Gathered
either (Ok g) = g
either (Err g) = g

pub record Summary (few : Bool) (rule : ℕ) (left : List Leaf) (outside : ℕ) (right : List Leaf) (actions : ℕ) (r : Result Gathered Gathered) : Type 0 where
  pub anchor : Option ℕ
  pub sought : Sought few left (from_of rule outside) (to_of rule outside (length left)) anchor
  pub permits : is_ok r ≡ permits_by rule (flags_in left right) (length right) (is_some anchor)
  pub told : Told left right anchor (to_of rule outside (length left)) actions (either r)

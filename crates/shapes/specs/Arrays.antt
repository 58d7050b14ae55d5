-- Leaves written into an array after those that are there. Only the code's inner promises speak of this.
-- Assumes nothing.
use Rattle.std.specs.Prelude.{◌≡◌, ℕ, ◌+◌, ◌≤◌, Bool, true, false, not, ◌&&◌, ◌||◌, List, ◌++◌, map, length, eqb, Option, Some, None}
use Rattle.meaning.specs.File.{File}
use Rattle.meaning.specs.Shapes.{keep, Sides, kind_at, child, is_complement}
use Rattle.counterexample.specs.Counter.{Asked}
use Rattle.leaves.specs.declared.Leaf.{Leaf}
use Rattle.leaves.specs.Leaves.{no_leaf, leaf_in, leaves_in}
use Rattle.shapes.specs.declared.shape.Counts.{Counts}
use Rattle.shapes.specs.Gathered.{leaf_of}

module _ (f : File) (turned : Bool) where
  -- the entry itself, or the one that it names
  unfoldable pub entry_of : ℕ → ℕ
  entry_of e = elim turned [ true ↦ child f e | false ↦ e ]

  -- a complement or not, as asked
  unfoldable pub on_side : ℕ → Bool
  on_side e = elim turned [ true ↦ is_complement f e | false ↦ not (is_complement f e) ]

  -- and of another kind than 0, or of any
  unfoldable pub wants : Bool → ℕ → Bool
  wants all e = on_side e && (all || not (eqb (kind_at f (entry_of e)) 0))

  -- what is taken of an entry: where it is wanted, itself or the one that it names
  unfoldable pub taken : Bool → ℕ → Option ℕ
  taken all e = elim (wants all e) [ true ↦ Some (entry_of e) | false ↦ None ]

  -- the leaves of the entries that are wanted
  unfoldable pub picked : Bool → Bool → List ℕ → List Asked
  picked all after es = map (λ e. record { entry = entry_of e; after = after }) (keep (wants all) es)

-- an entry of another kind than 0
unfoldable pub filled : File → Option ℕ → Option ℕ
filled f None = None
filled f (Some d) = elim (not (eqb (kind_at f d) 0)) [ true ↦ Some d | false ↦ None ]

-- the leaves stand in the array after the first `from`, and r are there then; what follows is as it was
pub record Put (index : List ℕ) (f : File) (xs : List Asked) (from : ℕ) (was is : List Leaf) (r : ℕ) : Type 0 where
  pub count : r ≡ from + length xs
  pub written : leaves_in is r ≡ leaves_in was from ++ map (leaf_of index f) xs
  pub rest : (j : ℕ) → r ≤ j → leaf_in is j ≡ leaf_in was j
  pub kept : length is ≡ length was

module _ (f : File) where
  -- left ones outside the bracket; all left ones; right ones
  unfoldable pub picked_outside : Bool → Sides → List Asked
  picked_outside h x = picked f false true h x.outer ++ picked f true true h x.right

  unfoldable pub picked_left : Bool → Sides → List Asked
  picked_left h x = picked_outside h x ++ picked f false true (not h) x.inner

  unfoldable pub picked_right : Bool → Sides → List Asked
  picked_right h x = picked f false false h x.right ++ picked f true false h x.outer

  pub record Filled (index : List ℕ) (h : Bool) (x : Sides) (left₀ left right₀ right : List Leaf) (n : Counts) : Type 0 where
    pub outside : n.outside ≡ length (picked_outside h x)
    pub on_left : Put index f (picked_left h x) 0 left₀ left n.left
    pub on_right : Put index f (picked_right h x) 0 right₀ right n.right
    pub few : (n.outside ≤ n.left) × (n.left ≤ 24) × (n.right ≤ 16)

-- nothing stands in an array yet
abbrev pub Zeros : List Leaf → Type 0
Zeros xs = (i : ℕ) → leaf_in xs i ≡ no_leaf

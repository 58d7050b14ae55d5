-- A leaf of a statement as one value, and leaves in an array. Only the code's inner promises speak of this.
-- Assumes nothing.
use Rattle.std.specs.Prelude.{ℕ, false, List, get_or, take}
use Rattle.certificate.specs.declared.BasicEntry.{BasicEntry}
use Rattle.certificate.specs.declared.BasicEntry.TheVariants.{Empty, Init, Goal, Explicit, Horn, TwoCnf}
use Rattle.certificate.specs.declared.StateEntry.{StateEntry}
use Rattle.certificate.specs.declared.StateEntry.TheVariants.{Basic, Complement, Intersection, Union, Progression, Regression}
use Rattle.meaning.specs.File.{File, state_set_at}
use Rattle.certificate.specs.Views.{view_of}
use Rattle.certificate.specs.Index.{state_place}
use Rattle.leaves.specs.declared.Leaf.{Leaf}

-- ---- a basic entry by its numbers

unfoldable pub kind_of : BasicEntry → ℕ
kind_of Empty = 0
kind_of Init = 1
kind_of Goal = 2
kind_of (Explicit s) = 3
kind_of (Horn s) = 4
kind_of (TwoCnf s) = 5

-- the empty set, asked about the state before the action: what an array holds before leaves are put there
abbrev pub no_leaf : Leaf
no_leaf = record { set = Empty; after = false }

-- leaf j of an array; past the array the empty set. And its first m leaves
unfoldable pub leaf_in : List Leaf → ℕ → Leaf
leaf_in leaves j = get_or leaves j no_leaf

unfoldable pub leaves_in : List Leaf → ℕ → List Leaf
leaves_in leaves m = take m leaves

-- ---- an entry of a file as a leaf's set: itself where it is basic, else the empty set

unfoldable pub basic_in : StateEntry → BasicEntry
basic_in (Basic b) = b
basic_in (Complement a) = Empty
basic_in (Intersection a b) = Empty
basic_in (Union a b) = Empty
basic_in (Progression a b) = Empty
basic_in (Regression a b) = Empty

unfoldable pub set_of : List ℕ → File → ℕ → BasicEntry
set_of index f e = basic_in (view_of (state_place index e) (state_set_at f e))

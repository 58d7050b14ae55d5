-- Entries as numbers. Only the code's inner promises speak of this.
-- Assumes nothing.
use Rattle.std.specs.Prelude.{ℕ, Bool, true, false, List}
use Rattle.meaning.specs.File.{File, state_set_at}
use Rattle.certificate.specs.declared.StateEntry.{StateEntry}
use Rattle.certificate.specs.declared.StateEntry.TheVariants.{Basic, Complement, Intersection, Union, Progression, Regression}
use Rattle.certificate.specs.Views.{view_of}
use Rattle.certificate.specs.Index.{state_place}
use Rattle.leaves.specs.Leaves.{kind_of}
use Rattle.nodes.specs.declared.Node.{Node}

-- an entry's kind and the two entries that it names; 0 where it names none
abbrev pub numbers : ℕ → ℕ → ℕ → Node
numbers k a b = record { kind = k; first = a; second = b }

unfoldable pub node_of : StateEntry → Node
node_of (Basic b) = numbers (kind_of b) 0 0
node_of (Complement a) = numbers 6 a 0
node_of (Intersection a b) = numbers 7 a b
node_of (Union a b) = numbers 8 a b
node_of (Progression a b) = numbers 9 a b
node_of (Regression a b) = numbers 10 a b

-- the entry is of kinds 0 to 5
unfoldable pub is_basic_entry : StateEntry → Bool
is_basic_entry (Basic b) = true
is_basic_entry (Complement a) = false
is_basic_entry (Intersection a b) = false
is_basic_entry (Union a b) = false
is_basic_entry (Progression a b) = false
is_basic_entry (Regression a b) = false

unfoldable pub node_at : List ℕ → File → ℕ → Node
node_at index f e = node_of (view_of (state_place index e) (state_set_at f e))

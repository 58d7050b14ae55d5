-- The numbers of an entry say its kind and the entries that it names; its constructor says whether it is of kinds 0 to 5.
-- Assumes nothing.
use mathlib.Core.Path.{◌≡◌, refl, sym, ap, ◌∙◌}
use Prim.Native.Nat.{ℕ}
use mathlib.Core.Bool.{true, not}
use mathlib.Core.List.{List}
use lib.Dec.{T, eqb, eqb→eq, leb}
use Rattle.task.proofs.Tests.{same, not_of}
use Rattle.meaning.specs.File as file
use Rattle.meaning.specs.File.{empty, init, goal, explicit, horn, two_cnf}
use Rattle.meaning.specs.File.{StateSet, basic, complement, intersection, union, progression, regression}
use Rattle.meaning.specs.File.{File, state_set_at, state_kind, basic_kind, first, second}
use Rattle.certificate.specs.declared.StateEntry.{StateEntry}
use Rattle.certificate.specs.Views.{view_of, view_of_basic}
use Rattle.certificate.specs.Index.{state_place}
use Rattle.leaves.specs.Leaves.{kind_of}
use Rattle.meaning.specs.Shapes.{kind_at, child, is_basic}
use Rattle.nodes.specs.declared.Node.{Node}
use Rattle.nodes.specs.Nodes.{node_of, node_at, is_basic_entry}

-- ---- kinds 0 to 5

pub basic_kind_lem : (p : ℕ) (b : file.Basic) → kind_of (view_of_basic p b) ≡ basic_kind b
unfolding kind_of view_of_basic basic_kind
basic_kind_lem p empty = refl
basic_kind_lem p init = refl
basic_kind_lem p goal = refl
basic_kind_lem p (explicit ss) = refl
basic_kind_lem p (horn cs) = refl
basic_kind_lem p (two_cnf cs) = refl

low : (b : file.Basic) → true ≡ leb (basic_kind b) 5
unfolding basic_kind
low empty = refl
low init = refl
low goal = refl
low (explicit ss) = refl
low (horn cs) = refl
low (two_cnf cs) = refl

basic_view : (p : ℕ) (x : StateSet) → is_basic_entry (view_of p x) ≡ leb (state_kind x) 5
unfolding is_basic_entry view_of state_kind
basic_view p (basic b) = low b
basic_view p (complement a) = refl
basic_view p (intersection a b) = refl
basic_view p (union a b) = refl
basic_view p (progression a e) = refl
basic_view p (regression a e) = refl

-- ---- all kinds

-- a node that says these of an entry
record Tells (x : StateSet) (n : Node) : Type 0 where
  kind : n.kind ≡ state_kind x
  named : (n.first ≡ first x) × (n.second ≡ second x)

tells : (p : ℕ) (x : StateSet) → Tells x (node_of (view_of p x))
unfolding node_of view_of state_kind first second
tells p (basic b) = record { kind = basic_kind_lem p b; named = (refl, refl) }
tells p (complement a) = record { kind = refl; named = (refl, refl) }
tells p (intersection a b) = record { kind = refl; named = (refl, refl) }
tells p (union a b) = record { kind = refl; named = (refl, refl) }
tells p (progression a e) = record { kind = refl; named = (refl, refl) }
tells p (regression a e) = record { kind = refl; named = (refl, refl) }

module _ (index : List ℕ) (f : File) (e : ℕ) where
  tells_at : Tells (state_set_at f e) (node_at index f e)
  unfolding node_at
  tells_at = tells (state_place index e) (state_set_at f e)

  pub entry_basic : (x : StateEntry) → x ≡ view_of (state_place index e) (state_set_at f e) → is_basic_entry x ≡ is_basic f e
  unfolding is_basic kind_at
  entry_basic x q = ap is_basic_entry q ∙ basic_view (state_place index e) (state_set_at f e)

  -- of what was read as the entry's numbers
  module _ (n : Node) (r : n ≡ node_at index f e) where
    pub node_kind : n.kind ≡ kind_at f e
    unfolding kind_at
    node_kind = ap (λ (m : Node). m.kind) r ∙ tells_at.kind

    pub node_first : n.first ≡ child f e
    unfolding child
    node_first = ap (λ (m : Node). m.first) r ∙ tells_at.named.0

    pub node_second : n.second ≡ second (state_set_at f e)
    node_second = ap (λ (m : Node). m.second) r ∙ tells_at.named.1

    pub node_is : (k : ℕ) → n.kind ≡ k → T (eqb (kind_at f e) k)
    node_is k h = same (sym node_kind ∙ h)

    pub node_other : (k : ℕ) → (n.kind ≡ k → ⊥) → T (not (eqb (kind_at f e) k))
    node_other k h = not_of (eqb (kind_at f e) k) (λ t. h (node_kind ∙ eqb→eq (kind_at f e) k t))

-- What the view of an entry tells of its depth, of progressions beneath it and of the states that it holds.
-- Assumes nothing.
use mathlib.Core.Path.{◌≡◌, refl, sym, ap, subst, ◌∙◌}
use Prim.Native.Nat.{ℕ, zero, suc, ◌-◌}
use native.Mathlib.Omega.{arith}
use mathlib.Core.Bool.{Bool, true, false, ◌||◌}
use mathlib.Core.List.{List}
use lib.ListN.{length}
use lib.Dec.{T}
use Rattle.task.specs.declared.Ends.{Ends}
use Rattle.task.specs.Inner.{ends_of}
use Rattle.certificate.specs.declared.BasicEntry.{BasicEntry}
use Rattle.certificate.specs.declared.StateEntry.{StateEntry}
use Rattle.certificate.specs.declared.StateEntry.TheVariants.{Basic}
use Rattle.meaning.specs.File.{StateSet, basic, complement, intersection, union, progression, regression, File, state_set_at}
use Rattle.certificate.specs.Views.{view_of}
use Rattle.certificate.specs.Index.{state_place}
use Rattle.certificate.specs.Known.{Known, decoded}
use Rattle.meaning.specs.Writing.{FitsStateSet}
use Rattle.meaning.proofs.Order.{state_set_fits}
use Rattle.certificate.proofs.SeenLaws.{StateSeen, view_seen}
use Rattle.certificate.proofs.KnownLaws.{read_ordered, read_file_lem}
use Rattle.meaning.specs.Sets.{rounds, state_node, in_set}
use Rattle.meaning.proofs.Nodes.{in_node}
use Rattle.leaves.specs.Leaves.{basic_in, set_of}
use Rattle.leaves.specs.Holds.{set_holds, Orderly}
use Rattle.leaves.proofs.KnownLeaves.{limits_orderly, known_items, known_holds, known_limits}
use Rattle.meaning.specs.Question.{progression_node, has_progression, shallow_node, shallow}
use Rattle.meaning.proofs.Shallow.{progression_node_lem}

neither : (a b : Bool) → (a || b) ≡ false → (a ≡ false) × (b ≡ false)
neither false b h = (refl, h)
neither true b h = absurd (subst T h tt)

-- no progression is at an entry or beneath it: what this says of what it names
abbrev pub Clear : File → StateSet → Type 0
Clear f (basic b) = Unit {0}
Clear f (complement a) = has_progression f a ≡ false
Clear f (intersection a b) = (has_progression f a ≡ false) × (has_progression f b ≡ false)
Clear f (union a b) = (has_progression f a ≡ false) × (has_progression f b ≡ false)
Clear f (progression a b) = ⊥
Clear f (regression a b) = has_progression f a ≡ false

clear : (f : File) (x : StateSet) → progression_node (has_progression f) x ≡ false → Clear f x
unfolding progression_node
clear f (basic b) h = tt
clear f (complement a) h = h
clear f (intersection a b) h = neither (has_progression f a) (has_progression f b) h
clear f (union a b) h = neither (has_progression f a) (has_progression f b) h
clear f (progression a b) h = subst T h tt
clear f (regression a b) h = h

module _ (bytes : List ℕ) (index : List ℕ) (k : Known bytes index) (e : ℕ) where
  abbrev f : File
  f = decoded bytes

  -- ---- the entry, by its view

  module _ (v : StateEntry) (q : v ≡ view_of (state_place index e) (state_set_at f e)) where
    -- the case that was taken
    pub seen : (w : StateEntry) → v ≡ w → StateSeen bytes w (state_set_at f e)
    seen w z =
        subst (λ (y : StateEntry). StateSeen bytes y (state_set_at f e)) (sym q ∙ z)
        (view_seen bytes (state_place index e) (state_set_at f e) (known_items bytes index k e))

    -- a basic set may be asked, and holds what the entry does
    module _ (b : BasicEntry) (z : v ≡ Basic b) where
      as_set : set_of index f e ≡ b
      unfolding set_of basic_in
      as_set = ap basic_in (sym q ∙ z)

      pub set_orderly : Orderly bytes index b
      set_orderly =
          let w = seen (Basic b) z in
          subst (Orderly bytes index) as_set
          (limits_orderly bytes index f.task.facts (set_of index f e) (known_limits bytes index k e w.0 w.1))

      pub set_in : (ends : Ends) → ends ≡ ends_of f.task → (s : ℕ) → set_holds bytes ends b s ≡ in_set f e s
      set_in ends t s =
          let w = seen (Basic b) z in
          rw (t, ← as_set) (known_holds bytes index k e w.0 w.1 s)

  -- ---- by the entry: its depth, what is clear beneath it, and what it holds

  module _ (x : StateSet) (z : state_set_at f e ≡ x) where
    pub shallow_at : (d : ℕ) → (d ≡ 0 → ⊥) → shallow f e d ≡ shallow_node (λ a. shallow f a (d - 1)) x
    unfolding shallow rounds
    shallow_at zero n = absurd (n refl)
    shallow_at (suc d) n = let p : suc d - 1 ≡ d = omega arith in rw (z, p) refl

    pub clear_at : has_progression f e ≡ false → Clear f x
    clear_at h = clear f x (sym (progression_node_lem f (read_ordered bytes k.read) e ∙ ap (progression_node (has_progression f)) z) ∙ h)

    pub in_at : (s : ℕ) → in_set f e s ≡ state_node f (in_set f) x s
    in_at s = ap (λ (X : ℕ → Bool). X s) (in_node f (read_ordered bytes k.read) e) ∙ ap (λ (y : StateSet). state_node f (in_set f) y s) z

    -- what it names comes earlier, and is known
    pub fits_at : FitsStateSet f.task.facts (length f.action_sets) e x
    fits_at = subst (FitsStateSet f.task.facts (length f.action_sets) e) z (state_set_fits bytes f (read_file_lem bytes k.read) e)

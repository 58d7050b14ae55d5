-- The search over the anchor's states, with the state after the action worked out. Only the code's inner promises speak of this.
-- Assumes nothing.
use Rattle.std.specs.Prelude.{◌≡◌, ◌⊎◌, ℕ, ◌-◌, ◌≤◌, ◌<◌, Bool, true, false, not, ◌&&◌, ◌||◌, List, [], ◌∷◌, length, T, eqb}
use Rattle.std.specs.Coded.{×_prop, Unit-prop, le_prop}
use Rattle.std.proofs.Props.{props}
use Rattle.std.specs.Int.Bits.{bit_and, bit_or}
use Rattle.task.specs.declared.Action.{Action}
use Rattle.task.specs.declared.Ends.{Ends}
use Rattle.task.specs.Facts.{all_on, without}
use Rattle.task.specs.Task.{applies, after}
use Rattle.task.specs.Inner.{at_init}
use Rattle.meaning.specs.Sets.{all_below}
use Rattle.certificate.specs.declared.Span.{Span}
use Rattle.certificate.specs.declared.BasicEntry.{BasicEntry}
use Rattle.certificate.specs.declared.BasicEntry.TheVariants.{Empty, Init, Goal, Explicit, Horn, TwoCnf}
use Rattle.certificate.specs.Rows.{row_of}
use Rattle.leaves.specs.declared.Leaf.{Leaf}
use Rattle.leaves.specs.Leaves.{leaf_in}
use Rattle.leaves.specs.Holds.{set_holds, Orderly}
use Rattle.leaves.specs.Lists.{Each}

-- the leaves' sets may be asked, and that has one proof at most
abbrev pub Readable : List ℕ → List ℕ → List Leaf → Type 0
Readable bytes index leaves = Each (λ x. Orderly bytes index x.set) leaves

Orderly-prop : (bytes index : List ℕ) (x : BasicEntry) → IsProp (Orderly bytes index x)
Orderly-prop bytes index Empty = Unit-prop
Orderly-prop bytes index Init = Unit-prop
Orderly-prop bytes index Goal = Unit-prop
Orderly-prop bytes index (Explicit x) = Prim.hlevel props
Orderly-prop bytes index (Horn x) = le_prop
Orderly-prop bytes index (TwoCnf x) = le_prop

pub Readable-prop : (bytes index : List ℕ) (leaves : List Leaf) → IsProp (Readable bytes index leaves)
Readable-prop bytes index [] = Unit-prop
Readable-prop bytes index (x ∷ xs) = ×_prop (Orderly-prop bytes index x.set) (Readable-prop bytes index xs)

-- the states of the first right leaf, which lists them and is asked about the state after the action, or the action changes no fact
abbrev pub StatesAfter : List Leaf → Action → Span → Type 0
StatesAfter right a p =
    (0 < length right) × ((leaf_in right 0).set ≡ Explicit p) × (((leaf_in right 0).after ≡ true) ⊎ (bit_or a.add a.del ≡ 0))

-- of listed states, by size, the m-th is the last: those between are the same state
abbrev pub Different : List ℕ → Span → ℕ → Type 0
Different index x m =
    (m ≤ x.count) × (0 < x.count → (0 < m) × (row_of index x (m - 1) ≡ row_of index x (x.count - 1)))

-- each state s - d, for a mask d within the mask up to `from` and above r, is so
abbrev pub Passed : ℕ → ℕ → (ℕ → Type 0) → ℕ → ℕ → Type 0
Passed s mask Q from r = (d : ℕ) → T (all_on d mask) → r < d → d ≤ from → Q (s - d)

-- a state s - e passes the test, for a mask e within the mask
abbrev pub OneLess : ℕ → ℕ → (ℕ → Bool) → Type 0
OneLess s mask p = (e : ℕ) × T (all_on e mask) × T (p (s - e))

-- the action applies in each state s - e, for a mask e within the mask, and leads from it to t
abbrev pub LeadsTo : Action → ℕ → ℕ → ℕ → Type 0
LeadsTo a s mask t = (e : ℕ) → T (all_on e mask) → (applies a (s - e) ≡ true) × (t ≡ after a (s - e))

-- an initial state passes the test
abbrev pub OneInitial : Ends → (ℕ → Bool) → Type 0
OneInitial ends p = (s : ℕ) × T (at_init ends s) × T (p s)

-- the unknown facts that the action does not need
abbrev pub unneeded : Ends → Action → ℕ
unneeded ends a = without ends.unknown (bit_or a.pre a.off)

-- top is the start with the unknown facts on, but for those that the action needs off; kept are the unknown facts that it neither needs nor
-- changes, and changed those that it adds or deletes and does not need
abbrev pub Split : Ends → Action → ℕ → ℕ → ℕ → Type 0
Split ends a top kept changed =
    (top ≡ without (bit_or ends.init ends.unknown) (bit_and a.off ends.unknown))
    × (kept ≡ without (unneeded ends a) (bit_or a.add a.del))
    × (changed ≡ bit_and (unneeded ends a) (bit_or a.add a.del))

module _ (bytes : List ℕ) (ends : Ends) where
  -- a leaf holds s, or t where it is asked about the state after the action
  unfoldable pub holds_one : ℕ → ℕ → Leaf → Bool
  holds_one s t x = set_holds bytes ends x.set (elim x.after [ true ↦ t | false ↦ s ])

  -- it is as wanted
  unfoldable pub told : Bool → ℕ → ℕ → Leaf → Bool
  told wanted s t x = elim wanted [ true ↦ holds_one s t x | false ↦ not (holds_one s t x) ]

  -- the action applies in s, where each left leaf but the anchor holds and no right leaf does
  unfoldable pub shows_in : Action → List Leaf → List Leaf → ℕ → ℕ → Bool
  shows_in a left right anchor s =
      applies a s && all_below (length left) (λ j. eqb anchor j || holds_one s (after a s) (leaf_in left j))
      && all_below (length right) (λ j. not (holds_one s (after a s) (leaf_in right j)))

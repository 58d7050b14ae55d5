-- The clauses of a leaf: those of its set, read from the file where they stand there, and clauses of the state after an action as
-- clauses of the state before it. Only the code's inner promises speak of this.
-- Assumes nothing.
use Rattle.std.specs.Prelude.{◌≡◌, ℕ, ◌+◌, ◌-◌, ◌*◌, ◌^◌, ◌<◌, ◌≤◌, Bool, true, false, not, ◌||◌, List, length, eqb, Option, Some, None}
use Rattle.std.specs.Int.Bits.{bit_and, bit_or}
use Rattle.task.specs.declared.Action.{Action}
use Rattle.task.specs.declared.Ends.{Ends}
use Rattle.task.specs.Facts.{without}
use Rattle.task.specs.Inner.{no_action}
use Rattle.meaning.specs.declared.Clause.{Clause}
use Rattle.words.specs.Words.{words_at}
use Rattle.certificate.specs.declared.BasicEntry.{BasicEntry}
use Rattle.certificate.specs.declared.BasicEntry.TheVariants.{Empty, Init, Goal, Explicit, Horn, TwoCnf}
use Rattle.leaves.specs.declared.Leaf.{Leaf}
use Rattle.leaves.specs.Leaves.{leaf_in}
use Rattle.certificate.specs.declared.Span.{Span}
use Rattle.leaves.specs.Holds.{Ruled}
use Rattle.leaves.specs.Lists.{Each}
use Rattle.propagation.specs.declared.Effect.{Effect}
use Rattle.propagation.specs.declared.Setting.{Setting}

-- ---- the clauses of a set

-- the clause that says that fact i is on where the mask `on` has it, and off where `off` has it; where neither does every state meets it
unfoldable pub fact_clause : ℕ → ℕ → ℕ → Clause
fact_clause on off i = record { positive = without (2 ^ i) off; negative = without (2 ^ i) on }

-- the empty set has the empty clause, the initial states and the goal one for each of 64 facts; others stand in the file. Listed
-- states are no clauses
unfoldable pub clause_count : BasicEntry → ℕ
clause_count Empty = 1
clause_count Init = 64
clause_count Goal = 64
clause_count (Explicit x) = 0
clause_count (Horn x) = x.count
clause_count (TwoCnf x) = x.count

-- where they stand in the file
unfoldable pub words_of : BasicEntry → Option Span
words_of Empty = None
words_of Init = None
words_of Goal = None
words_of (Explicit x) = None
words_of (Horn x) = Some x
words_of (TwoCnf x) = Some x

-- those that do not: of the initial states what is known is told. Of a set whose clauses do, nothing is said
unfoldable pub own_clause : Ends → BasicEntry → ℕ → Clause
own_clause ends Empty i = record { positive = 0; negative = 0 }
own_clause ends Init i = fact_clause (without ends.init ends.unknown) (2 ^ 64 - 1 - bit_or ends.init ends.unknown) i
own_clause ends Goal i = fact_clause ends.goal ends.off i
own_clause ends (Explicit x) i = record { positive = 0; negative = 0 }
own_clause ends (Horn x) i = record { positive = 0; negative = 0 }
own_clause ends (TwoCnf x) i = record { positive = 0; negative = 0 }

unfoldable pub clause_of : List ℕ → Ends → BasicEntry → ℕ → Clause
clause_of bytes ends x i = elim (words_of x) [ None ↦ own_clause ends x i | Some s ↦ words_at bytes s.at i ]

-- ---- through an action

-- the action that a leaf's clauses are pulled through
unfoldable pub acting : Action → Bool → Action
acting a true = a
acting a false = no_action

-- what an action does to clauses, worked out once
unfoldable pub effect_of : Action → Effect
effect_of a = record { add = a.add; gone = without a.del a.add; changed = bit_or a.add a.del }

-- a clause of the state after the action, as a clause of the state before it: met by what the action adds or deletes,
-- which is said by a clause that is always met; else what the action changes is struck out
unfoldable pub met_by : Effect → Clause → Bool
met_by k c = not (eqb (bit_and c.positive k.add) 0) || not (eqb (bit_and c.negative k.gone) 0)

unfoldable pub pulled_by : Effect → Clause → Clause
pulled_by k c =
    elim (met_by k c) [
      | true ↦ record { positive = 1; negative = 1 }
      | false ↦ record { positive = without c.positive k.changed; negative = without c.negative k.changed }
    ]

-- ---- families of clauses

-- a clause and no other; the clauses of the first k families
abbrev pub Only : Clause → Clause → Type 0
Only c d = d ≡ c

abbrev pub Below : (ℕ → Clause → Type 0) → ℕ → Clause → Type 0
Below P k c = (i : ℕ) × (i < k) × P i c

-- clause i of those in the file from a place, of those of a set that do not stand there, and of a set, each pulled through an action
abbrev pub OfWords : List ℕ → ℕ → Effect → ℕ → Clause → Type 0
OfWords bytes at k i = Only (pulled_by k (words_at bytes at i))

abbrev pub OfOwn : Ends → BasicEntry → Effect → ℕ → Clause → Type 0
OfOwn ends x k i = Only (pulled_by k (own_clause ends x i))

abbrev pub OfSet : List ℕ → Ends → BasicEntry → Effect → ℕ → Clause → Type 0
OfSet bytes ends x k i = Only (pulled_by k (clause_of bytes ends x i))

-- the clauses of a leaf, over the state before the action; of leaf j, and of the left leaves
abbrev pub OfLeaf : List ℕ → Ends → Action → Leaf → Clause → Type 0
OfLeaf bytes ends a x = Below (OfSet bytes ends x.set (effect_of (acting a x.after))) (clause_count x.set)

abbrev pub LeafOf : List ℕ → List Leaf → Setting → ℕ → Clause → Type 0
LeafOf bytes leaves k j = OfLeaf bytes k.ends k.action (leaf_in leaves j)

abbrev pub LeftOf : List ℕ → List Leaf → Setting → Clause → Type 0
LeftOf bytes leaves k = Below (LeafOf bytes leaves k) (length leaves)

-- ---- what callers owe

-- a set's clauses that stand in the file stand within it
abbrev pub Inside : List ℕ → BasicEntry → Type 0
Inside bytes Empty = Unit {0}
Inside bytes Init = Unit {0}
Inside bytes Goal = Unit {0}
Inside bytes (Explicit x) = Unit {0}
Inside bytes (Horn x) = x.at + 16 * x.count ≤ length bytes
Inside bytes (TwoCnf x) = x.at + 16 * x.count ≤ length bytes

-- a leaf that is not of listed states; and one whose clauses in the file are ruled
abbrev pub UnlistedSet : BasicEntry → Type 0
UnlistedSet Empty = Unit {0}
UnlistedSet Init = Unit {0}
UnlistedSet Goal = Unit {0}
UnlistedSet (Explicit x) = ⊥
UnlistedSet (Horn x) = Unit {0}
UnlistedSet (TwoCnf x) = Unit {0}

abbrev pub Unlisted : Leaf → Type 0
Unlisted x = UnlistedSet x.set

abbrev pub ClausalSet : List ℕ → Bool → BasicEntry → Type 0
ClausalSet bytes two Empty = Unit {0}
ClausalSet bytes two Init = Unit {0}
ClausalSet bytes two Goal = Unit {0}
ClausalSet bytes two (Explicit x) = ⊥
ClausalSet bytes two (Horn x) = Ruled bytes two x
ClausalSet bytes two (TwoCnf x) = Ruled bytes two x

abbrev pub Clausal : List ℕ → Bool → Leaf → Type 0
Clausal bytes two x = ClausalSet bytes two x.set

-- each of the left leaves is clausal
abbrev pub Usable : List ℕ → List Leaf → Bool → Type 0
Usable bytes leaves two = Each (Clausal bytes two) leaves

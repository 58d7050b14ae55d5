-- What propagation over clauses promises. Only the code's inner promises speak of this.
-- Assumes nothing.
use Rattle.std.specs.Prelude.{◌≡◌, ℕ, ◌+◌, ◌≤◌, ◌<◌, ◌^◌, Bool, true, false, not, List, length, Option, Some, None, ◌⊎◌, T}
use Rattle.task.specs.declared.Ends.{Ends}
use Rattle.task.specs.Facts.{without}
use Rattle.task.specs.Inner.{bit}
use Rattle.meaning.specs.declared.Clause.{Clause}
use Rattle.meaning.specs.Sets.{meets}
use Rattle.words.specs.declared.Masks.{Masks}
use Rattle.words.specs.Words.{Misses}
use Rattle.certificate.specs.declared.BasicEntry.{BasicEntry}
use Rattle.leaves.specs.declared.Leaf.{Leaf}
use Rattle.leaves.specs.Leaves.{leaf_in}
use Rattle.propagation.specs.declared.Assignment.{Assignment}
use Rattle.propagation.specs.Clauses.{clause_count, clause_of}

-- ---- literals: a side, true for the positive one, and a fact

-- the facts of a side; those whose literal is known to hold, and known to fail; and the value with which a literal holds
abbrev pub mask : Bool → Clause → ℕ
mask true c = c.positive
mask false c = c.negative

abbrev pub holding : Bool → Assignment → ℕ
holding true x = x.on
holding false x = x.off

abbrev pub failing : Bool → Assignment → ℕ
failing b x = holding (not b) x

abbrev pub value : Bool → ℕ
value true = 1
value false = 0

-- a test tells whether there is an X
pub record Tells (r : Bool) (X : Type 0) : Type 0 where
  pub finds : T r → X
  pub sees : X → T r

-- ---- states and assignments

-- a state that an assignment leaves open
pub record Agrees (s : ℕ) (x : Assignment) : Type 0 where
  pub fits : s < 2 ^ 64
  pub says : (b : Bool) (f : ℕ) → bit f (holding b x) ≡ 1 → bit f s ≡ value b

-- no fact is both on and off
abbrev pub Apart : Assignment → Type 0
Apart x = (f : ℕ) → bit f x.on + bit f x.off ≤ 1

-- a state meets every clause of P; a state fails some clause of P
abbrev pub Meets : (Clause → Type 0) → ℕ → Type 0
Meets P s = (c : Clause) → P c → T (meets s c)

abbrev pub Fails : (Clause → Type 0) → ℕ → Type 0
Fails P s = (c : Clause) × P c × T (not (meets s c))

-- ---- settled clauses

-- a literal of the clause is known to hold
pub record Held (x : Assignment) (c : Clause) : Type 0 where
  pub side : Bool
  pub fact : ℕ
  pub has : bit fact (mask side c) ≡ 1
  pub holds : bit fact (holding side x) ≡ 1

-- two literals of the clause are not known to fail
pub record Wide (x : Assignment) (c : Clause) : Type 0 where
  pub fits : (b : Bool) → mask b c < 2 ^ 64
  pub side₁ : Bool
  pub fact₁ : ℕ
  pub side₂ : Bool
  pub fact₂ : ℕ
  pub differ : side₁ ≡ side₂ → fact₁ ≡ fact₂ → ⊥
  pub has₁ : bit fact₁ (mask side₁ c) ≡ 1
  pub has₂ : bit fact₂ (mask side₂ c) ≡ 1
  pub open₁ : bit fact₁ (failing side₁ x) ≡ 0
  pub open₂ : bit fact₂ (failing side₂ x) ≡ 0

-- a negative literal of the clause is not known to fail: its body is not all on
pub record Waiting (x : Assignment) (c : Clause) : Type 0 where
  pub fact : ℕ
  pub has : bit fact c.negative ≡ 1
  pub not_on : bit fact x.on ≡ 0

-- at most one positive fact, the head; the negative ones are the body
abbrev pub OneHead : Clause → Type 0
OneHead c = (f g : ℕ) → f < 64 → g < 64 → bit f c.positive ≡ 1 → bit g c.positive ≡ 1 → f ≡ g

-- nothing follows from the clause: one literal holds, or two are open. Where only Horn clauses matter (`two` is false), it is
-- enough that the body is not all on, whatever is known of the head; of a clause that is not Horn nothing is said then
abbrev pub Quiet : Bool → Assignment → Clause → Type 0
Quiet true x c = Held x c ⊎ Wide x c
Quiet false x c = OneHead c → Held x c ⊎ Waiting x c

abbrev pub Settled : Bool → (Clause → Type 0) → Assignment → Type 0
Settled two P x = (c : Clause) → P c → Quiet two x c

-- ---- what a function makes of an assignment

-- states in S that agree with x agree with r, and r says no less than x
pub record Going (S : ℕ → Type 0) (x r : Assignment) : Type 0 where
  pub sound : (s : ℕ) → S s → Agrees s x → Agrees s r
  pub grows : (b : Bool) (f : ℕ) → bit f (holding b x) ≤ bit f (holding b r)
  pub apart : Apart x → Apart r

-- no state in S agrees with x. A function that says so by a None has found a conflict
abbrev pub NoneIn : (ℕ → Type 0) → Assignment → Type 0
NoneIn S x = (s : ℕ) → S s → Agrees s x → ⊥

-- the two say the same, or, where only Horn clauses matter, the same of what is on
abbrev pub Alike : Bool → Assignment → Assignment → Type 0
Alike two x r = (x.on ≡ r.on) × (two ≡ true → x.off ≡ r.off)

-- x says no less than b
abbrev pub Grown : Assignment → Assignment → Type 0
Grown b x = (s : Bool) (f : ℕ) → bit f (holding s b) ≤ bit f (holding s x)

-- no literal of a side of the clause fails in x that did not fail in b; none at all, or, where only Horn clauses matter, none of the body
abbrev pub Spared : Bool → Assignment → Assignment → Clause → Type 0
Spared s b x c = (f : ℕ) → bit f (mask s c) ≡ 1 → bit f (failing s x) ≡ 1 → bit f (failing s b) ≡ 1

abbrev pub Untouched : Bool → Assignment → Assignment → Clause → Type 0
Untouched two b x c = (two ≡ true → Spared true b x c) × Spared false b x c

-- the clause was settled at some time from b to x
pub record Looked (two : Bool) (b x : Assignment) (c : Clause) : Type 0 where
  pub seen : Assignment
  pub after : Grown b seen
  pub until : Grown seen x
  pub settled : Quiet two seen c

-- what looks at x may rest on: each clause was settled at some time from b on. With no base each clause is looked at
abbrev pub Based : Bool → (Clause → Type 0) → Option Assignment → Assignment → Type 0
Based two P None x = Unit {0}
Based two P (Some b) x = (c : Clause) → P c → Looked two b x c

-- the facts that came to be known since a base
unfoldable pub since : Bool → Assignment → Assignment → Masks
since two b x = record { two = two; off = without x.off b.off; on = without x.on b.on }

-- one look at each clause of P, up to a conflict
pub record PassedTo (two : Bool) (P : Clause → Type 0) (x r : Assignment) : Type 0 where
  pub goes : Going (Meets P) x r
  pub looked : (c : Clause) → P c → Looked two x r c

abbrev pub Passed : Bool → (Clause → Type 0) → Assignment → Option Assignment → Type 0
Passed two P x None = NoneIn (Meets P) x
Passed two P x (Some r) = PassedTo two P x r

-- looks until nothing changes, or up to a conflict
pub record SolvedTo (two : Bool) (P : Clause → Type 0) (x r : Assignment) : Type 0 where
  pub goes : Going (Meets P) x r
  pub settled : Settled two P r

abbrev pub Solved : Bool → (Clause → Type 0) → Assignment → Option Assignment → Type 0
Solved two P x None = NoneIn (Meets P) x
Solved two P x (Some r) = SolvedTo two P x r

-- the same from an assignment or a conflict, which stays one
abbrev pub SolvedFrom : Bool → (Clause → Type 0) → Option Assignment → Option Assignment → Type 0
SolvedFrom two P None r = r ≡ None
SolvedFrom two P (Some x) r = Solved two P x r

-- the clause c is taken to fail
pub record OpposedTo (c : Clause) (x r : Assignment) : Type 0 where
  pub goes : Going (λ s. T (not (meets s c))) x r
  pub told : (b : Bool) (f : ℕ) → bit f (mask b c) ≡ 1 → bit f (failing b r) ≡ 1

abbrev pub Opposed : Clause → Assignment → Option Assignment → Type 0
Opposed c x None = NoneIn (λ s. T (not (meets s c))) x
Opposed c x (Some r) = OpposedTo c x r

-- the clause c is taken to fail, and P settled again
pub record AssumedTo (two : Bool) (P : Clause → Type 0) (c : Clause) (x r : Assignment) : Type 0 where
  pub goes : Going (λ s. Meets P s × T (not (meets s c))) x r
  pub told : (b : Bool) (f : ℕ) → bit f (mask b c) ≡ 1 → bit f (failing b r) ≡ 1
  pub settled : Settled two P x → Settled two P r

abbrev pub Assumed : Bool → (Clause → Type 0) → Clause → Assignment → Option Assignment → Type 0
Assumed two P c x None = NoneIn (λ s. Meets P s × T (not (meets s c))) x
Assumed two P c x (Some r) = AssumedTo two P c x r

-- an assignment that has P settled leaves a state open that meets P. So it is where P is Horn, or two-literal with a model
abbrev pub Fillable : Bool → (Clause → Type 0) → Type 0
Fillable two P = (r : Assignment) → r.on < 2 ^ 64 → Apart r → Settled two P r → (s : ℕ) × Agrees s r × Meets P s

-- fact i is decided, and P still settled; a conflict where no state that agrees with x meets P
pub record FixedTo (two : Bool) (P : Clause → Type 0) (i : ℕ) (x r : Assignment) : Type 0 where
  pub goes : Going (λ s. ⊥) x r
  pub decided : 1 ≤ bit i r.on + bit i r.off
  pub settled : Settled two P x → Settled two P r

abbrev pub Fixed : Bool → (Clause → Type 0) → ℕ → Assignment → Option Assignment → Type 0
Fixed two P i x None = NoneIn (Meets P) x
Fixed two P i x (Some r) = FixedTo two P i x r

-- ---- the search

-- an assignment has P settled, and no fact both on and off
pub record Ready (two : Bool) (P : Clause → Type 0) (x : Assignment) : Type 0 where
  pub apart : Apart x
  pub settled : Settled two P x

-- a state that agrees with x, meets P and fails a clause of each of the right leaves from j to 1
pub record Witness (P : Clause → Type 0) (Q : ℕ → Clause → Type 0) (j : ℕ) (x : Assignment) : Type 0 where
  pub state : ℕ
  pub agrees : Agrees state x
  pub meets_left : Meets P state
  pub fails : (k : ℕ) → j ≤ k → k < 2 → Fails (Q k) state

-- an assignment grown from x that has P settled and fails a clause of each of the right leaves from j to 1
pub record Candidate (two : Bool) (P : Clause → Type 0) (Q : ℕ → Clause → Type 0) (j : ℕ) (x : Assignment) : Type 0 where
  pub grown : Assignment
  pub goes : Going (λ s. ⊥) x grown
  pub fits : grown.on < 2 ^ 64
  pub apart : Apart grown
  pub settled : Settled two P grown
  pub fails : (k : ℕ) → j ≤ k → k < 2 → (c : Clause) × Q k c × ((b : Bool) (f : ℕ) → bit f (mask b c) ≡ 1 → bit f (failing b grown) ≡ 1)

-- a test that finds a candidate, and one wherever there is a witness
pub record Sought (two r : Bool) (P : Clause → Type 0) (Q : ℕ → Clause → Type 0) (j : ℕ) (x : Assignment) : Type 0 where
  pub finds : T r → Candidate two P Q j x
  pub sees : Witness P Q j x → T r

-- a state that agrees with x and meets P
abbrev pub Model : (Clause → Type 0) → Assignment → Type 0
Model P x = (s : ℕ) × Agrees s x × Meets P s

-- a test that fails only where there is no such state, and holds only where P can be filled
pub record Worth (two : Bool) (P : Clause → Type 0) (x : Assignment) (r : Bool) : Type 0 where
  pub fills : T r → Fillable two P
  pub sees : Model P x → T r

-- ---- right clauses that are left clauses too

-- one of the leaves has this set, and is asked about the state before the action
abbrev pub Before : List Leaf → BasicEntry → Type 0
Before leaves x = (j : ℕ) × (j < length leaves) × (leaf_in leaves j ≡ record { set = x; after = false })

-- of clauses from i on up to r, each may be passed over (`before`), and an action that changes these facts leaves it as it is
abbrev pub PassedOver : (ℕ → Clause) → ℕ → Bool → ℕ → ℕ → Type 0
PassedOver clause i before changed r = (j : ℕ) → i ≤ j → j < r → (before ≡ true) × Misses (record { two = true; off = changed; on = changed }) (clause j)

-- so of a set's clauses up to r, or of all from i on, whatever the task's ends are
abbrev pub Opens : List ℕ → BasicEntry → ℕ → Bool → ℕ → Option ℕ → Type 0
Opens bytes x i before changed None = (ends : Ends) → PassedOver (clause_of bytes ends x) i before changed (clause_count x)
Opens bytes x i before changed (Some r) =
    (i ≤ r) × (r < clause_count x) × ((ends : Ends) → PassedOver (clause_of bytes ends x) i before changed r)

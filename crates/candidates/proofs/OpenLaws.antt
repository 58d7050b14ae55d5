-- Right clauses that are left clauses too: where the action leaves them as they are, a state that meets the left clauses meets them.
-- Assumes nothing.
use Prim.Native.Nat.{ℕ, ◌≤◌, ◌<◌}
use mathlib.Core.Path.{◌≡◌, refl, sym, subst}
use mathlib.Core.Bool.{Bool, true, false}
use mathlib.Core.List.{List}
use Rattle.std.specs.Prelude.{Option, Some, None}
use native.Mathlib.Omega.{arith}
use lib.Bits.{bit_and, bit_or}
use Rattle.task.specs.declared.Action.{Action}
use Rattle.meaning.specs.declared.Clause.{Clause}
use Rattle.words.specs.Words.{Misses, FirstHit}
use Rattle.certificate.specs.declared.Span.{Span}
use Rattle.certificate.specs.declared.BasicEntry.{BasicEntry}
use Rattle.certificate.specs.declared.BasicEntry.TheVariants.{Empty, Init, Goal, Explicit, Horn, TwoCnf}
use Rattle.leaves.specs.declared.Leaf.{Leaf}
use Rattle.std.specs.Bool.{MatchBool}
use Rattle.std.specs.List.{HoldsAt}
use lib.Dec.{T}
use lib.ListN.{length}
use Rattle.leaves.specs.Leaves.{leaf_in, no_leaf}
use Rattle.propagation.proofs.WordsLaws.{count_there, clause_there}
use Rattle.propagation.proofs.LeavesLaws.{each_in}
use Rattle.propagation.specs.declared.Setting.{Setting}
use Rattle.propagation.specs.Clauses.{clause_count, words_of, clause_of, effect_of, pulled_by, LeftOf, Inside, ClausalSet, Clausal, Usable}
use Rattle.propagation.specs.Propagation.{mask, Before, PassedOver, Opens}
use Rattle.propagation.proofs.ClauseLaws.{pulled_missed, pulled_nothing}

-- what the search through the left leaves tells
pub found_before : (leaves : List Leaf) (x : BasicEntry) (r : Bool) (Q : Type 0)
    → MatchBool r ((k : ℕ) × (k < length leaves) × HoldsAt (λ y. y ≡ record { set = x; after = false }) leaves k) Q → T r → Before leaves x
unfolding leaf_in
found_before leaves x true Q h t = (h.0, h.1, h.2 no_leaf)
found_before leaves x false Q h t = absurd t

inside_of : (bytes : List ℕ) (two : Bool) (x : BasicEntry) → ClausalSet bytes two x → Inside bytes x
inside_of bytes two Empty h = tt
inside_of bytes two Init h = tt
inside_of bytes two Goal h = tt
inside_of bytes two (Explicit x) h = tt
inside_of bytes two (Horn x) h = h.inside
inside_of bytes two (TwoCnf x) h = h.inside

module _ (bytes : List ℕ) (leaves : List Leaf) (k : Setting) (x : BasicEntry) where
  -- a set that is among the left leaves stands within the file
  pub before_room : Usable bytes leaves k.two → Before leaves x → Inside bytes x
  before_room u (j, l, e) =
      inside_of bytes k.two x
      (subst (Clausal bytes k.two) e (each_in (Clausal bytes k.two) leaves u j l))

  -- its clauses are left clauses as they stand
  before_left : Before leaves x → (i : ℕ) → i < clause_count x → LeftOf bytes leaves k (clause_of bytes k.ends x i)
  before_left (j, l, e) i h = (j, l, rw e (i, h, sym (pulled_nothing k.action _)))

  -- those that an action leaves as they are, are left clauses still
  pub passed_left : (a : Action) (i r : ℕ) (before : Bool) → (before ≡ true → Before leaves x) → r ≤ clause_count x
      → PassedOver (clause_of bytes k.ends x) i before (effect_of a).changed r
      → (n : ℕ) → i ≤ n → n < r → LeftOf bytes leaves k (pulled_by (effect_of a) (clause_of bytes k.ends x n))
  unfolding effect_of
  passed_left a i r before b h o n l g =
      let q = o n l g in
      subst (LeftOf bytes leaves k) (sym (pulled_missed a _ (sides _ q.1))) (before_left (b q.0) n (omega arith))
    where
      sides : (c : Clause) → Misses (record { two = true; off = bit_or a.add a.del; on = bit_or a.add a.del }) c
          → (s : Bool) → bit_and (mask s c) (bit_or a.add a.del) ≡ 0
      sides c z true = z.0 refl
      sides c z false = z.1

-- ---- what the search over words finds of a set whose clauses stand in the file

pub opened_words : (bytes : List ℕ) (x : BasicEntry) (i : ℕ) (before : Bool) (changed : ℕ) {s : Span} → before ≡ true → words_of x ≡ Some s
    → (r : Option ℕ) → FirstHit bytes s.at s.count (record { two = true; off = changed; on = changed }) i r → Opens bytes x i before changed r
opened_words bytes x i before changed t e None h =
    λ ends j l m. (t, rw (clause_there bytes ends x j e) (h j l (rw (count_there x e) at m)))
opened_words bytes x i before changed t e (Some r) h = (
  h.from,
  rw (count_there x e) h.within,
  λ ends j l m. (t, rw (clause_there bytes ends x j e) (h.past j l m)),
)

-- Where the clauses of a set stand, and what that makes of them.
-- Assumes nothing.
use Prim.Native.Nat.{ℕ, ◌+◌, ◌*◌, ◌≤◌}
use mathlib.Core.Path.{◌≡◌, refl, sym, subst}
use mathlib.Core.Bool.{Bool}
use mathlib.Core.List.{List}
use lib.ListN.{length}
use Rattle.std.specs.Prelude.{Option, Some, None}
use Rattle.task.specs.declared.Ends.{Ends}
use Rattle.meaning.specs.declared.Clause.{Clause}
use Rattle.words.specs.Words.{words_at}
use Rattle.certificate.specs.declared.Span.{Span}
use Rattle.certificate.specs.declared.BasicEntry.{BasicEntry}
use Rattle.certificate.specs.declared.BasicEntry.TheVariants.{Empty, Init, Goal, Explicit, Horn, TwoCnf}
use Rattle.propagation.specs.declared.Assignment.{Assignment}
use Rattle.propagation.specs.declared.Effect.{Effect}
use Rattle.propagation.specs.Clauses.{clause_count, words_of, own_clause, clause_of, pulled_by}
use Rattle.leaves.specs.Holds.{Ruled}
use Rattle.propagation.specs.Clauses.{Only, Below, OfWords, OfOwn, OfSet, Inside, ClausalSet}
use Rattle.propagation.specs.Propagation.{Based, Passed}

-- ---- a set whose clauses stand in the file, and one whose clauses do not

-- the former is Horn or two-literal
placed : (Q : BasicEntry → Span → Type 0) → ((s : Span) → Q (Horn s) s) → ((s : Span) → Q (TwoCnf s) s)
    → (x : BasicEntry) {s : Span} → words_of x ≡ Some s → Q x s
unfolding words_of
placed Q h t Empty e = absurd cc
placed Q h t Init e = absurd cc
placed Q h t Goal e = absurd cc
placed Q h t (Explicit x) e = absurd cc
placed Q h t (Horn x) {s} e = let p : x ≡ s = cc in subst (Q (Horn x)) p (h x)
placed Q h t (TwoCnf x) {s} e = let p : x ≡ s = cc in subst (Q (TwoCnf x)) p (t x)

pub ruled_there : (bytes : List ℕ) (two : Bool) (x : BasicEntry) {s : Span} → words_of x ≡ Some s → ClausalSet bytes two x → Ruled bytes two s
ruled_there bytes two x = placed (λ (x : BasicEntry) (s : Span). ClausalSet bytes two x → Ruled bytes two s) (λ s h. h) (λ s h. h) x

pub inside_there : (bytes : List ℕ) (x : BasicEntry) {s : Span} → words_of x ≡ Some s → Inside bytes x → s.at + 16 * s.count ≤ length bytes
inside_there bytes x =
    placed (λ (x : BasicEntry) (s : Span). Inside bytes x → s.at + 16 * s.count ≤ length bytes) (λ s h. h) (λ s h. h) x

pub count_there : (x : BasicEntry) {s : Span} → words_of x ≡ Some s → clause_count x ≡ s.count
unfolding clause_count
count_there x = placed (λ (x : BasicEntry) (s : Span). clause_count x ≡ s.count) (λ s. refl) (λ s. refl) x

pub clause_there : (bytes : List ℕ) (ends : Ends) (x : BasicEntry) (i : ℕ) {s : Span} → words_of x ≡ Some s
    → clause_of bytes ends x i ≡ words_at bytes s.at i
unfolding clause_of words_at
clause_there bytes ends x i e = rw (clause_of, e)

pub clause_own : (bytes : List ℕ) (ends : Ends) (x : BasicEntry) (i : ℕ) → words_of x ≡ None
    → clause_of bytes ends x i ≡ own_clause ends x i
unfolding clause_of own_clause
clause_own bytes ends x i e = rw (clause_of, e)

-- so of all of them
module _ (bytes : List ℕ) (ends : Ends) (x : BasicEntry) (k : Effect) where
  pub all_there : {s : Span} → words_of x ≡ Some s → Below (OfSet bytes ends x k) (clause_count x) ≡ Below (OfWords bytes s.at k) s.count
  all_there e = λ i. Below (λ n. Only (pulled_by k (clause_there bytes ends x n e i))) (count_there x e i)

  pub based_there : (two : Bool) (b : Option Assignment) (y : Assignment) {s : Span} → words_of x ≡ Some s
      → Based two (Below (OfSet bytes ends x k) (clause_count x)) b y → Based two (Below (OfWords bytes s.at k) s.count) b y
  based_there two b y e = subst (λ (P : Clause → Type 0). Based two P b y) (all_there e)

  pub all_own : words_of x ≡ None → Below (OfSet bytes ends x k) (clause_count x) ≡ Below (OfOwn ends x k) (clause_count x)
  all_own e = λ i. Below (λ n. Only (pulled_by k (clause_own bytes ends x n e i))) (clause_count x)

  pub passed_there : (two : Bool) (y : Assignment) (r : Option Assignment) {s : Span} → words_of x ≡ Some s
      → Passed two (Below (OfWords bytes s.at k) s.count) y r → Passed two (Below (OfSet bytes ends x k) (clause_count x)) y r
  passed_there two y r e = subst (λ (P : Clause → Type 0). Passed two P y r) (sym (all_there e))

  pub passed_own : (two : Bool) (y : Assignment) (r : Option Assignment) → words_of x ≡ None
      → Passed two (Below (OfOwn ends x k) (clause_count x)) y r → Passed two (Below (OfSet bytes ends x k) (clause_count x)) y r
  passed_own two y r e = subst (λ (P : Clause → Type 0). Passed two P y r) (sym (all_own e))

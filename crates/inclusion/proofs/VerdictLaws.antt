-- The verdict on a statement, from what the code finds: its shape, and whether something makes it untrue.
-- Assumes nothing.
use mathlib.Core.Path.{◌≡◌, refl, sym, ap, subst, ◌∙◌}
use mathlib.Core.Logic.Iff
use mathlib.Core.Logic.{◌↔◌}
use Prim.Native.Nat.{ℕ, zero, suc, ◌≤◌, ◌<◌}
use native.Mathlib.Omega.{arith}
use mathlib.Core.Bool.{Bool, true, false, not}
use mathlib.Core.List.{List}
use lib.ListN.{length}
use lib.Dec.{T, eqb, eqb→eq}
use Rattle.task.specs.Reach.{every}
use Rattle.task.proofs.Tests.{and_left}
use Rattle.task.proofs.Moves.{Bounded}
use Rattle.meaning.specs.File.{File, Basic, empty, init, goal, explicit, horn, two_cnf, StateSet}
use Rattle.meaning.specs.File.{basic, complement, intersection, union, progression, regression, state_set_at, state_kind, basic_kind, second}
use Rattle.certificate.specs.Known.{decoded, IsRead}
use Rattle.meaning.specs.Writing.{FitsStateSet}
use Rattle.meaning.proofs.Order.{Ordered, state_set_fits}
use Rattle.certificate.proofs.KnownLaws.{read_file_lem}
use Rattle.std.specs.Prelude.{Ok, Err}
use Rattle.inclusion.specs.declared.Failure.TheVariants.{Untrue, NotPermitted}
use Rattle.meaning.specs.Sets.{states_within, actions_within}
use Rattle.meaning.specs.Shapes.{kind_at, leaves, shape₁, shape_with, shape₂, shape₃, shape₄}
use Rattle.counterexample.specs.Counter.{Counter}
use Rattle.parts.specs.Written.{shape_of, bracket_leaf, actions_of_rule}
use Rattle.shapes.specs.Gathered.{left_of, right_of, Acts}
use Rattle.meaning.specs.Statements.{statements}
use Rattle.inclusion.specs.Search.{has_bracket}
use Rattle.inclusion.specs.Verdict.{Verdict, verdict_but, verdict_by, verdict_or, verdict_of}
use Rattle.counterexample.proofs.Lists.{kept_passes}
use Rattle.inclusion.proofs.RuleTruth.{rule_truth, the_bracket}

-- ---- the verdict

-- by its shape and its truth
picked : Bool → Bool → Verdict
picked true true = Ok tt
picked true false = Err Untrue
picked false h = Err NotPermitted

by_truth : (sh h u : Bool) → T sh → T h ↔ (T u → ⊥) → verdict_but u ≡ picked sh h
unfolding verdict_but picked
by_truth true true true t w = absurd (w.0 tt tt)
by_truth true true false t w = refl
by_truth true false true t w = refl
by_truth true false false t w = absurd (w.1 (λ z. z))
by_truth false h u t w = absurd t

picks : (sh h : Bool) → elim sh [ true ↦ elim h [ true ↦ Ok tt | false ↦ Err Untrue ] | false ↦ Err NotPermitted ] ≡ picked sh h
unfolding picked
picks true true = refl
picks true false = refl
picks false h = refl

verdict_picked : (f : File) (rule a b : ℕ) → 1 ≤ rule → rule ≤ 4 → verdict_of f rule a b ≡ picked (shape_of f rule a b) (states_within f a b)
unfolding shape_of verdict_of verdict_or verdict_by statements
verdict_picked f zero a b l h = absurd (omega arith)
verdict_picked f (suc zero) a b l h = picks (shape₁ f a b) (states_within f a b)
verdict_picked f (suc (suc zero)) a b l h = picks (shape₂ f a b) (states_within f a b)
verdict_picked f (suc (suc (suc zero))) a b l h = picks (shape₃ f a b) (states_within f a b)
verdict_picked f (suc (suc (suc (suc zero)))) a b l h = picks (shape₄ f a b) (states_within f a b)
verdict_picked f (suc (suc (suc (suc (suc k))))) a b l h = absurd (omega arith)

pub verdict_actions : (f : File) (a b : ℕ) (r : Bool) → r ≡ actions_within f a b → verdict_but (not r) ≡ verdict_of f 5 a b
unfolding verdict_of verdict_or verdict_by statements verdict_but
verdict_actions f a b r e = by (actions_within f a b) e
  where
    by : (h : Bool) → r ≡ h → verdict_but (not r) ≡ elim h [ true ↦ Ok tt | false ↦ Err Untrue ]
    by true q = rw q refl
    by false q = rw q refl

pub verdict_refused : (f : File) (rule a b : ℕ) → 1 ≤ rule → rule ≤ 4 → shape_of f rule a b ≡ false → Err NotPermitted ≡ verdict_of f rule a b
unfolding picked
verdict_refused f rule a b l h e = sym (verdict_picked f rule a b l h ∙ ap (λ (x : Bool). picked x (states_within f a b)) e)

pub verdict_decided : (f : File) → Ordered f → Bounded f.task → (rule a b : ℕ) → 1 ≤ rule → rule ≤ 4 → shape_of f rule a b ≡ true
    → (u : Bool)
    → T u ↔ Counter f (Acts f rule a) (left_of f rule a b) (right_of f rule a b) → verdict_but u ≡ verdict_of f rule a b
verdict_decided f o w rule a b l h e u c =
    let t : T (shape_of f rule a b) = subst T (sym e) tt in
    by_truth (shape_of f rule a b) (states_within f a b) u t
    (Iff.trans (rule_truth f o w rule a b l h t) ((λ n z. n (c.0 z)), (λ n z. n (c.1 z))))
    ∙ sym (verdict_picked f rule a b l h)

-- ---- the action set of a bracket is in the file

basic_small : (b : Basic) → basic_kind b < 6
unfolding basic_kind
basic_small empty = omega arith
basic_small init = omega arith
basic_small goal = omega arith
basic_small (explicit ss) = omega arith
basic_small (horn cs) = omega arith
basic_small (two_cnf cs) = omega arith

second_fits : (n m i : ℕ) (x : StateSet) (k : ℕ) → 9 ≤ k → T (eqb (state_kind x) k) → FitsStateSet n m i x → second x < m
unfolding state_kind second basic_kind
second_fits n m i (progression a e) k l t h = h.1
second_fits n m i (regression a e) k l t h = h.1
second_fits n m i (complement a) k l t h = absurd (let q = eqb→eq 6 k t in omega arith)
second_fits n m i (intersection a b) k l t h = absurd (let q = eqb→eq 7 k t in omega arith)
second_fits n m i (union a b) k l t h = absurd (let q = eqb→eq 8 k t in omega arith)
second_fits n m i (basic b) k l t h = absurd (let q = eqb→eq (basic_kind b) k t in let s = basic_small b in omega arith)

-- the action set of a permitted statement with a bracket
module _ (bytes : List ℕ) (k : IsRead bytes) (a b : ℕ) where
  abbrev f : File
  f = decoded bytes

  bracket_kind : (n : ℕ) (anchors : _) → T (shape_with f n anchors a b) → T (eqb (state_kind (state_set_at f (bracket_leaf f n a))) n)
  unfolding kind_at every
  bracket_kind n anchors t =
      and_left (eqb (kind_at f (bracket_leaf f n a)) n) true
      (subst (λ (xs : List ℕ). T (every (λ e. eqb (kind_at f e) n) xs)) (the_bracket f n anchors a b t)
      (kept_passes (λ e. eqb (kind_at f e) n) (leaves f 7 a)))

  in_file : (n : ℕ) (anchors : _) → 9 ≤ n → T (shape_with f n anchors a b)
      → second (state_set_at f (bracket_leaf f n a)) < length f.action_sets
  in_file n anchors l t =
      second_fits _ _ _ (state_set_at f (bracket_leaf f n a)) n l (bracket_kind n anchors t)
      (state_set_fits bytes f (read_file_lem bytes k) (bracket_leaf f n a))

  pub actions_in_file : (rule : ℕ) → has_bracket rule ≡ true → shape_of f rule a b ≡ true → actions_of_rule f rule a < length f.action_sets
  unfolding shape_of actions_of_rule shape₂ shape₃ has_bracket
  actions_in_file zero h e = absurd (subst T (sym h) tt)
  actions_in_file (suc zero) h e = absurd (subst T (sym h) tt)
  actions_in_file (suc (suc zero)) h e = in_file 9 _ (omega arith) (subst T (sym e) tt)
  actions_in_file (suc (suc (suc zero))) h e = in_file 10 _ (omega arith) (subst T (sym e) tt)
  actions_in_file (suc (suc (suc (suc n)))) h e = absurd (subst T (sym h) tt)

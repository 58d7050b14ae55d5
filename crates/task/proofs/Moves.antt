-- The task as a transition system: its sequences are paths, so what holds of all paths holds of all sequences.
-- Only `bounded` and the law before it know which states are initial; the rest goes by the names is_init, is_goal, applies, after.
-- Assumes nothing.
use mathlib.Core.Path.{◌≡◌, refl, subst, sym, ap, ◌∙◌}
use mathlib.Core.Logic.{◌⊎◌, inl, inr}
use Prim.Native.Nat.{ℕ, ◌+◌, ◌^◌, ◌≤◌, ◌<◌}
use native.Mathlib.Nat.{lt_of_le_of_lt}
use native.Mathlib.Omega.{arith}
use mathlib.Core.Bool.{Bool, true, false, not}
use mathlib.Core.List.{List, [], ◌∷◌, ◌++◌}
use lib.ListN.{length}
use lib.Bits.{bit_and, bit_or, or_lt, and_le_l, and_le_r}
use lib.Dec.{T, eqb→eq}
use Rattle.task.specs.Facts.{without}
use Rattle.task.specs.Inner.{bit}
use Rattle.task.specs.Task.{Task, action_at, is_init, is_goal, applies, after, next, run, trace}
use Rattle.task.specs.Reach.{member, Sequence, Safe, Unsolvable, Dead, Reachable}
use Rattle.task.specs.System.{System, Path, here, move, DeadIn, UnsolvableIn}
use Rattle.task.specs.declared.Action.{Action}
use Rattle.task.proofs.Tests.{not_of, every_at, every_of, member_none, member_first, member_rest, member_cases}
use Rattle.task.proofs.Bits.{bit_le, bit_and_lem, bit_or_lem, same_bits, bit_without, without_lt, after_lt}

-- ---- the initial states and the actions stay within the facts of the task

pub record Bounded (t : Task) : Type 0 where
  pub init : (s : ℕ) → T (is_init t s) → s < 2 ^ t.facts
  pub after : (i s : ℕ) → i < length t.actions → s < 2 ^ t.facts → after (action_at t i) s < 2 ^ t.facts

-- an initial state is the start with some of the unknown facts on and the others off
pub init_is : (t : Task) (s : ℕ) → T (is_init t s) → s ≡ bit_or (without t.init t.unknown) (bit_and s t.unknown)
unfolding is_init
init_is t s h =
    same_bits s _ (λ f.
    let i = ap (bit f) (eqb→eq (without s t.unknown) (without t.init t.unknown) h) in
    omega (
      arith,
      bit_or_lem f (without t.init t.unknown) (bit_and s t.unknown),
      bit_and_lem f s t.unknown,
      bit_without f s t.unknown,
      bit_le f s,
      bit_le f t.unknown,
    ))

pub init_at_most : (t : Task) (s : ℕ) → T (is_init t s) → s ≤ t.init + t.unknown
unfolding is_init without
init_at_most t s h =
    let e = eqb→eq (without s t.unknown) (without t.init t.unknown) h in
    omega (arith, and_le_l s t.unknown, and_le_r s t.unknown)

pub bounded : (t : Task) → t.init < 2 ^ t.facts → t.unknown < 2 ^ t.facts
    → ((i : ℕ) → i < length t.actions → (action_at t i).add < 2 ^ t.facts) → Bounded t
bounded t h u k = record {
  init = λ s e.
      subst (λ (x : ℕ). x < 2 ^ t.facts) (sym (init_is t s e))
      (or_lt t.facts _ _ (without_lt t.facts t.init t.unknown h) (lt_of_le_of_lt (and_le_r s t.unknown) u));
  after = λ i s l m. after_lt t.facts (action_at t i) s m (k i l);
}

-- ---- sequences

-- one action of a sequence: a move, or no change
pub next_cases : (a : Action) (s : ℕ) → (T (applies a s) × (next a s ≡ after a s)) ⊎ (next a s ≡ s)
unfolding next
next_cases a s = go (applies a s)
  where
    go : (b : Bool) → (T b × (◌≡◌ {A = ℕ} (elim b [ true ↦ after a s | false ↦ s ]) (after a s))) ⊎
        (◌≡◌ {A = ℕ} (elim b [ true ↦ after a s | false ↦ s ]) s)
    go true = inl (tt, refl)
    go false = inr refl

-- an action that applies is a move
pub applied : (a : Action) (s : ℕ) → T (applies a s) → next a s ≡ after a s
unfolding next
applied a s h = go (applies a s) h
  where
    go : (b : Bool) → T b → ◌≡◌ {A = ℕ} (elim b [ true ↦ after a s | false ↦ s ]) (after a s)
    go true t = refl
    go false t = absurd t

module _ (t : Task) where
  pub sequence_append : (is js : List ℕ) → Sequence t is → Sequence t js → Sequence t (is ++ js)
  sequence_append [] js q k = k
  sequence_append (i ∷ is) js q k = (q.0, sequence_append is js q.1 k)

  pub run_append : (s : ℕ) (is js : List ℕ) → run t s (is ++ js) ≡ run t (run t s is) js
  unfolding run
  run_append s [] js = refl
  run_append s (i ∷ is) js = run_append (next (action_at t i) s) is js

  -- a sequence passes the state that it leads to
  pub run_passed : (s : ℕ) (is : List ℕ) → T (member (run t s is) (trace t s is))
  unfolding run trace
  run_passed s [] = member_first s s [] refl
  run_passed s (i ∷ is) = member_rest _ s _ (run_passed (next (action_at t i) s) is)

  -- a sequence that passes x: one part leads to x, and the rest from there to the end
  record Passed (s x : ℕ) (is : List ℕ) : Type 0 where
    before : List ℕ
    rest : List ℕ
    before_in : Sequence t before
    rest_in : Sequence t rest
    reached : run t s before ≡ x
    ends : run t x rest ≡ run t s is

  passed : (is : List ℕ) (s x : ℕ) → Sequence t is → T (member x (trace t s is)) → Passed s x is
  unfolding run trace
  passed [] s x q m =
      elim (member_cases x s [] m) [
        | inl e ↦ record { before = []; rest = []; before_in = tt; rest_in = tt; reached = sym e; ends = e }
        | inr k ↦ absurd (member_none x k)
      ]
  passed (i ∷ is) s x q m =
      elim (member_cases x s _ m) [
        | inl e ↦ record {
          before = [];
          rest = i ∷ is;
          before_in = tt;
          rest_in = q;
          reached = sym e;
          ends =
              ap (λ (y : ℕ). run t y (i ∷ is)) e;
        }
        | inr k ↦ (let p = passed is (next (action_at t i) s) x q.1 k in
            record {
              before = i ∷ p.before;
              rest = p.rest;
              before_in = (q.0, p.before_in);
              rest_in = p.rest_in;
              reached =
                  p.reached;
              ends = p.ends;
            })
      ]

-- ---- to pass no goal state is to lead to none

pub safe_unsolvable : (t : Task) → Safe t → Unsolvable t
safe_unsolvable t h s is a q = every_at (λ x. not (is_goal t x)) (trace t s is) (run t s is) (h s is a q) (run_passed t s is)

pub unsolvable_safe : (t : Task) → Unsolvable t → Safe t
unsolvable_safe t h s is a q =
    every_of (λ x. not (is_goal t x)) (trace t s is) (λ x m.
    let p = passed t is s x q m in subst (λ (y : ℕ). T (not (is_goal t y))) p.reached (h s p.before a p.before_in))

-- ---- the transition system

pub join : (y : System) {s u v : y.State} → Path y s u → Path y u v → Path y s v
join y here q = q
join y (move a m p) q = move a m (join y p q)

abbrev pub system : Task → System
system t = record {
  State = (s : ℕ) × (s < 2 ^ t.facts);
  Action = (i : ℕ) × (i < length t.actions);
  Move = λ a s u. T (applies (action_at t a.0) s.0) × (after (action_at t a.0) s.0 ≡ u.0);
  Init = λ s. T (is_init t s.0);
  Goal = λ s. T (is_goal t s.0);
}

module _ (t : Task) (b : Bounded t) where
  -- a path from s to the state with this number
  abbrev Leads : (system t).State → ℕ → Type 0
  Leads s x = (u : (system t).State) × (u.0 ≡ x) × Path (system t) s u

  next_path : (s : (system t).State) (i : ℕ) → i < length t.actions → Leads s (next (action_at t i) s.0)
  next_path s i h =
      elim (next_cases (action_at t i) s.0) [
        | inl c ↦ ((after (action_at t i) s.0, b.after i s.0 h s.1), sym c.1, move (i, h) (c.0, refl) here)
        | inr e ↦ (s, sym e, here)
      ]

  run_path : (is : List ℕ) (s : (system t).State) (x : ℕ) → s.0 ≡ x → Sequence t is → Leads s (run t x is)
  unfolding run
  run_path [] s x e q = (s, e, here)
  run_path (i ∷ is) s x e q =
      let n = next_path s i q.0 in
      let r = run_path is n.0 (next (action_at t i) x) (n.1 ∙ ap (next (action_at t i)) e) q.1 in
      (r.0, r.1, join (system t) n.2 r.2)

-- what is unsolvable along paths is safe
pub unsolvable : (t : Task) → Bounded t → UnsolvableIn (system t) → Safe t
unsolvable t b h =
    unsolvable_safe t (λ s is a q.
    let r = run_path t b is (s, b.init s a) s refl q in
    not_of (is_goal t (run t s is)) (λ g. h (s, b.init s a) r.0 a r.2 (subst (λ (x : ℕ). T (is_goal t x)) (sym r.1) g)))

-- what is dead along paths is dead
pub dead : (t : Task) → Bounded t → (X : ℕ → Bool) → DeadIn (system t) (λ s. T (X s.0)) → Dead t X
dead t b X h s is a q g =
    every_of (λ x. not (X x)) (trace t s is) (λ x m.
    let p = passed t is s x q m in
    let r = run_path t b p.before (s, b.init s a) s refl p.before_in in
    let f = run_path t b p.rest r.0 x (r.1 ∙ p.reached) p.rest_in in
    not_of (X x) (λ k. h (s, b.init s a) r.0 f.0 a r.2 (subst (λ (y : ℕ). T (X y)) (sym (r.1 ∙ p.reached)) k) f.2
    (subst (λ (y : ℕ). T (is_goal t y)) (sym (f.1 ∙ p.ends)) g)))

-- ---- the states within reach

pub reach_init : (t : Task) (s : ℕ) → T (is_init t s) → Reachable t s
unfolding run
reach_init t s h = (s, [], h, tt, refl)

pub reach_next : (t : Task) (s : ℕ) → Reachable t s → (i : ℕ) → i < length t.actions → Reachable t (next (action_at t i) s)
unfolding run
reach_next t s r i h = (
  r.0,
  r.1 ++ i ∷ [],
  r.2,
  sequence_append t r.1 (i ∷ []) r.3 (h, tt),
  run_append t r.0 r.1 (i ∷ [])
      ∙ ap (next (action_at t i)) r.4,
)

pub reach_lt : {t : Task} {s : ℕ} → Bounded t → Reachable t s → s < 2 ^ t.facts
reach_lt {t} b r =
    let p = run_path t b r.1 (r.0, b.init r.0 r.2) r.0 refl r.3 in
    subst (λ (x : ℕ). x < 2 ^ t.facts) (p.1 ∙ r.4) p.0.1

-- of a safe task no goal state is within reach
pub reach_safe : (t : Task) → Unsolvable t → (s : ℕ) → Reachable t s → T (not (is_goal t s))
reach_safe t h s r = subst (λ (x : ℕ). T (not (is_goal t x))) r.4 (h r.0 r.1 r.2 r.3)

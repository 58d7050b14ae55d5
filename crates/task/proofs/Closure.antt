-- The states within reach as a list: it grows by one new state at a time and ends closed, since at most k are within reach.
-- Only `new_init` knows more of the initial states than their name: none is above a bound.
-- Assumes nothing.
use mathlib.Core.Path.{◌≡◌, refl, subst, sym}
use mathlib.Core.Logic.{◌⊎◌, inl, inr, ◌↔◌}
use Prim.Native.Nat.{ℕ, zero, suc, ◌+◌, ◌≤◌, ◌<◌}
use native.Mathlib.Nat.{not-suc-le-zero, le_of_suc-le-suc, eq-or-lt_of_le, le_refl, le_trans, le-suc}
use native.Mathlib.Omega.{arith}
use mathlib.Core.Bool.{not}
use mathlib.Core.List.{List, [], ◌∷◌}
use lib.ListN.{length}
use lib.Dec.{T}
use Rattle.task.specs.Task.{Task, action_at, is_init, next, run}
use Rattle.task.specs.Reach.{member, distinct, Sequence, Reachable, AtMostReachable}
use Rattle.task.proofs.Tests.{excluded, never, member_none, member_first, member_rest, member_cases, distinct_none, distinct_more}
use Rattle.task.proofs.Moves.{init_at_most, reach_init, reach_next}

-- ---- of two cases at each number, the first holds somewhere or the second everywhere

module _ {P Q : ℕ → Type 0} (case : (x : ℕ) → P x ⊎ Q x) where
  search_below : (n : ℕ) → ((i : ℕ) × (i < n) × P i) ⊎ ((i : ℕ) → i < n → Q i)
  search_below zero = inr (λ i h. absurd (not-suc-le-zero h))
  search_below (suc n) =
      elim (case n) [
        | inl p ↦ inl (n, le_refl (suc n), p)
        | inr q ↦ elim (search_below n) [
          | inl w ↦ inl (w.0, le_trans w.1 (le-suc n), w.2)
          | inr a ↦ inr (λ i h. elim (eq-or-lt_of_le (le_of_suc-le-suc h)) [ inl e ↦ subst Q (sym e) q | inr l ↦ a i l ])
        ]
      ]

  search_in : (xs : List ℕ) → ((x : ℕ) × T (member x xs) × P x) ⊎ ((x : ℕ) → T (member x xs) → Q x)
  search_in [] = inr (λ x m. absurd (member_none x m))
  search_in (y ∷ xs) =
      elim (case y) [
        | inl p ↦ inl (y, member_first y y xs refl, p)
        | inr q ↦ elim (search_in xs) [
          | inl w ↦ inl (w.0, member_rest w.0 y xs w.1, w.2)
          | inr a ↦ inr (λ x m. elim (member_cases x y xs m) [ inl e ↦ subst Q (sym e) q | inr k ↦ a x k ])
        ]
      ]

-- ---- the list grows

module _ (t : Task) where
  lacks_init : (l : List ℕ) (s : ℕ) → (T (is_init t s) × T (not (member s l))) ⊎ (T (is_init t s) → T (member s l))
  lacks_init l s =
      elim (excluded (is_init t s)) [
        | inl i ↦ elim (excluded (member s l)) [ inl m ↦ inr (λ _. m) | inr n ↦ inl (i, n) ]
        | inr n ↦ inr (λ i. absurd (never (is_init t s) i n))
      ]

  -- an initial state that the list lacks, or it holds them all
  new_init : (l : List ℕ) → ((s : ℕ) × T (is_init t s) × T (not (member s l))) ⊎ ((s : ℕ) → T (is_init t s) → T (member s l))
  new_init l =
      elim (search_below (λ s. lacks_init l s) (suc (t.init + t.unknown))) [
        | inl w ↦ inl (w.0, w.2.0, w.2.1)
        | inr a ↦ inr (λ s h. a s (let u = init_at_most t s h in omega arith) h)
      ]

  -- it holds every initial state, and where each action leads from each of its states
  abbrev Closed : List ℕ → Type 0
  Closed l =
      ((s : ℕ) → T (is_init t s) → T (member s l))
      × ((s : ℕ) → T (member s l) → (i : ℕ) → i < length t.actions → T (member (next (action_at t i) s) l))

  -- its states are different, and within reach
  abbrev Good : List ℕ → Type 0
  Good l = T (distinct l) × ((s : ℕ) → T (member s l) → Reachable t s)

  in_or_not : (l : List ℕ) (x : ℕ) → T (not (member x l)) ⊎ T (member x l)
  in_or_not l x = elim (excluded (member x l)) [ inl m ↦ inr m | inr n ↦ inl n ]

  -- a state within reach that the list lacks, or it is closed
  new : (l : List ℕ) → Good l → ((s : ℕ) × T (not (member s l)) × Reachable t s) ⊎ Closed l
  new l g =
      elim (new_init l) [
        | inl w ↦ inl (w.0, w.2, reach_init t w.0 w.1)
        | inr a ↦ elim (search_in (λ s. search_below (λ i. in_or_not l (next (action_at t i) s)) (length t.actions)) l) [
          | inl w ↦ inl (next (action_at t w.2.0) w.0, w.2.2, reach_next t w.0 (g.1 w.0 w.1) w.2.0 w.2.1)
          | inr c ↦ inr (a, c)
        ]
      ]

  more : (l : List ℕ) → Good l → (s : ℕ) → T (not (member s l)) → Reachable t s → Good (s ∷ l)
  more l g s n r =
      (distinct_more s l n g.0, λ x m. elim (member_cases x s l m) [ inl e ↦ subst (Reachable t) (sym e) r | inr k ↦ g.1 x k ])

  grow : (k : ℕ) (l : List ℕ) → Good l → (m : List ℕ) × Good m × (Closed m ⊎ (length m ≡ k + length l))
  grow zero l g = (l, g, inr (omega arith))
  grow (suc k) l g =
      elim (new l g) [
        | inl w ↦ (let r = grow k (w.0 ∷ l) (more l g w.0 w.1 w.2) in
            (r.0, r.1, elim r.2 [ inl c ↦ inl c | inr e ↦ inr (omega arith) ]))
        | inr c ↦ (l, g, inl c)
      ]

  -- a closed list holds every state within reach
  closed_run : (l : List ℕ) → Closed l → (is : List ℕ) (s : ℕ) → T (member s l) → Sequence t is → T (member (run t s is) l)
  unfolding run
  closed_run l c [] s m q = m
  closed_run l c (i ∷ is) s m q = closed_run l c is (next (action_at t i) s) (c.1 s m i q.0) q.1

  closed_all : (l : List ℕ) → Closed l → (s : ℕ) → Reachable t s → T (member s l)
  closed_all l c s r = subst (λ (x : ℕ). T (member x l)) r.4 (closed_run l c r.1 r.0 (c.0 r.0 r.2) r.3)

  closed_list : (k : ℕ) → AtMostReachable k t → (l : List ℕ) × Good l × Closed l
  closed_list k h =
      let r = grow (suc k) [] (distinct_none, λ s m. absurd (member_none s m)) in (
        r.0,
        r.1,
        elim r.2 [
          | inl c ↦ c
          | inr e ↦ absurd (let a : length r.0 ≤ k = h r.0 r.1.0 r.1.1 in omega arith)
        ],
      )

-- where at most k states are within reach, a list of at most k states holds just those
pub reachable_list : (t : Task) (k : ℕ) → AtMostReachable k t
    → (ss : List ℕ) × (length ss ≤ k) × ((s : ℕ) → T (member s ss) ↔ Reachable t s)
reachable_list t k h =
    let (l, (distinct, within), closed) = closed_list t k h in
    (l, h l distinct within, λ s. (within s, closed_all t l closed s))

-- How many initial states a task has: 2 ^ n different ones, where n facts are unknown. So few states within reach mean few unknown facts.
-- Assumes nothing.
use mathlib.Core.Path.{◌≡◌, refl, subst, sym, ap, ◌∙◌}
use mathlib.Core.Logic.{◌⊎◌, inl, inr}
use Prim.Native.Nat.{ℕ, zero, suc, ◌+◌, ◌*◌, ◌/◌, ◌%◌, ◌^◌, ◌≤◌}
use native.Mathlib.Nat.{pow-suc}
use native.Mathlib.Omega.{arith}
use native.Mathlib.Decide.{dec_lt}
use mathlib.Core.Bool.{not}
use mathlib.Core.List.{List, [], ◌∷◌}
use lib.ListN.{length}
use lib.Pow.{pow-lt}
use lib.Dec.{T}
use Rattle.task.specs.Facts.{ones_in}
use Rattle.task.specs.Task.{Task, is_init}
use Rattle.task.specs.Inner.{bit, ends_of}
use Rattle.task.specs.Reach.{member, distinct, Reachable, AtMostReachable}
use Rattle.task.proofs.Tests.{
  and_left,
  and_right,
  never,
  not_of,
  member_none,
  member_first,
  member_rest,
  member_cases,
  distinct_none,
  distinct_more,
}
use Rattle.task.proofs.Bits.{bit_zero, bit_suc}
use Rattle.task.proofs.Names.{init_ends, at_init_of}
use Rattle.task.proofs.Moves.{reach_init}

-- ---- lists of different numbers

distinct_first : (x : ℕ) (xs : List ℕ) → T (distinct (x ∷ xs)) → T (not (member x xs))
unfolding distinct
distinct_first x xs d = and_left (not (member x xs)) (distinct xs) d

distinct_rest : (x : ℕ) (xs : List ℕ) → T (distinct (x ∷ xs)) → T (distinct xs)
unfolding distinct
distinct_rest x xs d = and_right (not (member x xs)) (distinct xs) d

-- the list without one of its elements
taken : (x : ℕ) (ys : List ℕ) → T (member x ys)
    → (zs : List ℕ) × (length ys ≡ suc (length zs)) × ((y : ℕ) → T (member y ys) → (y ≡ x) ⊎ T (member y zs))
taken x [] m = absurd (member_none x m)
taken x (y ∷ ys) m =
    elim (member_cases x y ys m) [
      | inl e ↦ (ys, refl, λ z k. elim (member_cases z y ys k) [ inl f ↦ inl (f ∙ sym e) | inr l ↦ inr l ])
      | inr k ↦ let r = taken x ys k in (
        y ∷ r.0,
        ap suc r.1,
        λ z l. elim (member_cases z y ys l) [
          | inl f ↦ inr (member_first z y r.0 f)
          | inr j ↦ elim (r.2 z j) [ inl f ↦ inl f | inr i ↦ inr (member_rest z y r.0 i) ]
        ],
      )
    ]

-- different numbers that are all in another list are not more than it has
not_longer : (xs ys : List ℕ) → T (distinct xs) → ((x : ℕ) → T (member x xs) → T (member x ys)) → length xs ≤ length ys
not_longer [] ys d h = omega arith
not_longer (x ∷ xs) ys d h =
    let r = taken x ys (h x (member_first x x xs refl)) in
    let i = not_longer xs r.0 (distinct_rest x xs d) (λ y m. elim (r.2 y (h y (member_rest y x xs m))) [
      | inl e ↦ absurd (never (member x xs) (subst (λ (z : ℕ). T (member z xs)) e m) (distinct_first x xs d))
      | inr k ↦ k
    ]) in
    omega (arith, r.1)

-- ---- the numbers of xs with a digit b behind each, put before ys

abbrev put : ℕ → List ℕ → List ℕ → List ℕ
put b [] ys = ys
put b (x ∷ xs) ys = (x * 2 + b) ∷ put b xs ys

length_put : (b : ℕ) (xs ys : List ℕ) → length (put b xs ys) ≡ length xs + length ys
length_put b [] ys = omega arith
length_put b (x ∷ xs) ys = omega (arith, length_put b xs ys)

put_cases : (b : ℕ) → b ≤ 1 → (xs ys : List ℕ) (y : ℕ) → T (member y (put b xs ys))
    → ((y % 2 ≡ b) × T (member (y / 2) xs)) ⊎ T (member y ys)
put_cases b l [] ys y m = inr m
put_cases b l (x ∷ xs) ys y m =
    elim (member_cases y (x * 2 + b) (put b xs ys) m) [
      | inl e ↦ inl (omega arith, member_first (y / 2) x xs (omega arith))
      | inr k ↦ elim (put_cases b l xs ys y k) [ inl h ↦ inl (h.0, member_rest (y / 2) x xs h.1) | inr j ↦ inr j ]
    ]

put_alone : (b : ℕ) → b ≤ 1 → (xs : List ℕ) (y : ℕ) → T (member y (put b xs [])) → (y % 2 ≡ b) × T (member (y / 2) xs)
put_alone b l xs y m = elim (put_cases b l xs [] y m) [ inl h ↦ h | inr k ↦ absurd (member_none y k) ]

put_distinct : (b : ℕ) → b ≤ 1 → (xs ys : List ℕ) → T (distinct xs) → T (distinct ys) → ((y : ℕ) → T (member y ys) → y % 2 ≡ b → ⊥)
    → T (distinct (put b xs ys))
put_distinct b l [] ys d e n = e
put_distinct b l (x ∷ xs) ys d e n =
    distinct_more (x * 2 + b) (put b xs ys)
    (not_of (member (x * 2 + b) (put b xs ys)) (λ m. elim (put_cases b l xs ys (x * 2 + b) m) [
      | inl h ↦ (let q : (x * 2 + b) / 2 ≡ x = omega arith in
          never (member x xs) (subst (λ (z : ℕ). T (member z xs)) q h.1) (distinct_first x xs d))
      | inr k ↦ n (x * 2 + b) k (omega arith)
    ]))
    (put_distinct b l xs ys (distinct_rest x xs d) e n)

-- ---- the states that agree with i but for the facts of u

-- fact by fact
abbrev Agrees : ℕ → ℕ → ℕ → Type 0
Agrees i u s = (f : ℕ) → bit f u ≡ 0 → bit f s ≡ bit f i

agrees_by_halves : (i u s : ℕ) → (u % 2 ≡ 0 → s % 2 ≡ i % 2) → Agrees (i / 2) (u / 2) (s / 2) → Agrees i u s
agrees_by_halves i u s l h zero z = bit_zero s ∙ l (sym (bit_zero u) ∙ z) ∙ sym (bit_zero i)
agrees_by_halves i u s l h (suc f) z = bit_suc f s ∙ h f (sym (bit_suc f u) ∙ z) ∙ sym (bit_suc f i)

agrees_unknown : (i u s : ℕ) → u % 2 ≡ 1 → Agrees (i / 2) (u / 2) (s / 2) → Agrees i u s
agrees_unknown i u s o h = agrees_by_halves i u s (λ z. omega arith) h

-- different ones, as many as the first k facts of u give
abbrev Starts : ℕ → ℕ → ℕ → Type 0
Starts k i u = (ss : List ℕ) × T (distinct ss) × (length ss ≡ 2 ^ ones_in k u) × ((s : ℕ) → T (member s ss) → Agrees i u s)

starts_known : (k i u : ℕ) → u % 2 ≡ 0 → Starts k (i / 2) (u / 2) → Starts (suc k) i u
unfolding ones_in
starts_known k i u o (ss, d, n, a) =
    let l : i % 2 ≤ 1 = omega arith in
    let e : u % 2 + ones_in k (u / 2) ≡ ones_in k (u / 2) = omega arith in (
      put (i % 2) ss [],
      put_distinct (i % 2) l ss [] d distinct_none (λ y m q. member_none y m),
      omega (arith, length_put (i % 2) ss [], ap (λ (x : ℕ). 2 ^ x) e),
      λ s m. let (q, h) = put_alone (i % 2) l ss s m in agrees_by_halves i u s (λ z. q) (a (s / 2) h),
    )

starts_unknown : (k i u : ℕ) → u % 2 ≡ 1 → Starts k (i / 2) (u / 2) → Starts (suc k) i u
unfolding ones_in
starts_unknown k i u o (ss, d, n, a) =
    let none : 0 ≤ 1 = omega arith in
    let one : 1 ≤ 1 = omega arith in
    let on = put 1 ss [] in
    let e : u % 2 + ones_in k (u / 2) ≡ suc (ones_in k (u / 2)) = omega arith in (
      put 0 ss on,
      put_distinct 0 none ss on d (put_distinct 1 one ss [] d distinct_none (λ y m q. member_none y m))
          (λ y m q. omega (arith, (put_alone 1 one ss y m).0)),
      omega (arith, length_put 0 ss on, length_put 1 ss [], ap (λ (x : ℕ). 2 ^ x) e, pow-suc 2 (ones_in k (u / 2))),
      λ s m. elim (put_cases 0 none ss on s m) [
        | inl h ↦ agrees_unknown i u s o (a (s / 2) h.1)
        | inr j ↦ agrees_unknown i u s o (a (s / 2) (put_alone 1 one ss s j).1)
      ],
    )

starts : (k i u : ℕ) → Starts k i u
unfolding ones_in
starts zero i u = (
  i ∷ [],
  distinct_more i [] (not_of (member i []) (member_none i)) distinct_none,
  refl,
  λ s m f z. elim (member_cases s i [] m) [ inl e ↦ ap (bit f) e | inr k ↦ absurd (member_none s k) ],
)
starts (suc k) i u =
    elim (dec_lt 0 (u % 2)) [
      | yes o ↦ starts_unknown k i u (omega arith) (starts k (i / 2) (u / 2))
      | no o ↦ starts_known k i u (omega arith) (starts k (i / 2) (u / 2))
    ]

-- ---- the initial states

-- these are different ones; with unknown facts above the first 64 there are more
pub initial_states : (t : Task)
    → (ss : List ℕ) × T (distinct ss) × (length ss ≡ 2 ^ ones_in 64 t.unknown) × ((s : ℕ) → T (member s ss) → T (is_init t s))
unfolding ends_of
initial_states t =
    let r = starts 64 t.init t.unknown in
    (r.0, r.1, r.2, λ s m. subst T (sym (init_ends t s)) (at_init_of (ends_of t) s (r.3 s m)))

pub few_unknown_facts : (t : Task) (k : ℕ) → AtMostReachable (2 ^ k) t → ones_in 64 t.unknown ≤ k
few_unknown_facts t k h =
    let (ss, d, e, init) = initial_states t in
    let l : length ss ≤ 2 ^ k = h ss d (λ s m. reach_init t s (init s m)) in
    elim (dec_lt k (ones_in 64 t.unknown)) [ yes g ↦ absurd (omega (arith, pow-lt g)) | no g ↦ omega arith ]

-- ---- a list that holds every state within reach bounds how many there are

pub no_more : (t : Task) (ss : List ℕ) → ((s : ℕ) → Reachable t s → T (member s ss)) → AtMostReachable (length ss) t
no_more t ss h xs d r = not_longer xs ss d (λ x m. h x (r x m))

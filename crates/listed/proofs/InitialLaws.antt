-- The initial states in which an action applies: each is `top` less a mask of unknown facts that the action keeps and a mask of unknown
-- facts that it changes, of those that it does not need. And how the masks within a mask are passed, one after the other.
-- Assumes nothing.
use mathlib.Core.Path.{◌≡◌, subst, sym, ap, ap₂, ◌∙◌}
use Prim.Native.Nat.{ℕ, ◌+◌, ◌-◌, ◌^◌, ◌≤◌, ◌<◌, min, max}
use native.Mathlib.Omega.{arith}
use native.Mathlib.Decide.{dec_lt}
use native.Mathlib.Nat.{lt_of_le_of_lt}
use lib.Bits.{bit_and, bit_or, and_le_l, or_lt}
use lib.Dec.{T, eqb→eq}
use Rattle.task.specs.declared.Action.{Action}
use Rattle.task.specs.declared.Ends.{Ends}
use Rattle.task.specs.Facts.{all_on, without}
use Rattle.task.specs.Task.{applies, after}
use Rattle.task.specs.Inner.{bit, at_init}
use Rattle.task.proofs.Bits.{bit_le, bit_and_lem, bit_or_lem, bit_without, without_and, without_lt, same_bits, all_on_at, all_on_of}
use Rattle.task.proofs.Bits.{add_wins, del_last, fact_stays}
use Rattle.task.proofs.Names.{at_init_facts, at_init_of, applies_facts, applies_of}
use Rattle.task.proofs.Submasks.{below_next, bit_less, init_to}
use Rattle.listed.specs.Search.{Passed, unneeded, Split}

-- ---- from one mask to the next

pub self_within : (u : ℕ) → T (all_on u u)
self_within u = all_on_of u u (λ f. omega arith)

within_le : (d u : ℕ) → T (all_on d u) → d ≤ u
unfolding all_on
within_le d u h = omega (arith, eqb→eq (bit_and u d) d h, and_le_l u d)

within_within : (d u s : ℕ) → T (all_on d u) → T (all_on u s) → T (all_on d s)
within_within d u s h k = all_on_of d s (λ f. omega (arith, all_on_at d u h f, all_on_at u s k f))

pub less_le : (d u s : ℕ) → T (all_on d u) → T (all_on u s) → d ≤ s
less_le d u s h k = within_le d s (within_within d u s h k)

-- what is taken away and what is left
bit_left : (f s d : ℕ) → T (all_on d s) → bit f (s - d) + bit f d ≡ bit f s
bit_left f s d h = omega (arith, bit_less f s d h, all_on_at d s h f, bit_le f s)

module _ (s u : ℕ) (Q : ℕ → Type 0) where
  pub none_passed : (d : ℕ) → Passed s u Q d d
  none_passed d e w l m = absurd (omega arith)

  pub passed_next : (from d : ℕ) → T (all_on d u) → Passed s u Q from d → Q (s - d) → Passed s u Q from (bit_and (d - 1) u)
  passed_next from d h p q e w l m =
      elim (dec_lt d e) [
        | yes n ↦ p e w n m
        | no n ↦ elim (dec_lt e d) [
          | yes k ↦ absurd (omega (arith, below_next u d e h w k))
          | no k ↦ let i : d ≡ e = omega arith in subst (λ (x : ℕ). Q (s - x)) i q
        ]
      ]

  -- each of them was passed, once the last was
  pub passed_all : (from d : ℕ) → d ≡ 0 → Passed s u Q from d → Q (s - d) → (e : ℕ) → T (all_on e u) → e ≤ from → Q (s - e)
  passed_all from d z p q e w l =
      elim (dec_lt d e) [
        | yes n ↦ p e w n l
        | no n ↦ let i : d ≡ e = omega arith in subst (λ (x : ℕ). Q (s - x)) i q
      ]

  pub passed_each : (d : ℕ) → d ≡ 0 → Passed s u Q u d → Q (s - d) → (e : ℕ) → T (all_on e u) → Q (s - e)
  passed_each d z p q e w = passed_all u d z p q e w (within_le e u w)

  -- each of them is so, those above d and the others
  pub passed_rest : (d : ℕ) → Passed s u Q u d → ((e : ℕ) → T (all_on e u) → e ≤ d → Q (s - e)) → (e : ℕ) → T (all_on e u) → Q (s - e)
  passed_rest d p q e w =
      elim (dec_lt d e) [
        | yes n ↦ p e w n (within_le e u w)
        | no n ↦ q e w (omega arith)
      ]

  -- those down to d, and from there down to r
  pub passed_on : (from d r : ℕ) → Passed s u Q from d → Passed s u Q d r → Passed s u Q from r
  passed_on from d r p q e w l m =
      elim (dec_lt d e) [
        | yes n ↦ p e w n m
        | no n ↦ q e w l (omega arith)
      ]

-- ---- the initial states

pub initial_low : (ends : Ends) (s : ℕ) → (ends.init < 2 ^ ends.facts) × (ends.unknown < 2 ^ ends.facts) → T (at_init ends s)
    → s < 2 ^ ends.facts
initial_low ends s l h = omega (arith, (init_to ends s h).0, or_lt ends.facts ends.init ends.unknown l.0 l.1)

-- ---- where an action leads

-- facts that it changes are the same afterwards, whatever they were
after_same : (a : Action) (s t f : ℕ) → (bit f a.add + bit f a.del ≡ 0 → bit f s ≡ bit f t) → bit f (after a s) ≡ bit f (after a t)
after_same a s t f h =
    elim (dec_lt 0 (bit f a.add)) [
      | yes l ↦ let e : bit f a.add ≡ 1 = omega (arith, bit_le f a.add) in add_wins a s f e ∙ sym (add_wins a t f e)
      | no l ↦ let z : bit f a.add ≡ 0 = omega arith in elim (dec_lt 0 (bit f a.del)) [
        | yes m ↦ let e : bit f a.del ≡ 1 = omega (arith, bit_le f a.del) in del_last a s f e z ∙ sym (del_last a t f e z)
        | no m ↦ let w : bit f a.del ≡ 0 = omega arith in fact_stays a s f w z ∙ h (omega arith) ∙ sym (fact_stays a t f w z)
      ]
    ]

-- ---- the masks

-- as the code works them out
module _ (ends : Ends) (a : Action) (i : ends.init < 2 ^ 64) (u : ends.unknown < 2 ^ 64) (p : a.pre < 2 ^ 64) (o : a.off < 2 ^ 64)
    (ad : a.add < 2 ^ 64) (de : a.del < 2 ^ 64) where
  abbrev needed : ℕ
  needed = bit_or a.pre a.off

  abbrev effects : ℕ
  effects = bit_or a.add a.del

  unneeded_code : bit_and ends.unknown (2 ^ 64 - 1 - needed) ≡ unneeded ends a
  unneeded_code = without_and 64 ends.unknown needed u (or_lt 64 a.pre a.off p o)

  pub split_code : Split ends a (bit_and (bit_or ends.init ends.unknown) (2 ^ 64 - 1 - bit_and a.off ends.unknown))
      (bit_and (bit_and ends.unknown (2 ^ 64 - 1 - needed)) (2 ^ 64 - 1 - effects))
      (bit_and (bit_and ends.unknown (2 ^ 64 - 1 - needed)) effects)
  split_code = (
    without_and 64 (bit_or ends.init ends.unknown) (bit_and a.off ends.unknown) (or_lt 64 ends.init ends.unknown i u)
        (lt_of_le_of_lt (and_le_l a.off ends.unknown) o),
    ap (λ (x : ℕ). bit_and x (2 ^ 64 - 1 - effects)) unneeded_code
        ∙ without_and 64 (unneeded ends a) effects (without_lt 64 ends.unknown needed u) (or_lt 64 a.add a.del ad de),
    ap (λ (x : ℕ). bit_and x effects) unneeded_code,
  )

-- fact by fact: an unknown fact is on in top or needed off, one that is known is as it is in the start; and an unknown fact is kept,
-- changed or needed
abbrev Parted : Ends → Action → ℕ → ℕ → ℕ → ℕ → Type 0
Parted ends a top kept changed f =
    (bit f ends.init ≤ bit f top + bit f ends.unknown) × (bit f top ≤ bit f ends.init + bit f ends.unknown)
    × (bit f ends.unknown ≤ bit f top + bit f a.off) × (bit f ends.unknown + (bit f top + bit f a.off) ≤ 2)
    × (bit f kept + bit f changed ≤ bit f ends.unknown)
    × (bit f ends.unknown ≤ bit f kept + bit f changed + (bit f a.pre + bit f a.off))
    × (bit f kept + bit f changed + bit f a.pre ≤ 1) × (bit f kept + bit f changed + bit f a.off ≤ 1)
    × (bit f changed ≤ bit f a.add + bit f a.del)

module _ (ends : Ends) (a : Action) (top kept changed : ℕ) (split : Split ends a top kept changed) (f : ℕ) where
  bit_top : bit f top ≡ min (max (bit f ends.init) (bit f ends.unknown)) (1 - min (bit f a.off) (bit f ends.unknown))
  bit_top =
      ap (bit f) split.0
      ∙ bit_without f (bit_or ends.init ends.unknown) (bit_and a.off ends.unknown)
      ∙ ap₂ (λ (x y : ℕ). min x (1 - y)) (bit_or_lem f ends.init ends.unknown) (bit_and_lem f a.off ends.unknown)

  bit_unneeded : bit f (unneeded ends a) ≡ min (bit f ends.unknown) (1 - max (bit f a.pre) (bit f a.off))
  bit_unneeded =
      bit_without f ends.unknown (bit_or a.pre a.off)
      ∙ ap (λ (x : ℕ). min (bit f ends.unknown) (1 - x)) (bit_or_lem f a.pre a.off)

  bit_changed : bit f changed ≡ min (bit f (unneeded ends a)) (bit f (bit_or a.add a.del))
  bit_changed = ap (bit f) split.2 ∙ bit_and_lem f (unneeded ends a) (bit_or a.add a.del)

  apart : bit f kept + bit f changed ≡ bit f (unneeded ends a)
  apart =
      let e = ap (bit f) split.1 ∙ bit_without f (unneeded ends a) (bit_or a.add a.del) in
      omega (arith, bit_changed, bit_le f (unneeded ends a), bit_le f (bit_or a.add a.del))

  parted : Parted ends a top kept changed f
  parted = (
    omega (arith, bit_top, bit_le f ends.init),
    omega (arith, bit_top),
    omega (arith, bit_top, bit_le f ends.unknown),
    omega (arith, bit_top, bit_le f ends.unknown, bit_le f a.off),
    omega (arith, apart, bit_unneeded),
    omega (arith, apart, bit_unneeded, bit_le f ends.unknown),
    omega (arith, apart, bit_unneeded, bit_le f a.pre),
    omega (arith, apart, bit_unneeded, bit_le f a.off),
    omega (arith, bit_changed, bit_or_lem f a.add a.del),
  )

-- ---- the states that are tried

module _ (ends : Ends) (a : Action) (top kept changed : ℕ) (split : Split ends a top kept changed) where
  facts : (f : ℕ) → Parted ends a top kept changed f
  facts = parted ends a top kept changed split

  pub kept_within : T (all_on kept top)
  kept_within = all_on_of kept top (λ f. let (i, j, k, l, m, n, o, p, q) = facts f in omega arith)

  pub top_applies : (s : ℕ) → T (at_init ends s) → T (applies a s) → T (applies a top)
  top_applies s i h =
      applies_of a top (λ f.
      let (j, k, l, m, n, o, p, q, r) = facts f in
      let (t, u) = applies_facts a s h f in
      elim (dec_lt 0 (bit f ends.unknown)) [
        | yes z ↦ (omega (arith, bit_le f s), omega arith)
        | no z ↦ let e = at_init_facts ends s i f (omega arith) in (omega arith, omega arith)
      ])

  module _ (d : ℕ) (h : T (all_on d kept)) where
    bit_kept : (f : ℕ) → bit f (top - d) + bit f d ≡ bit f top
    bit_kept f = bit_left f top d (within_within d kept top h kept_within)

    pub changed_within : T (all_on changed (top - d))
    changed_within =
        all_on_of changed (top - d) (λ f.
        let (i, j, k, l, m, n, o, p, q) = facts f in omega (arith, bit_kept f, all_on_at d kept h f))

    module _ (e : ℕ) (k : T (all_on e changed)) where
      bit_tried : (f : ℕ) → bit f (top - d - e) + bit f e ≡ bit f (top - d)
      bit_tried f = bit_left f (top - d) e (within_within e changed (top - d) k changed_within)

      pub tried_initial : T (at_init ends (top - d - e))
      tried_initial =
          at_init_of ends (top - d - e) (λ f z.
          let (i, j, l, m, n, o, p, q, r) = facts f in
          omega (arith, bit_tried f, bit_kept f, all_on_at d kept h f, all_on_at e changed k f))

      pub tried_applies : T (applies a top) → T (applies a (top - d - e))
      tried_applies g =
          applies_of a (top - d - e) (λ f.
          let (i, j, l, m, n, o, p, q, r) = facts f in
          let (t, u) = applies_facts a top g f in
          (omega (arith, bit_tried f, bit_kept f, all_on_at d kept h f, all_on_at e changed k f), omega (arith, bit_tried f, bit_kept f)))

      pub tried_after : after a (top - d - e) ≡ after a (top - d)
      tried_after =
          same_bits (after a (top - d - e)) (after a (top - d)) (λ f. after_same a (top - d - e) (top - d) f (λ z.
          let (i, j, l, m, n, o, p, q, r) = facts f in omega (arith, bit_tried f, all_on_at e changed k f)))

  -- each initial state in which the action applies is tried
  module _ (s : ℕ) (i : T (at_init ends s)) (h : T (applies a s)) where
    missing : (m : ℕ) → T (all_on (without m s) m)
    missing m = all_on_of (without m s) m (λ f. omega (arith, bit_without f m s))

    found : top - without kept s - without changed s ≡ s
    found =
        same_bits _ s (λ f.
        let (j, k, l, m, n, o, p, q, r) = facts f in
        let (t, u) = applies_facts a s h f in
        let w = bit_tried (without kept s) (missing kept) (without changed s) (missing changed) f in
        let x = bit_kept (without kept s) (missing kept) f in
        elim (dec_lt 0 (bit f ends.unknown)) [
          | yes z ↦ omega (arith, bit_without f kept s, bit_without f changed s, bit_le f s)
          | no z ↦ omega (arith, at_init_facts ends s i f (omega arith), all_on_at _ _ (missing kept) f, all_on_at _ _ (missing changed) f)
        ])

    pub tried : (d : ℕ) × T (all_on d kept) × ((e : ℕ) × T (all_on e changed) × (top - d - e ≡ s))
    tried = (without kept s, missing kept, (without changed s, missing changed, found))

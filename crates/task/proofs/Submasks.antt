-- Masks within a mask, one after the other downwards: after x comes `bit_and (x - 1) u`, the next lower one within u.
-- With it the initial states of a task: each is the start with all unknown facts on, less a mask within the unknown facts.
-- Assumes nothing.
use mathlib.Core.Path.{◌≡◌, sym, ap, ◌∙◌}
use Prim.Native.Nat.{ℕ, ◌+◌, ◌-◌, ◌*◌, ◌/◌, ◌%◌, ◌≤◌, ◌<◌, min, max}
use native.Mathlib.Omega.{arith}
use native.Mathlib.Decide.{dec_lt}
use lib.Arith.{bin_ind}
use lib.Bits.{bit_and, bit_or, and_step, and_zero_l, and_comm, and_le_l}
use lib.Dec.{T, eqb→eq}
use Rattle.task.specs.Facts.{all_on, without}
use Rattle.task.specs.Inner.{bit, at_init}
use Rattle.task.specs.declared.Ends.{Ends}
use Rattle.task.proofs.Bits.{bit_le, bit_and_lem, bit_or_lem, bit_without, all_on_at, all_on_of}
use Rattle.task.proofs.Names.{at_init_facts, at_init_of}

all_on_and : (m s : ℕ) → T (all_on m s) → bit_and s m ≡ m
unfolding all_on
all_on_and m s h = eqb→eq (bit_and s m) m h

-- ---- the next lower mask

pub below_within : (u x : ℕ) → T (all_on (bit_and (x - 1) u) u)
below_within u x = all_on_of (bit_and (x - 1) u) u (λ f. omega (arith, bit_and_lem f (x - 1) u))

pub below_less : (u x : ℕ) → 0 < x → bit_and (x - 1) u < x
below_less u x h = omega (arith, and_le_l (x - 1) u)

-- by halves: where x is odd, its half stays; where x is even, the next below its half stands there
below_odd : (u x : ℕ) → x % 2 ≡ 1 → bit_and (x - 1) u ≡ bit_and (u / 2) (x / 2) * 2
below_odd u x o =
    let e : (x - 1) / 2 ≡ x / 2 = omega arith in
    let f = ap (λ (z : ℕ). bit_and z (u / 2)) e ∙ and_comm (x / 2) (u / 2) in
    omega (arith, and_step (x - 1) u)

below_even : (u x : ℕ) → 0 < x → x % 2 ≡ 0 → bit_and (x - 1) u ≡ bit_and (x / 2 - 1) (u / 2) * 2 + u % 2
below_even u x h o =
    let e : (x - 1) / 2 ≡ x / 2 - 1 = omega arith in
    let f = ap (λ (z : ℕ). bit_and z (u / 2)) e in
    omega (arith, and_step (x - 1) u)

-- no mask within u lies between it and x
next_by_halves : (u x y : ℕ) → bit_and u x ≡ x → bit_and u y ≡ y → y < x → y ≤ bit_and (x - 1) u
next_by_halves =
    bin_ind (λ (u : ℕ). (x y : ℕ) → bit_and u x ≡ x → bit_and u y ≡ y → y < x → y ≤ bit_and (x - 1) u)
    (λ x y h k l. omega (arith, and_zero_l x))
    (λ u ih x y h k l. elim (dec_lt 0 (x % 2)) [
      | yes o ↦ omega (arith, and_step u x, below_odd u x (omega arith))
      | no o ↦ let i = ih (x / 2) (y / 2) (omega (arith, and_step u x)) (omega (arith, and_step u y)) (omega arith) in
          omega (arith, and_step u y, below_even u x (omega arith) (omega arith))
    ])

pub below_next : (u x y : ℕ) → T (all_on x u) → T (all_on y u) → y < x → y ≤ bit_and (x - 1) u
below_next u x y h k l = next_by_halves u x y (all_on_and x u h) (all_on_and y u k) l

-- ---- a mask less one within it

less_is : (s c : ℕ) → T (all_on c s) → without s c ≡ s - c
unfolding without
less_is s c h = ap (λ (x : ℕ). s - x) (all_on_and c s h)

pub bit_less : (f s c : ℕ) → T (all_on c s) → bit f (s - c) ≡ min (bit f s) (1 - bit f c)
bit_less f s c h = ap (bit f) (sym (less_is s c h)) ∙ bit_without f s c

-- ---- the initial states

-- the start with all unknown facts on
abbrev top : Ends → ℕ
top e = bit_or e.init e.unknown

bit_top : (e : Ends) (f : ℕ) → bit f (top e) ≡ max (bit f e.init) (bit f e.unknown)
bit_top e f = bit_or_lem f e.init e.unknown

unknown_within : (e : Ends) (d : ℕ) → T (all_on d e.unknown) → T (all_on d (top e))
unknown_within e d h = all_on_of d (top e) (λ f. omega (arith, all_on_at d e.unknown h f, bit_top e f))

init_within : (e : Ends) (s : ℕ) → T (at_init e s) → T (all_on s (top e))
init_within e s h =
    all_on_of s (top e) (λ f. elim (dec_lt 0 (bit f e.unknown)) [
      | yes l ↦ omega (arith, bit_top e f, bit_le f s)
      | no l ↦ omega (arith, bit_top e f, at_init_facts e s h f (omega arith))
    ])

pub init_from : (e : Ends) (d : ℕ) → T (all_on d e.unknown) → T (at_init e (bit_or e.init e.unknown - d))
init_from e d h =
    at_init_of e (top e - d) (λ f z.
    omega (arith, bit_less f (top e) d (unknown_within e d h), bit_top e f, all_on_at d e.unknown h f, bit_le f e.init))

pub init_to : (e : Ends) (s : ℕ) → T (at_init e s)
    → (s ≤ bit_or e.init e.unknown) × T (all_on (bit_or e.init e.unknown - s) e.unknown)
init_to e s h =
    let w = init_within e s h in (
      omega (arith, all_on_and s (top e) w, and_le_l (top e) s),
      all_on_of (top e - s) e.unknown (λ f. elim (dec_lt 0 (bit f e.unknown)) [
        | yes l ↦ omega (arith, bit_le f (top e - s))
        | no l ↦ omega (arith, bit_less f (top e) s w, bit_top e f, at_init_facts e s h f (omega arith))
      ]),
    )

-- Masks fact by fact: what the operations on masks do to each fact, and masks with the same facts are one number.
-- Assumes nothing.
use Prim.Native.Nat.{ℕ, zero, suc, ◌+◌, ◌-◌, ◌*◌, ◌/◌, ◌%◌, ◌^◌, ◌≤◌, ◌<◌, min, max}
use mathlib.Core.Bool.{◌&&◌}
use mathlib.Core.Path.{◌≡◌, refl, sym, ap, ap₂, ◌∙◌}
use native.Mathlib.Omega.{arith}
use native.Mathlib.Decide.{dec_lt}
use native.Mathlib.Nat.{div-one, div-div-eq-div-mul, pow-suc, mul_comm, zero-div, div-eq_of_lt, lt_of_le_of_lt, sub-le, min-eq_right}
use lib.Arith.{bin_ind, lt-one}
use lib.Pow.{pow_mono}
use lib.Bits.{bit_and, bit_or, and_step, or_step, and_shr, or_shr, or_lt, and_le_l}
use lib.Count.{ones, ones_step}
use lib.Dec.{T, eqb, eqb→eq}
use Rattle.task.specs.Facts.{all_on, all_off, without, ones_in}
use Rattle.task.specs.Task.{after}
use Rattle.task.specs.Inner.{bit}
use Rattle.task.specs.declared.Action.{Action}
use Rattle.task.proofs.Tests.{and_left, and_right, and_both, both_ways, same}

pub bit_le : (f m : ℕ) → bit f m ≤ 1
unfolding bit
bit_le f m = omega arith

and_low : (x y : ℕ) → bit_and x y % 2 ≡ min (x % 2) (y % 2)
and_low x y = omega (arith, and_step x y)

or_low : (x y : ℕ) → bit_or x y % 2 ≡ max (x % 2) (y % 2)
or_low x y = omega (arith, or_step x y)

pub bit_and_lem : (f a b : ℕ) → bit f (bit_and a b) ≡ min (bit f a) (bit f b)
unfolding bit
bit_and_lem f a b = ap (λ (x : ℕ). x % 2) (and_shr a b f) ∙ and_low (a / 2 ^ f) (b / 2 ^ f)

pub bit_or_lem : (f a b : ℕ) → bit f (bit_or a b) ≡ max (bit f a) (bit f b)
unfolding bit
bit_or_lem f a b = ap (λ (x : ℕ). x % 2) (or_shr a b f) ∙ or_low (a / 2 ^ f) (b / 2 ^ f)

pub bit_none : (f : ℕ) → bit f 0 ≡ 0
unfolding bit
bit_none f = ap (λ (x : ℕ). x % 2) (zero-div (2 ^ f))

-- fact 0 is the lowest digit, and fact f + 1 of m is fact f of m / 2
pub bit_zero : (m : ℕ) → bit 0 m ≡ m % 2
unfolding bit
bit_zero m = ap (λ (x : ℕ). x % 2) (div-one m)

pub bit_suc : (f m : ℕ) → bit (suc f) m ≡ bit f (m / 2)
unfolding bit
bit_suc f m = ap (λ (x : ℕ). x % 2) (ap (λ (x : ℕ). m / x) (pow-suc 2 f ∙ mul_comm (2 ^ f) 2) ∙ sym (div-div-eq-div-mul m 2 (2 ^ f)))

-- a number below 2 ^ k has no fact k or above
pub bit_high : (k f m : ℕ) → m < 2 ^ k → k ≤ f → bit f m ≡ 0
unfolding bit
bit_high k f m h l = ap (λ (x : ℕ). x % 2) (div-eq_of_lt (omega (arith, pow_mono l)))

-- the complement within k facts
pub bit_not : (k f m : ℕ) → m < 2 ^ k → f < k → bit f (2 ^ k - 1 - m) ≡ 1 - bit f m
bit_not zero f m h l = omega arith
bit_not (suc k) zero m h l = omega (arith, bit_zero (2 ^ suc k - 1 - m), bit_zero m, pow-suc 2 k)
bit_not (suc k) (suc f) m h l =
    bit_suc f (2 ^ suc k - 1 - m)
    ∙ ap (bit f) (omega (arith, pow-suc 2 k))
    ∙ bit_not k f (m / 2) (omega (arith, pow-suc 2 k)) (omega arith)
    ∙ ap (λ (x : ℕ). 1 - x) (sym (bit_suc f m))

-- masks with the same facts are one number
pub same_bits : (a b : ℕ) → ((f : ℕ) → bit f a ≡ bit f b) → a ≡ b
same_bits =
    bin_ind (λ (a : ℕ). (b : ℕ) → ((f : ℕ) → bit f a ≡ bit f b) → a ≡ b)
    (bin_ind (λ (b : ℕ). ((f : ℕ) → bit f 0 ≡ bit f b) → 0 ≡ b) (λ h. refl)
    (λ b ih h. omega (arith, bit_zero b, h 0, bit_none 0, ih (λ f. bit_none f ∙ sym (bit_none (suc f)) ∙ h (suc f) ∙ bit_suc f b))))
    (λ a ih b h. omega (arith, bit_zero a, bit_zero b, h 0, ih (b / 2) (λ f. sym (bit_suc f a) ∙ h (suc f) ∙ bit_suc f b)))

-- a mask that has no fact is 0, and one that is not 0 has a fact
pub no_bits : (a : ℕ) → ((f : ℕ) → bit f a ≡ 0) → a ≡ 0
no_bits a h = same_bits a 0 (λ f. h f ∙ sym (bit_none f))

pub some_bit : (m : ℕ) → 0 < m → (f : ℕ) × (bit f m ≡ 1)
some_bit =
    bin_ind (λ (n : ℕ). 0 < n → (f : ℕ) × (bit f n ≡ 1)) (λ h. absurd (omega arith))
    (λ n ih h. elim (dec_lt 0 (n / 2)) [
      | yes l ↦ let r = ih l in (suc r.0, bit_suc r.0 n ∙ r.1)
      | no l ↦ (0, omega (arith, bit_zero n))
    ])

-- ---- s without the facts of c

without_step : (s c : ℕ) → without s c ≡ without (s / 2) (c / 2) * 2 + min (s % 2) (1 - c % 2)
unfolding without
without_step s c = omega (arith, and_step s c, and_le_l (s / 2) (c / 2))

pub bit_without : (f s c : ℕ) → bit f (without s c) ≡ min (bit f s) (1 - bit f c)
bit_without zero s c = omega (arith, bit_zero (without s c), bit_zero s, bit_zero c, without_step s c)
bit_without (suc f) s c =
    let e : without s c / 2 ≡ without (s / 2) (c / 2) = omega (arith, without_step s c) in
    bit_suc f (without s c) ∙ ap (bit f) e ∙ bit_without f (s / 2) (c / 2)
    ∙ ap₂ (λ (x y : ℕ). min x (1 - y)) (sym (bit_suc f s)) (sym (bit_suc f c))

pub without_le : (s c : ℕ) → without s c ≤ s
unfolding without
without_le s c = sub-le s (bit_and s c)

pub without_lt : (k s c : ℕ) → s < 2 ^ k → without s c < 2 ^ k
without_lt k s c h = lt_of_le_of_lt (without_le s c) h

-- in code it is s & !c, among k facts
pub without_and : (k s c : ℕ) → s < 2 ^ k → c < 2 ^ k → bit_and s (2 ^ k - 1 - c) ≡ without s c
without_and k s c h l =
    same_bits _ _ (λ f. elim (dec_lt f k) [
      | yes m ↦ omega (arith, bit_and_lem f s (2 ^ k - 1 - c), bit_not k f c l m, bit_without f s c)
      | no m ↦ omega (arith, bit_and_lem f s (2 ^ k - 1 - c), bit_high k f s h (omega arith), bit_without f s c)
    ])

-- ---- how many facts a mask has: the ones of a word

pub ones_are : (k m : ℕ) → m < 2 ^ k → ones m ≡ ones_in k m
unfolding ones ones_in
ones_are zero m h = ap ones (lt-one h)
ones_are (suc k) m h = ones_step m ∙ ap (λ (x : ℕ). m % 2 + x) (ones_are k (m / 2) (omega (arith, pow-suc 2 k)))

-- ---- every fact of m is on in s

pub all_on_at : (m s : ℕ) → T (all_on m s) → (f : ℕ) → bit f m ≤ bit f s
unfolding all_on
all_on_at m s t f = omega (arith, bit_and_lem f s m, ap (bit f) (eqb→eq (bit_and s m) m t))

pub all_on_of : (m s : ℕ) → ((f : ℕ) → bit f m ≤ bit f s) → T (all_on m s)
unfolding all_on
all_on_of m s h = same (same_bits (bit_and s m) m (λ f. bit_and_lem f s m ∙ min-eq_right (h f)))

-- ---- every fact of `on` is on in s, and every fact of `off` is off

-- fact f is so
abbrev pub AsTold : ℕ → ℕ → ℕ → ℕ → Type 0
AsTold on off s f = (bit f on ≤ bit f s) × (bit f off + bit f s ≤ 1)

all_off_at : (m s : ℕ) → T (all_off m s) → (f : ℕ) → bit f m + bit f s ≤ 1
unfolding all_off
all_off_at m s t f =
    let e = ap (bit f) (eqb→eq (bit_and s m) 0 t) in omega (arith, bit_and_lem f s m, bit_none f, bit_le f m, bit_le f s)

all_off_of : (m s : ℕ) → ((f : ℕ) → bit f m + bit f s ≤ 1) → T (all_off m s)
unfolding all_off
all_off_of m s h = same (no_bits (bit_and s m) (λ f. omega (arith, bit_and_lem f s m, h f)))

module _ (on off s : ℕ) where
  pub told_facts : T (all_on on s && all_off off s) → (f : ℕ) → AsTold on off s f
  told_facts t f =
      (all_on_at on s (and_left (all_on on s) (all_off off s) t) f, all_off_at off s (and_right (all_on on s) (all_off off s) t) f)

  pub told_of : ((f : ℕ) → AsTold on off s f) → T (all_on on s && all_off off s)
  told_of h = and_both (all_on on s) (all_off off s) (all_on_of on s (λ f. (h f).0)) (all_off_of off s (λ f. (h f).1))

  -- no state is so where a fact is in both
  pub told_never : 0 < bit_and on off → T (all_on on s && all_off off s) → ⊥
  told_never l t =
      let w = some_bit (bit_and on off) l in
      let k = told_facts t w.0 in
      omega (arith, w.1, bit_and_lem w.0 on off, k.0, k.1, bit_le w.0 on, bit_le w.0 off)

  -- where none is, one look at the facts of both tells
  pub told_at_once : bit_and on off ≡ 0 → eqb (bit_and s (bit_or on off)) on ≡ (all_on on s && all_off off s)
  told_at_once z =
      both_ways _ _ (λ t. told_of (λ f. to f (ap (bit f) (eqb→eq _ on t)))) (λ t. same (same_bits _ on (λ f. from f (told_facts t f))))
    where
      apart : (f : ℕ) → min (bit f on) (bit f off) ≡ 0
      apart f = sym (bit_and_lem f on off) ∙ ap (bit f) z ∙ bit_none f

      seen : (f : ℕ) → bit f (bit_and s (bit_or on off)) ≡ min (bit f s) (max (bit f on) (bit f off))
      seen f = bit_and_lem f s (bit_or on off) ∙ ap (min (bit f s)) (bit_or_lem f on off)

      to : (f : ℕ) → bit f (bit_and s (bit_or on off)) ≡ bit f on → AsTold on off s f
      to f e = (omega (arith, seen f, e, bit_le f off), omega (arith, seen f, e, apart f, bit_le f off, bit_le f s))

      from : (f : ℕ) → AsTold on off s f → bit f (bit_and s (bit_or on off)) ≡ bit f on
      from f k = omega (arith, seen f, k.0, k.1, apart f, bit_le f s, bit_le f on, bit_le f off)

-- ---- the state after an action

pub bit_after : (a : Action) (s f : ℕ) → bit f (after a s) ≡ max (min (bit f s) (1 - bit f a.del)) (bit f a.add)
unfolding after
bit_after a s f = bit_or_lem f _ a.add ∙ ap (λ (x : ℕ). max x (bit f a.add)) (bit_without f s a.del)

-- in code it is s & !del | add, among k facts
pub after_code : (k : ℕ) (a : Action) (s : ℕ) → s < 2 ^ k → a.del < 2 ^ k → bit_or (bit_and s (2 ^ k - 1 - a.del)) a.add ≡ after a s
unfolding after
after_code k a s h l = ap (λ (x : ℕ). bit_or x a.add) (without_and k s a.del h l)

pub after_lt : (k : ℕ) (a : Action) (s : ℕ) → s < 2 ^ k → a.add < 2 ^ k → after a s < 2 ^ k
unfolding after
after_lt k a s h l = or_lt k (without s a.del) a.add (without_lt k s a.del h) l

-- a fact that is added is on afterwards, deleted or not
pub add_wins : (a : Action) (s f : ℕ) → bit f a.add ≡ 1 → bit f (after a s) ≡ 1
add_wins a s f e = omega (arith, bit_after a s f)

-- a fact that is deleted and not added is off afterwards
pub del_last : (a : Action) (s f : ℕ) → bit f a.del ≡ 1 → bit f a.add ≡ 0 → bit f (after a s) ≡ 0
del_last a s f e d = omega (arith, bit_after a s f)

-- a fact that is neither added nor deleted is as it was
pub fact_stays : (a : Action) (s f : ℕ) → bit f a.del ≡ 0 → bit f a.add ≡ 0 → bit f (after a s) ≡ bit f s
fact_stays a s f e d = omega (arith, bit_after a s f, bit_le f s)

-- an action that neither adds nor deletes a fact leaves the state as it is
pub no_change : (a : Action) (s : ℕ) → bit_or a.add a.del ≡ 0 → after a s ≡ s
no_change a s z =
    same_bits (after a s) s (λ f.
    let e = ap (bit f) z in omega (arith, bit_after a s f, bit_or_lem f a.add a.del, bit_none f, bit_le f s))

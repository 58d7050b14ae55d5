-- Numbers whose bytes are turned: two have a bit in common just where they had one before.
-- Assumes nothing.
use mathlib.Core.Path.{◌≡◌, sym, ap₂, subst, ◌∙◌}
use mathlib.Core.Logic.{◌↔◌}
use Prim.Native.Nat.{ℕ, ◌+◌, ◌*◌, ◌/◌, ◌%◌, ◌<◌, ◌^◌}
use native.Mathlib.Omega.{arith}
use native.Mathlib.Nat.{mod-lt}
use lib.Bits.{bit_and, and_block}
use lib.Pow.{pow_pos, split}
use Rattle.std.specs.Int.{w64, swap_bytes}
use Rattle.turned.specs.Turned.{turned2, turned4, turned8}

-- two halves of k bits change places, and T is done to each
module _ (k : ℕ) (T : ℕ → ℕ) (room : (z : ℕ) → z < 2 ^ k → T z < 2 ^ k)
    (clear : (x y : ℕ) → x < 2 ^ k → y < 2 ^ k → (bit_and (T x) (T y) ≡ 0) ↔ (bit_and x y ≡ 0))
    (none : (a b : ℕ) → a * 2 ^ k + b ≡ 0 → (a ≡ 0) × (b ≡ 0)) (zero : 0 * 2 ^ k + 0 ≡ 0) where
  halves_clear : (x y : ℕ) → x / 2 ^ k < 2 ^ k → y / 2 ^ k < 2 ^ k
      → (bit_and (T (x % 2 ^ k) * 2 ^ k + T (x / 2 ^ k)) (T (y % 2 ^ k) * 2 ^ k + T (y / 2 ^ k)) ≡ 0) ↔ (bit_and x y ≡ 0)
  halves_clear x y hx hy =
      let lx = mod-lt x (pow_pos k) in
      let ly = mod-lt y (pow_pos k) in
      let turned = and_block k (T (x % 2 ^ k)) (T (y % 2 ^ k)) (T (x / 2 ^ k)) (T (y / 2 ^ k)) (room _ hx) (room _ hy) in
      let plain = ap₂ bit_and (sym (split x k)) (sym (split y k)) ∙ and_block k (x / 2 ^ k) (y / 2 ^ k) (x % 2 ^ k) (y % 2 ^ k) lx ly in (
        (λ e. let z = none _ _ (sym turned ∙ e) in plain
            ∙ ap₂ (λ (a b : ℕ). a * 2 ^ k + b) ((clear _ _ hx hy).0 z.1) ((clear _ _ lx ly).0 z.0) ∙ zero),
        (λ e. let z = none _ _ (sym plain ∙ e) in turned
            ∙ ap₂ (λ (a b : ℕ). a * 2 ^ k + b) ((clear _ _ lx ly).1 z.1) ((clear _ _ hx hy).1 z.0) ∙ zero),
      )

room2 : (z : ℕ) → z < 2 ^ 16 → turned2 z < 2 ^ 16
unfolding turned2
room2 z h = omega arith

room4 : (z : ℕ) → z < 2 ^ 32 → turned4 z < 2 ^ 32
unfolding turned4
room4 z h = omega (arith, room2 (z % 65536) (omega arith), room2 (z / 65536) (omega arith))

clear2 : (x y : ℕ) → x < 2 ^ 16 → y < 2 ^ 16 → (bit_and (turned2 x) (turned2 y) ≡ 0) ↔ (bit_and x y ≡ 0)
unfolding turned2
clear2 x y hx hy = halves_clear 8 (λ z. z) (λ z h. h) (λ a b h k. ((λ t. t), (λ t. t))) (λ a b t. (omega arith, omega arith))
    (omega arith) x y (omega arith) (omega arith)

clear4 : (x y : ℕ) → x < 2 ^ 32 → y < 2 ^ 32 → (bit_and (turned4 x) (turned4 y) ≡ 0) ↔ (bit_and x y ≡ 0)
unfolding turned4
clear4 x y hx hy = halves_clear 16 turned2 room2 clear2 (λ a b t. (omega arith, omega arith)) (omega arith) x y (omega arith) (omega arith)

-- turned numbers have a bit in common just where they had one before
pub clear8 : (x y : ℕ) → x < 2 ^ 64 → y < 2 ^ 64 → (bit_and (turned8 x) (turned8 y) ≡ 0) ↔ (bit_and x y ≡ 0)
unfolding turned8
clear8 x y hx hy = halves_clear 32 turned4 room4 clear4 (λ a b t. (omega arith, omega arith)) (omega arith) x y (omega arith) (omega arith)

-- ---- a number from its bytes, and std's word for a turned number

pub turn_eight : (a b n : ℕ) → b < 2 ^ 32 → n ≡ a * 4294967296 + b → turned4 b * 4294967296 + turned4 a ≡ turned8 n
unfolding turned8
turn_eight a b n hb e =
    let p : b ≡ n % 4294967296 = omega arith in
    let q : a ≡ n / 4294967296 = omega arith in
    ap₂ (λ (r s : ℕ). turned4 r * 4294967296 + turned4 s) p q

pub swap_turned : (n : ℕ) → n < 2 ^ 64 → swap_bytes w64 n ≡ turned8 n
unfolding turned8 turned4 turned2
swap_turned n h = omega arith

-- turned twice, a number is as it was
pub turned_twice : (n : ℕ) → n < 2 ^ 64 → turned8 (turned8 n) ≡ n
unfolding turned8 turned4 turned2
turned_twice n h = omega arith

turned_fits : (n : ℕ) → n < 2 ^ 64 → turned8 n < 2 ^ 64
unfolding turned8
turned_fits n h = omega (arith, room4 (n % 4294967296) (omega arith), room4 (n / 4294967296) (omega arith))

-- a turned number and a number have a bit in common just where the first and the second turned have one
pub turned_clear : (x y : ℕ) → x < 2 ^ 64 → y < 2 ^ 64 → (bit_and (turned8 x) y ≡ 0) ↔ (bit_and x (turned8 y) ≡ 0)
turned_clear x y hx hy =
    subst (λ (z : ℕ). (bit_and (turned8 x) z ≡ 0) ↔ (bit_and x (turned8 y) ≡ 0)) (turned_twice y hy)
    (clear8 x (turned8 y) hx (turned_fits y hy))

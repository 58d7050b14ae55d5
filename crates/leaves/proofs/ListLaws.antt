-- Lists of leaves by their indices in the array.
-- Assumes nothing.
use Prim.Native.Nat.{ℕ, zero, suc, ◌≤◌, ◌<◌}
use native.Mathlib.Nat.{not-suc-le-zero, le_of_suc-le-suc}
use native.Mathlib.Omega.{arith}
use mathlib.Core.List.{List, [], ◌∷◌}
use lib.ListN.{length}
use Rattle.leaves.specs.declared.Leaf.{Leaf}
use Rattle.leaves.specs.Leaves.{leaf_in, leaves_in}
use Rattle.leaves.specs.Lists.{Each}

module _ (P : Leaf → Type 0) where
  -- each of the first m leaves, by its number
  pub each_at : (leaves : List Leaf) (m : ℕ) → m ≤ length leaves → Each P (leaves_in leaves m) → (j : ℕ) → j < m → P (leaf_in leaves j)
  unfolding leaves_in leaf_in
  each_at leaves zero n h j l = absurd (not-suc-le-zero l)
  each_at [] (suc m) n h j l = absurd (not-suc-le-zero n)
  each_at (x ∷ xs) (suc m) n h zero l = h.0
  each_at (x ∷ xs) (suc m) n h (suc j) l = each_at xs m (le_of_suc-le-suc n) h.1 j (le_of_suc-le-suc l)

  pub each_of : (leaves : List Leaf) (m : ℕ) → m ≤ length leaves → ((j : ℕ) → j < m → P (leaf_in leaves j)) → Each P (leaves_in leaves m)
  unfolding leaves_in leaf_in
  each_of leaves zero n h = tt
  each_of [] (suc m) n h = absurd (not-suc-le-zero n)
  each_of (x ∷ xs) (suc m) n h = (h 0 (omega arith), each_of xs m (le_of_suc-le-suc n) (λ j l. h (suc j) (omega arith)))

-- what is so of each leaf, and makes it so in another way
pub each_turned : (P Q : Leaf → Type 0) → ((x : Leaf) → P x → Q x) → (xs : List Leaf) → Each P xs → Each Q xs
each_turned P Q t [] h = tt
each_turned P Q t (x ∷ xs) h = (t x h.0, each_turned P Q t xs h.1)

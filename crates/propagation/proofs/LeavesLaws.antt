-- Leaves by their places in the list.
-- Assumes nothing.
use Prim.Native.Nat.{ℕ, zero, suc, ◌<◌}
use native.Mathlib.Nat.{not-suc-le-zero, le_of_suc-le-suc}
use native.Mathlib.Omega.{arith}
use mathlib.Core.List.{List, [], ◌∷◌}
use lib.ListN.{length}
use Rattle.leaves.specs.declared.Leaf.{Leaf}
use Rattle.leaves.specs.Leaves.{leaf_in}
use Rattle.leaves.specs.Lists.{Each}

module _ (P : Leaf → Type 0) where
  pub each_in : (leaves : List Leaf) → Each P leaves → (j : ℕ) → j < length leaves → P (leaf_in leaves j)
  unfolding leaf_in
  each_in [] h j l = absurd (not-suc-le-zero l)
  each_in (x ∷ xs) h zero l = h.0
  each_in (x ∷ xs) h (suc j) l = each_in xs h.1 j (le_of_suc-le-suc l)

  pub each_from : (leaves : List Leaf) → ((j : ℕ) → j < length leaves → P (leaf_in leaves j)) → Each P leaves
  unfolding leaf_in
  each_from [] h = tt
  each_from (x ∷ xs) h = (h 0 (omega arith), each_from xs (λ j l. h (suc j) (omega arith)))

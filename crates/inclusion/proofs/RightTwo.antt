-- The search over clauses looks at two right leaves: those past the last are of the empty set, which holds nothing.
-- Assumes nothing.
use mathlib.Core.Path.{◌≡◌, sym, subst}
use mathlib.Core.Logic.{◌↔◌}
use Prim.Native.Nat.{ℕ, ◌≤◌}
use native.Mathlib.Omega.{arith}
use native.Mathlib.Decide.{dec_lt}
use mathlib.Core.Bool.{not}
use mathlib.Core.List.{List}
use lib.ListN.{length}
use lib.Dec.{T}
use Rattle.task.specs.declared.Action.{Action}
use Rattle.task.specs.declared.Ends.{Ends}
use Rattle.leaves.specs.declared.Leaf.{Leaf}
use Rattle.leaves.specs.Leaves.{no_leaf, leaf_in, leaves_in}
use Rattle.leaves.specs.Holds.{set_holds}
use Rattle.leaves.specs.Lists.{Each, leaf_holds, Countered}
use Rattle.leaves.proofs.ListLaws.{each_at, each_of}
use Rattle.propagation.specs.Clauses.{Unlisted}

module _ (right : List Leaf) (r : ℕ) (few : r ≤ 2) (room : 2 ≤ length right) (no_more : (j : ℕ) → r ≤ j → leaf_in right j ≡ no_leaf) where
  -- what is so of the leaf that 0 stands for is so of both where it is so of the first r
  pub both : (P : Leaf → Type 0) → P no_leaf → Each P (leaves_in right r) → Each P (leaves_in right 2)
  both P none h =
      each_of P right 2 room (λ j l. elim (dec_lt j r) [
        | yes m ↦ each_at P right r (omega arith) h j m
        | no m ↦ subst P (sym (no_more j (omega arith))) none
      ])

  pub first : (P : Leaf → Type 0) → Each P (leaves_in right 2) → Each P (leaves_in right r)
  first P h = each_of P right r (omega arith) (λ j l. each_at P right 2 room h j (omega arith))

  pub unlisted_both : Each Unlisted (leaves_in right r) → Each Unlisted (leaves_in right 2)
  unlisted_both = both Unlisted tt

  pub countered_both : (bytes : List ℕ) (ends : Ends) (a : Action) (left : List Leaf)
      → Countered bytes ends a left (leaves_in right 2) ↔ Countered bytes ends a left (leaves_in right r)
  unfolding leaf_holds set_holds
  countered_both bytes ends a left = (by 2 r (λ s. first (Fails s)), by r 2 (λ s. both (Fails s) tt))
    where
      Fails : ℕ → Leaf → Type 0
      Fails s x = T (not (leaf_holds bytes ends a s x))

      by : (k l : ℕ) → ((s : ℕ) → Each (Fails s) (leaves_in right k) → Each (Fails s) (leaves_in right l))
          → Countered bytes ends a left (leaves_in right k) → Countered bytes ends a left (leaves_in right l)
      by k l h w = record { state = w.state; low = w.low; allowed = w.allowed; holds = w.holds; fails = h w.state w.fails }

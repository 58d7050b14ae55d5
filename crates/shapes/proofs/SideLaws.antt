-- A statement's leaves in the two arrays.
-- Assumes nothing.
use mathlib.Core.Path.{◌∙◌}
use Prim.Native.Nat.{ℕ}
use native.Mathlib.Omega.{arith}
use mathlib.Core.Bool.{Bool, true, false, not}
use mathlib.Core.List.{List}
use Rattle.meaning.specs.File.{File}
use Rattle.parts.specs.declared.Parts.{Parts}
use Rattle.trees.specs.Trees.{list_of}
use Rattle.shapes.specs.Arrays.{picked, Put}
use Rattle.leaves.specs.declared.Leaf.{Leaf}
use Rattle.parts.specs.Written.{sides_in}
use Rattle.shapes.specs.Arrays.{picked_outside, picked_left, picked_right, Filled}
use Rattle.shapes.proofs.ArrayLaws.{put_append, put_bounds}

pub filled_by : (f : File) (index : List ℕ) (h : Bool) (p : Parts)
    → (l₀ l₁ l₂ l₃ r₀ r₁ r₂ : List Leaf) (a b c d e : ℕ)
    → Put index f (picked f false true h (list_of p.outer)) 0 l₀ l₁ a
    → Put index f (picked f true true h (list_of p.right)) a l₁ l₂ b
    → Put index f (picked f false true (not h) (list_of p.inner)) b l₂ l₃ c
    → Put index f (picked f false false h (list_of p.right)) 0 r₀ r₁ d
    → Put index f (picked f true false h (list_of p.outer)) d r₁ r₂ e
    → Filled f index h (sides_in p) l₀ l₃ r₀ r₂ (record { outside = b; left = c; right = e })
unfolding sides_in picked_outside picked_left picked_right
filled_by f index h p l₀ l₁ l₂ l₃ r₀ r₁ r₂ a b c d e u v w x y =
    let own = put_bounds f index false true h p.outer 0 a l₀ l₁ u in
    let moved = put_bounds f index true true h p.right a b l₁ l₂ v in
    let inner = put_bounds f index false true (not h) p.inner b c l₂ l₃ w in
    let some = put_bounds f index false false h p.right 0 d r₀ r₁ x in
    let others = put_bounds f index true false h p.outer d e r₁ r₂ y in
    let outside = put_append index f _ _ _ _ _ _ _ _ u v in
    record {
      outside = outside.count ∙ omega arith;
      on_left = put_append index f _ _ _ _ _ _ _ _ outside w;
      on_right = put_append index f _ _ _ _ _ _ _ _ x y;
      few = (
        inner.0,
        omega (arith, own.1, moved.1, inner.1, p.few_left, p.few_right),
        omega (arith, some.1, others.1, p.few_left, p.few_right),
      );
    }

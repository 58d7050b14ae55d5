-- One turn of each loop over a body's items, and its end.
-- Assumes nothing.
use mathlib.Core.Path.{◌≡◌, sym, ap, ◌∙◌}
use Prim.Native.Nat.{ℕ, suc, ◌+◌, ◌-◌, ◌≤◌, ◌<◌}
use mathlib.Core.List.{List}
use lib.ListN.{length}
use borrow.Author.Tests.{le-leb, lt-leb}
use Rattle.bodies.specs.declared.Form.{Form}
use Rattle.meaning.specs.declared.Fault.{Fault}
use Rattle.std.specs.declared.result.Result.TheVariants.{Err}
use Rattle.meaning.specs.Result.{Result, found}
use Rattle.meaning.specs.Layout.{ascending}
use Rattle.bodies.specs.Faults.{Answer, fault_from, form_body}
use Rattle.bodies.proofs.Faults.{At, Fine, forget, from_fine, from_refused, from_alike, from_stop, left_suc, ascending_next, ascending_low, ascending_end}

-- ---- numbers that ascend

-- the items from number i on, at place p, say what all of them say
abbrev pub AscendingLeft : (ℕ → Result ℕ) → ℕ → ℕ → ℕ → ℕ → ℕ → Type 0
AscendingLeft read size count low p i = forget (ascending read size low p (count - i)) ≡ forget (ascending read size 0 0 count)

module _ (read : ℕ → Result ℕ) (size count start : ℕ) where
  module _ (i low p : ℕ) (left : AscendingLeft read size count low p i) where
    pub numbers_end : count ≤ i → Fine ≡ fault_from start (ascending read size 0 0 count)
    numbers_end h = from_fine start (ascending read size 0 0 count) (sym left ∙ ascending_end read size count i low p h)

    module _ (h : i < count) where
      pub number_bad : {v w : Answer} {e : Fault} → v ≡ Err e → v ≡ fault_from start (read p) → w ≡ Err e
          → w ≡ fault_from start (ascending read size 0 0 count)
      unfolding ascending
      number_bad y f z =
          from_stop start (read p) _ y f z
          ∙ ap (λ (k : ℕ). fault_from start (ascending read size low p k)) (sym (left_suc count i h))
          ∙ from_alike start (ascending read size low p (count - i)) (ascending read size 0 0 count) left

      module _ {x : ℕ} (f : read p ≡ found x) where
        pub number_low : x < low → At 7 (start + p) ≡ fault_from start (ascending read size 0 0 count)
        number_low l =
            from_refused start (ascending read size 0 0 count) _ _ (sym left ∙ ascending_low read size count i low p h f (lt-leb low x l))

        pub number_next : (low' q : ℕ) → low ≤ x → p + size ≡ q → suc x ≡ low' → AscendingLeft read size count low' q (i + 1)
        number_next low' q l e e' =
            ap (λ (k : ℕ). forget (ascending read size k q (count - (i + 1)))) (sym e')
            ∙ sym (ascending_next read size count i low p q h e f (le-leb low x l))
            ∙ left

-- ---- a form that is known

module _ {f g : Form} (e : f ≡ g) where
  pub form_says : (part : List ℕ) (start : ℕ) {v : Answer} → v ≡ fault_from start (form_body part g 0 (length part))
      → v ≡ fault_from start (form_body part f 0 (length part))
  form_says part start y = y ∙ ap (λ (h : Form). fault_from start (form_body part h 0 (length part))) (sym e)

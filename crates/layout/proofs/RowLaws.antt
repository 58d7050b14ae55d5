-- A walk over items one after the other: what is left at each turn says what all of them say.
-- Assumes nothing.
use mathlib.Core.Path.{◌≡◌, refl, sym, ap, ◌∙◌}
use Prim.Native.Nat.{ℕ, suc, ◌+◌, ◌-◌, ◌≤◌, ◌<◌}
use native.Mathlib.Omega.{arith}
use mathlib.Core.List.{List, ◌∷◌}
use lib.ListN.{length}
use Rattle.std.specs.declared.result.Result as code
use Rattle.std.specs.declared.result.Result.TheVariants.{Ok, Err}
use Rattle.meaning.specs.declared.Fault.{Fault}
use Rattle.entries.specs.declared.Section.{Section}
use Rattle.meaning.specs.Result.{Result, refuse, found, ◌>>=◌}
use Rattle.meaning.specs.Told.{told}
use Rattle.meaning.specs.Bytes.{number}
use Rattle.file_numbers.specs.Numbers.{number_at}
use Rattle.meaning.specs.Layout.{items, mask, entry, entries}
use Rattle.bodies.specs.Faults.{Answer, fault}
use Rattle.entries.specs.Forms.{sets_of}
use Rattle.file_numbers.proofs.ByteLaws.{number_in}
use Rattle.bodies.proofs.Faults.{forget, left_suc, goes_on, forget_after}
use Rattle.layout.proofs.ToldLaws.{told_same, told_ok, told_stops}
use Rattle.layout.proofs.SectionChecks.{entry_fine}
use Rattle.layout.proofs.TaskLaws.{mask_is}

-- ---- masks

module _ (bytes : List ℕ) (n count place : ℕ) where
  -- those from number i on, at place p
  abbrev pub MasksLeft : ℕ → ℕ → Type 0
  MasksLeft i p = forget (items (mask bytes n) 8 p (count - i)) ≡ forget (items (mask bytes n) 8 place count)

  module _ (i p : ℕ) (left : MasksLeft i p) where
    pub masks_end : count ≤ i → Ok tt ≡ fault (items (mask bytes n) 8 place count)
    unfolding items
    masks_end h =
        let e : 0 ≡ count - i = omega arith in
        ap (λ (k : ℕ). fault (items (mask bytes n) 8 p k)) e ∙ told_same tt (items (mask bytes n) 8 p (count - i)) _ left

    module _ (h : i < count) {v : Answer} (says : v ≡ fault (mask bytes n p)) where
      pub masks_stop : {w : Answer} {e : Fault} → v ≡ Err e → w ≡ Err e → w ≡ fault (items (mask bytes n) 8 place count)
      unfolding items
      masks_stop y z =
          told_stops (λ _. tt) (λ _. tt) (mask bytes n p) _ says y z
          ∙ ap (λ (k : ℕ). fault (items (mask bytes n) 8 p k)) (sym (left_suc count i h))
          ∙ told_same tt (items (mask bytes n) 8 p (count - i)) _ left

      module _ {u : Unit {0}} (y : v ≡ Ok u) where
        read : (x : ℕ) × (mask bytes n p ≡ found x)
        read = let k = told_ok (λ _. tt) (mask bytes n p) says y in (k.0, k.1)

        pub masks_fit : p + 8 ≤ length bytes
        masks_fit = (mask_is bytes n p read.0 read.1).1

        pub masks_next : (q : ℕ) → p + 8 ≡ q → MasksLeft (i + 1) q
        unfolding items
        masks_next q e =
            ap (λ (j : ℕ). forget (items (mask bytes n) 8 j (count - (i + 1)))) (sym e)
            ∙ sym (ap (λ (k : ℕ). forget (items (mask bytes n) 8 p k)) (left_suc count i h)
            ∙ ap forget (goes_on _ read.1)
            ∙ forget_after (items (mask bytes n) 8 (p + 8) (count - (i + 1))) (λ xs. read.0 ∷ xs))
            ∙ left

-- ---- entries

-- where a reading ends, whatever is put before what it finds
end_after : {A : Type 0} (x : A) (r : Result (List A × ℕ)) → told (λ (y : List A × ℕ). y.1) (r >>= λ y. found (x ∷ y.0, y.1)) ≡ told (λ (y : List A × ℕ). y.1) r
unfolding ◌>>=◌
end_after x (refuse n p) = refl
end_after x (found y) = refl

module _ (bytes : List ℕ) (s : Section) (count place : ℕ) where
  -- what those from number i on, at place p, say
  abbrev says_from : ℕ → ℕ → ℕ → code.Result ℕ Fault
  says_from i p k = told (λ (x : List (sets_of bytes s).Item × ℕ). x.1) (entries bytes (sets_of bytes s).kinds i p k)

  abbrev pub EntriesLeft : ℕ → ℕ → Type 0
  EntriesLeft i p = says_from i p (count - i) ≡ says_from 0 place count

  module _ (i p : ℕ) (left : EntriesLeft i p) where
    pub entries_end : count ≤ i → Ok p ≡ says_from 0 place count
    unfolding entries
    entries_end h = let e : 0 ≡ count - i = omega arith in ap (λ (k : ℕ). says_from i p k) e ∙ left

    module _ (h : i < count) {v : Answer} (says : v ≡ fault (entry bytes ((sets_of bytes s).kinds i) p)) where
      pub entries_stop : {w : code.Result ℕ Fault} {e : Fault} → v ≡ Err e → w ≡ Err e → w ≡ says_from 0 place count
      unfolding entries
      entries_stop y z =
          told_stops (λ _. tt) (λ (x : List (sets_of bytes s).Item × ℕ). x.1) (entry bytes ((sets_of bytes s).kinds i) p) _ says y z
          ∙ ap (λ (k : ℕ). says_from i p k) (sym (left_suc count i h))
          ∙ left

      module _ {u : Unit {0}} (y : v ≡ Ok u) where
        read_entry : (x : (sets_of bytes s).Item) × (entry bytes ((sets_of bytes s).kinds i) p ≡ found x)
        read_entry = let k = told_ok (λ _. tt) (entry bytes ((sets_of bytes s).kinds i) p) says y in (k.0, k.1)

        pub entries_fit : p + 2 + number_at 2 bytes p ≤ length bytes
        entries_fit = entry_fine bytes ((sets_of bytes s).kinds i) p read_entry.0 read_entry.1

        pub entries_next : (q : ℕ) → q ≡ p + (2 + number_at 2 bytes p) → EntriesLeft (i + 1) q
        unfolding entries
        entries_next q e =
            let l = entries_fit in
            let next : q ≡ p + 2 + number 2 bytes p = omega (arith, number_in 2 bytes p (omega arith)) in
            let one : i + 1 ≡ suc i = omega arith in
            (λ j. says_from (one j) (next j) (count - (i + 1)))
            ∙ sym (ap (λ (k : ℕ). says_from i p k) (left_suc count i h)
            ∙ ap (told (λ (x : List (sets_of bytes s).Item × ℕ). x.1)) (goes_on _ read_entry.1)
            ∙ end_after read_entry.0 (entries bytes (sets_of bytes s).kinds (suc i) (p + 2 + number 2 bytes p) (count - (i + 1))))
            ∙ left

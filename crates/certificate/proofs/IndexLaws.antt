-- The table of places as a loop fills it, and that two fillings make the table of a file.
-- Assumes nothing.
use mathlib.Core.Path.{◌≡◌, refl, ap, ◌∙◌, subst}
use mathlib.Core.Bool.{Bool, true, false}
use Prim.Native.Nat.{ℕ, zero, suc, ◌+◌, ◌≤◌, ◌<◌}
use native.Mathlib.Numerals.{add-one}
use native.Mathlib.Omega.{arith}
use mathlib.Core.List.{List}
use lib.ListN.{length, get_or, replicate, set, length-set}
use lib.Seq.{get_or-set_same, get_or-set_other}
use native.Mathlib.Decide.{dec_lt}
use lib.Dec.{ltb, ltb→lt, lt→ltb}
use borrow.Author.Count.{below_more}
use Rattle.task.proofs.Tests.{is_true, is_false}
use Rattle.certificate.specs.declared.Places.{Places}
use Rattle.certificate.specs.Views.{after_entry, entry_place}
use Rattle.file_numbers.specs.Numbers.{number_at}
use Rattle.certificate.specs.Index.{capped, Indexed, state_place, action_place, Table}

-- one entry more
pub place_more : (bytes : List ℕ) (p k at r : ℕ) → at ≡ entry_place bytes p k → r ≡ number_at 2 bytes at
    → at + 2 + r ≡ entry_place bytes p (k + 1)
unfolding entry_place after_entry
place_more bytes p k at r e n = rw add-one (cc)

module _ (bytes : List ℕ) (p from : ℕ) (before : List ℕ) where
  pub indexed_none : Indexed bytes p 0 from before before
  indexed_none = record { size = refl; here = λ k l _. absurd (omega arith); below = λ _ _. refl; above = λ _ _. refl }

  module _ (k : ℕ) (index : List ℕ) (h : Indexed bytes p k from before index) where
    pub indexed_more : (x : ℕ) → from + k < length index → x ≡ capped (entry_place bytes p k)
        → Indexed bytes p (k + 1) from before (set index (from + k) x)
    indexed_more x l e =
        let other : (j : ℕ) → (j ≡ from + k → ⊥) → get_or (set index (from + k) x) j 0 ≡ get_or index j 0 = λ j n. get_or-set_other index
        (from + k) j x 0 n in
        record {
          size = length-set index (from + k) x ∙ h.size;
          here = below_more (λ j. from + j < length before → get_or (set index (from + k) x) (from + j) 0 ≡ capped (entry_place bytes p j)) k
              (λ j m b. other (from + j) (λ q. absurd (omega arith)) ∙ h.here j m b)
              (λ _. get_or-set_same index (from + k) x 0 l ∙ e);
          below = λ j m. other j (λ q. absurd (omega arith)) ∙ h.below j m;
          above = λ j m. other j (λ q. absurd (omega arith)) ∙ h.above j (omega arith);
        }

    -- the table is full
    pub indexed_full : (count : ℕ) → k ≤ count → length index ≤ from + k → Indexed bytes p count from before index
    indexed_full count l full =
        let n = h.size in
        record { size = n; here = λ j m b. h.here j (omega arith) b; below = h.below; above = λ j m. h.above j (omega arith) }

    pub indexed_all : (count : ℕ) → k ≡ count → Indexed bytes p count from before index
    indexed_all count e = subst (λ (n : ℕ). Indexed bytes p n from before index) e h

-- a place in its part of the table, and past it
module _ (room i x : ℕ) where
  pub in_part : i < room → elim (ltb i room) [ true ↦ x | false ↦ 0 ] ≡ x
  in_part l = ap (λ (b : Bool). elim b [ true ↦ x | false ↦ 0 ]) (is_true (ltb i room) (lt→ltb i room l))

  pub past_part : room ≤ i → ◌≡◌ {A = ℕ} (elim (ltb i room) [ true ↦ x | false ↦ 0 ]) 0
  past_part l = ap (λ (b : Bool). elim b [ true ↦ x | false ↦ 0 ])
      (is_false (ltb i room) (λ t. let m = ltb→lt i room t in absurd (omega arith)))

-- a table of zeros
pub zeros : (n i : ℕ) → ◌≡◌ {A = ℕ} (get_or (replicate n 0) i 0) 0
zeros zero i = refl
zeros (suc n) zero = refl
zeros (suc n) (suc i) = zeros n i

-- action sets from 0 on, then state sets from 256 on
module _ (bytes : List ℕ) (at : Places) (first second third : List ℕ) where
  pub indexed_file : length first ≡ 8961 → ((j : ℕ) → get_or first j 0 ≡ 0) → at.action_sets ≤ 256 → at.state_sets ≤ 512
      → Indexed bytes at.action_sets_at at.action_sets 0 first second
      → Indexed bytes at.state_sets_at at.state_sets 256 second third → Table bytes at third
  unfolding action_place state_place
  indexed_file n zeros few-a few-s a s =
      let m = a.size in
      let z : (e : ℕ) → 0 + e ≡ e = λ e. omega arith in
      record {
        action_sets = λ e l.
            in_part 256 e _ (omega arith) ∙ s.below e (omega arith)
            ∙ subst (λ (j : ℕ). get_or second j 0 ≡ capped (entry_place bytes at.action_sets_at e)) (z e) (a.here e l (omega arith));
        state_sets = λ e l. in_part 512 e _ (omega arith) ∙ s.here e l (omega arith);
        no_action_set = λ e l.
            elim (dec_lt e 256) [
              | yes b ↦ in_part 256 e _ b ∙ s.below e b ∙ a.above e (omega arith) ∙ zeros e
              | no b ↦ past_part 256 e _ (omega arith)
            ];
        no_state_set = λ e l.
            elim (dec_lt e 512) [
              | yes b ↦ in_part 512 e _ b ∙ s.above (256 + e) (omega arith) ∙ a.above (256 + e) (omega arith) ∙ zeros (256 + e)
              | no b ↦ past_part 512 e _ (omega arith)
            ];
      }

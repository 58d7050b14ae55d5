-- What a field, a mask, a reference or a clause reads, from the number that stands there.
-- Assumes nothing.
use mathlib.Core.Path.{◌≡◌, refl, sym, ap, ◌∙◌}
use Prim.Native.Nat.{ℕ, ◌+◌, ◌-◌, ◌^◌, ◌≤◌, ◌<◌, min}
use native.Mathlib.Omega.{arith}
use mathlib.Core.Bool.{Bool, true, false}
use mathlib.Core.List.{List}
use lib.ListN.{length}
use borrow.Author.Tests.{le-leb, lt-leb, lt-ltb, le-ltb}
use Rattle.meaning.specs.Result.{refuse, found, ◌>>=◌, need}
use Rattle.meaning.specs.Bytes.{inside}
use Rattle.file_numbers.specs.Numbers.{number_at}
use Rattle.meaning.specs.Layout.{field, mask, reference}
use Rattle.task.proofs.MaskLaws.{within_all}
use Rattle.file_numbers.proofs.ByteLaws.{inside_in, number_in}
use Rattle.bodies.proofs.Faults.{goes_on, stops, passed, failed}

-- `top` is the mask of the first n facts
abbrev pub Top : ℕ → ℕ → Type 0
Top top n = top ≡ 2 ^ min n 64 - 1

kept_value : (b : Bool) (r p : ℕ) {x y : ℕ} → (need b r p >>= λ _. found x) ≡ found y → y ≡ x
unfolding need ◌>>=◌
kept_value true r p e = cc
kept_value false r p e = let z : ◌≡◌ {A = ℕ} 0 1 = cc in absurd (omega arith)

module _ (f : List ℕ) (p : ℕ) where
  pub field_in : (k : ℕ) {x : ℕ} → p + k ≤ length f → x ≡ number_at k f p → field f k p ≡ found x
  unfolding field
  field_in k h e = passed 3 p _ (inside_in k f p h) ∙ ap found (sym (e ∙ number_in k f p h))

  -- a mask x
  module _ (top n : ℕ) {x : ℕ} (t : Top top n) (e : x ≡ number_at 8 f p) (w : x < 2 ^ 64) where
    pub mask_in : p + 8 ≤ length f → x ≤ top → mask f n p ≡ found x
    unfolding mask
    mask_in h l = goes_on _ (field_in 8 h e) ∙ passed 5 p _ (sym (within_all n t x w) ∙ le-leb x top l)

    pub mask_high : p + 8 ≤ length f → top < x → mask f n p ≡ refuse 5 p
    unfolding mask
    mask_high h l = goes_on _ (field_in 8 h e) ∙ failed 5 p _ (sym (within_all n t x w) ∙ lt-leb x top l)

  pub mask_cut : (n : ℕ) {t : Bool} → t ≡ inside 8 f p → t ≡ false → mask f n p ≡ refuse 3 p
  unfolding mask field
  mask_cut n q s = stops _ (failed 3 p _ (sym q ∙ s))

  -- a reference x
  module _ (bound : ℕ) {x : ℕ} (e : x ≡ number_at 2 f p) (h : p + 2 ≤ length f) where
    pub reference_in : x < bound → reference f bound p ≡ found x
    unfolding reference
    reference_in l = goes_on _ (field_in 2 h e) ∙ passed 6 p _ (lt-ltb x bound l)

    pub reference_high : bound ≤ x → reference f bound p ≡ refuse 6 p
    unfolding reference
    reference_high l = goes_on _ (field_in 2 h e) ∙ failed 6 p _ (le-ltb x bound l)

  -- what is found is the number that stands there
  pub mask_found : (n : ℕ) {x : ℕ} → p + 8 ≤ length f → mask f n p ≡ found x → x ≡ number_at 8 f p
  unfolding mask
  mask_found n h e = kept_value _ _ _ (sym (goes_on _ (field_in 8 h refl)) ∙ e)

  pub reference_found : (bound : ℕ) {x : ℕ} → p + 2 ≤ length f → reference f bound p ≡ found x → x ≡ number_at 2 f p
  unfolding reference
  reference_found bound h e = kept_value _ _ _ (sym (goes_on _ (field_in 2 h refl)) ∙ e)

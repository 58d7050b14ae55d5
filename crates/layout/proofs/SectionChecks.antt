-- Counts, entries and steps, as they are read.
-- Assumes nothing.
use mathlib.Core.Path.{◌≡◌, refl, sym, ap, ◌∙◌}
use Prim.Native.Nat.{ℕ, zero, suc, ◌+◌, ◌*◌, ◌≤◌, ◌<◌}
use native.Mathlib.Omega.{arith}
use mathlib.Core.Bool.{Bool, true, false, ◌&&◌}
use mathlib.Core.List.{List}
use lib.ListN.{length}
use lib.Dec.{leb, leb→le}
use Rattle.meaning.specs.Result.{refuse, found}
use Rattle.meaning.specs.Bytes.{inside}
use Rattle.file_numbers.specs.Numbers.{number_at}
use Rattle.meaning.specs.Layout.{items, field, count, step, Kind, entry}
use Rattle.layout.specs.Sections.{step_count_at}
use Rattle.meaning.proofs.Results.{bind_case, need_case, found_same}
use Rattle.file_numbers.proofs.ByteLaws.{inside_in, inside_past, inside_out, number_in}
use Rattle.bodies.proofs.Faults.{forget, goes_on, stops, passed, failed, forget_after}
use Rattle.bodies.proofs.FieldLaws.{field_in}
use Rattle.task.proofs.Tests.{is_true, and_right}

-- a field that is read
pub field_is : (bytes : List ℕ) (k p x : ℕ) → field bytes k p ≡ found x → (x ≡ number_at k bytes p) × (p + k ≤ length bytes)
unfolding field
field_is bytes k p x e =
    need_case (inside k bytes p) 3 p _ x e λ t r.
    let h : p + k ≤ length bytes = inside_out k bytes p (is_true (inside k bytes p) t) in
    (sym (found_same r) ∙ sym (number_in k bytes p h), h)

-- ---- counts

module _ (bytes : List ℕ) (low high p : ℕ) where
  module _ {t : Bool} (q : t ≡ inside 2 bytes p) where
    pub count_cut : t ≡ false → count bytes low high p ≡ refuse 3 p
    unfolding count field
    count_cut s = stops _ (failed 3 p _ (sym q ∙ s))

    module _ (s : t ≡ true) {c : ℕ} (e : c ≡ number_at 2 bytes p) where
      read : field bytes 2 p ≡ found c
      read = field_in bytes p 2 (inside_out 2 bytes p (sym q ∙ s)) e

      pub count_in : (leb low c && leb c high) ≡ true → count bytes low high p ≡ found c
      unfolding count
      count_in g = goes_on _ read ∙ passed 4 p _ g

      pub count_out : (leb low c && leb c high) ≡ false → count bytes low high p ≡ refuse 4 p
      unfolding count
      count_out g = goes_on _ read ∙ failed 4 p _ g

  -- a count that is read
  pub count_is : (x : ℕ) → count bytes low high p ≡ found x → (x ≡ number_at 2 bytes p) × (p + 2 ≤ length bytes)
  unfolding count
  count_is x e =
      bind_case (field bytes 2 p) _ x e λ y y! e₁.
      need_case (leb low y && leb y high) 4 p _ x e₁ λ _ r.
      let h = field_is bytes 2 p y y! in (sym (found_same r) ∙ h.0, h.1)

  pub count_few : (x : ℕ) → count bytes low high p ≡ found x → x ≤ high
  unfolding count
  count_few x e =
      bind_case (field bytes 2 p) _ x e λ y y! e₁.
      need_case (leb low y && leb y high) 4 p _ x e₁ λ t r.
      let h : y ≡ x = found_same r in
      let l = leb→le y high (and_right (leb low y) (leb y high) t) in
      omega arith

-- ---- entries

-- an entry that is read ends within the file
pub entry_fine : (bytes : List ℕ) {A : Type 0} (kinds : List (Kind A)) (p : ℕ) (x : A) → entry bytes kinds p ≡ found x
    → p + 2 + number_at 2 bytes p ≤ length bytes
unfolding entry
entry_fine bytes kinds p x e =
    bind_case (field bytes 2 p) _ x e λ len len! e₁.
    need_case (inside (2 + len) bytes p) 3 p _ x e₁ λ t _.
    let g : len ≡ number_at 2 bytes p = (field_is bytes 2 p len len!).0 in
    let h = inside_out (2 + len) bytes p (is_true (inside (2 + len) bytes p) t) in
    omega arith

-- ---- steps

module _ (bytes : List ℕ) where
  pub steps_in : (k p : ℕ) → p + 12 * k ≤ length bytes → forget (items (step bytes) 12 p k) ≡ found tt
  unfolding items step
  steps_in zero p h = refl
  steps_in (suc k) p h =
      ap forget (goes_on _ (passed 3 p _ (inside_in 12 bytes p (omega arith))))
      ∙ forget_after (items (step bytes) 12 (p + 12) k) _
      ∙ steps_in k (p + 12) (omega arith)

  -- the first step that is cut is number j
  pub steps_cut : (k j p : ℕ) → j < k → p + 12 * j ≤ length bytes → length bytes < p + 12 * j + 12
      → forget (items (step bytes) 12 p k) ≡ refuse 3 (p + 12 * j)
  unfolding items step
  steps_cut zero j p l h g = absurd (omega arith)
  steps_cut (suc k) zero p l h g =
      ap forget (stops _ (failed 3 p _ (inside_past 12 bytes p (omega arith)))) ∙ (let e : p ≡ p + 12 * 0 = omega arith in ap (refuse 3) e)
  steps_cut (suc k) (suc j) p l h g =
      let e : p + 12 + 12 * j ≡ p + 12 * suc j = omega arith in
      ap forget (goes_on _ (passed 3 p _ (inside_in 12 bytes p (omega arith))))
      ∙ forget_after (items (step bytes) 12 (p + 12) k) _
      ∙ steps_cut k j (p + 12) (omega arith) (omega arith) (omega arith)
      ∙ ap (refuse 3) e

  pub step_count_is : (most p k : ℕ) → step_count_at bytes most p ≡ found k → count bytes 1 2048 p ≡ found k
  unfolding step_count_at
  step_count_is most p k e =
      bind_case (count bytes 1 2048 p) _ k e λ c c! e₁.
      need_case (leb c most) 19 p _ k e₁ λ _ q.
      c! ∙ q

-- Items one after the other, with their places: what is read as item i stands `size * i` bytes after the first.
-- Assumes nothing.
use mathlib.Core.Path.{◌≡◌, refl, sym, ap, ◌∙◌, subst}
use Prim.Native.Nat.{ℕ, zero, suc, ◌+◌, ◌*◌, ◌^◌, ◌≤◌, ◌<◌}
use native.Mathlib.Nat.{mul-suc}
use native.Mathlib.Omega.{arith}
use mathlib.Core.Bool.{Bool, ◌&&◌}
use mathlib.Core.List.{List, ◌∷◌}
use lib.ListN.{length, get_or}
use lib.Dec.{eqb, leb, ltb, leb→le}
use Rattle.meaning.specs.Result.{Result, found}
use Rattle.meaning.specs.Bytes.{inside}
use Rattle.meaning.specs.Layout.{items, ascending, action_size, field, count, mask, reference, off_mask, action, clause, step}
use Rattle.file_numbers.specs.Numbers.{number_at, clause_at}
use Rattle.certificate.specs.Views.{off_in, action_in, step_read}
use Rattle.meaning.proofs.Results.{found_same, bind_case, bind_in, need_case}
use Rattle.meaning.proofs.Places.{by_test, places, off_none, off_some}
use Rattle.meaning.proofs.Off.{read_off, read_no_off}
use Rattle.file_numbers.proofs.ByteLaws.{number_in}

-- the items stand from place p on, `size` bytes each, all within the file
pub record Items {A : Type 0} (bytes : List ℕ) (size : ℕ) (at : ℕ → A) (p : ℕ) (xs : List A) : Type 0 where
  pub inside : p + size * length xs ≤ length bytes
  pub here : (d : A) (i : ℕ) → i < length xs → at (p + size * i) ≡ get_or xs i d

-- what a reader gives at a place stands there, within the file
abbrev pub Stands : {A : Type 0} → List ℕ → ℕ → (ℕ → A) → (ℕ → Result A) → Type 0
Stands {A} bytes size at read = (p : ℕ) (x : A) → read p ≡ found x → (p + size ≤ length bytes) × (at p ≡ x)

module _ {A : Type 0} (bytes : List ℕ) (size : ℕ) (at : ℕ → A) where
  cons_here : (p : ℕ) (x : A) (xs : List A) → at p ≡ x → Items bytes size at (p + size) xs → (d : A) (i : ℕ) → i < suc (length xs)
      → at (p + size * i) ≡ get_or (x ∷ xs) i d
  cons_here p x xs a h d zero l = let e : p + size * 0 ≡ p = omega arith in ap at e ∙ a
  cons_here p x xs a h d (suc i) l =
      let m : size * suc i ≡ size * i + size = mul-suc size i in
      let e : p + size * suc i ≡ p + size + size * i = omega arith in
      ap at e ∙ h.here d i (omega arith)

  items_cons : (p : ℕ) (x : A) (xs : List A) → at p ≡ x → Items bytes size at (p + size) xs → Items bytes size at p (x ∷ xs)
  items_cons p x xs a h =
      let m : size * suc (length xs) ≡ size * length xs + size = mul-suc size (length xs) in
      let i = h.inside in
      record { inside = omega arith; here = cons_here p x xs a h }

  module _ (read : ℕ → Result A) (stands : Stands bytes size at read) where
    -- items that are read stand one after the other
    pub items_stand : (k p : ℕ) (xs : List A) → p ≤ length bytes → items read size p k ≡ found xs
        → (length xs ≡ k) × Items bytes size at p xs
    unfolding items
    items_stand zero p xs b e =
        let l : p + size * 0 ≤ length bytes = omega arith in
        subst (λ ys. (length ys ≡ 0) × Items bytes size at p ys) (found_same e)
        (refl, record { inside = l; here = λ d i n. absurd (omega arith) })
    items_stand (suc k) p xs b e =
        bind_case (read p) _ xs e λ x x! e₁.
        bind_case (items read size (p + size) k) _ xs e₁ λ ys ys! q.
        let a = stands p x x! in
        let h = items_stand k (p + size) ys a.0 ys! in
        subst (λ zs. (length zs ≡ suc k) × Items bytes size at p zs) (found_same q) (ap suc h.0, items_cons p x ys a.1 h.1)

-- items that must ascend are items
pub ascending_items : (read : ℕ → Result ℕ) (size k low p : ℕ) (xs : List ℕ) → ascending read size low p k ≡ found xs
    → items read size p k ≡ found xs
unfolding ascending items
ascending_items read size zero low p xs e = e
ascending_items read size (suc k) low p xs e =
    bind_case (read p) _ xs e λ x x! e₁.
    need_case (leb low x) 7 p _ xs e₁ λ _ e₂.
    bind_case (ascending read size (suc x) (p + size) k) _ xs e₂ λ ys ys! q.
    bind_in _ x! (bind_in _ (ascending_items read size k (suc x) (p + size) ys ys!) q)

-- ---- the readers of fields and items

module _ (bytes : List ℕ) where
  pub field_stands : (k : ℕ) → Stands bytes k (number_at k bytes) (field bytes k)
  unfolding field inside
  field_stands k p x e =
      need_case (inside k bytes p) 3 p _ x e λ t q.
      let l : p + k ≤ length bytes = leb→le (p + k) (length bytes) t in
      (l, number_in k bytes p l ∙ found_same q)

  pub mask_stands : (n : ℕ) → Stands bytes 8 (number_at 8 bytes) (mask bytes n)
  unfolding mask
  mask_stands n p x e =
      bind_case (field bytes 8 p) _ x e λ m m! e₁.
      need_case (ltb m (2 ^ n)) 5 p _ x e₁ λ _ q.
      let h = field_stands 8 p m m! in (h.0, h.1 ∙ found_same q)

  pub reference_stands : (bound : ℕ) → Stands bytes 2 (number_at 2 bytes) (reference bytes bound)
  unfolding reference
  reference_stands bound p x e =
      bind_case (field bytes 2 p) _ x e λ m m! e₁.
      need_case (ltb m bound) 6 p _ x e₁ λ _ q.
      let h = field_stands 2 p m m! in (h.0, h.1 ∙ found_same q)

  pub count_stands : (low high : ℕ) → Stands bytes 2 (number_at 2 bytes) (count bytes low high)
  unfolding count
  count_stands low high p x e =
      bind_case (field bytes 2 p) _ x e λ m m! e₁.
      need_case (leb low m && leb m high) 4 p _ x e₁ λ _ q.
      let h = field_stands 2 p m m! in (h.0, h.1 ∙ found_same q)

  -- what an action at place p needs off, which ends it
  off_stands : (v n p d : ℕ) → p + 24 ≤ length bytes → off_mask bytes v n (p + 24) ≡ found d
      → (p + action_size v ≤ length bytes) × (off_in bytes (action_size v) p ≡ d)
  unfolding off_in
  off_stands v n p d l e =
      let o = places v in
      by_test (eqb v 3)
      (λ t.
      let s : action_size v ≡ 32 = omega (arith, off_some v t) in
      let h = mask_stands n (p + 24) d (sym (read_off bytes v n (p + 24) t) ∙ e) in
      rw s (omega (arith, h.0), h.1))
      (λ f.
      let s : action_size v ≡ 24 = omega (arith, off_none v f) in
      rw s (l, found_same (sym (read_no_off bytes v n (p + 24) f) ∙ e)))

  pub action_stands : (v n : ℕ) → Stands bytes (action_size v) (action_in bytes (action_size v)) (action bytes v n)
  unfolding action action_in
  action_stands v n p x e =
      bind_case (mask bytes n p) _ x e λ a a! e₁.
      bind_case (mask bytes n (p + 8)) _ x e₁ λ b b! e₂.
      bind_case (mask bytes n (p + 16)) _ x e₂ λ c c! e₃.
      bind_case (off_mask bytes v n (p + 24)) _ x e₃ λ d d! q.
      let s = mask_stands n p a a! in
      let t = mask_stands n (p + 8) b b! in
      let u = mask_stands n (p + 16) c c! in
      let w = off_stands v n p d (omega arith) d! in
      (w.0, cc)

  pub clause_stands : (n : ℕ) (rule : ℕ → ℕ → Bool) → Stands bytes 16 (clause_at bytes) (clause bytes n rule)
  unfolding clause clause_at
  clause_stands n rule p x e =
      bind_case (mask bytes n p) _ x e λ a a! e₁.
      bind_case (mask bytes n (p + 8)) _ x e₁ λ b b! e₂.
      need_case (rule a b) 7 p _ x e₂ λ _ q.
      let u = mask_stands n p a a! in
      let v = mask_stands n (p + 8) b b! in
      (omega arith, cc)

  pub step_stands : Stands bytes 12 (step_read bytes) (step bytes)
  unfolding step step_read inside
  step_stands p x e =
      need_case (inside 12 bytes p) 3 p _ x e λ t q.
      let l : p + 12 ≤ length bytes = leb→le (p + 12) (length bytes) t in
      let n₀ = number_in 1 bytes p (omega arith) in
      let n₁ = number_in 1 bytes (p + 1) (omega arith) in
      let n₂ = number_in 2 bytes (p + 2) (omega arith) in
      let n₄ = number_in 2 bytes (p + 4) (omega arith) in
      let n₆ = number_in 2 bytes (p + 6) (omega arith) in
      let n₈ = number_in 2 bytes (p + 8) (omega arith) in
      let m = number_in 2 bytes (p + 10) (omega arith) in
      (l, cc)

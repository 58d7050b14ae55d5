-- What a reader gives, written again, is what stands where it was read: fields, and items one after the other.
-- Assumes nothing.
use mathlib.Core.Path.{◌≡◌, refl, sym, ap, ◌∙◌, subst}
use Prim.Native.Nat.{ℕ, zero, suc, ◌+◌, ◌-◌, ◌*◌, ◌/◌, ◌%◌, ◌^◌, ◌≤◌, ◌<◌}
use native.Mathlib.Nat.{mul-suc}
use native.Mathlib.Omega.{arith}
use mathlib.Core.Bool.{Bool, ◌&&◌}
use mathlib.Core.List.{List, [], ◌∷◌, ◌++◌, append_assoc, append-nil}
use lib.ListN.{length, take, drop, take-append-drop, length-append, length-drop}
use lib.Seq.{drop-drop, append_snoc}
use lib.Dec.{leb, ltb, eqb, leb→le, ltb→lt}
use Rattle.task.specs.declared.Action.{Action}
use Rattle.task.specs.Reach.{every}
use Rattle.task.proofs.Tests.{and_left, and_right, and_both}
use Rattle.meaning.specs.declared.Clause.{Clause}
use Rattle.meaning.specs.Result.{Result, found, ◌>>=◌, need}
use Rattle.meaning.specs.Bytes.{big_endian, bytes_of, number, inside, AreBytes}
use Rattle.meaning.specs.File.{Step}
use Rattle.meaning.specs.Layout.{items, ascending, field, count, mask, reference, off_size, action_size, off_mask, action, clause, step}
use Rattle.meaning.specs.Writing.{each, write_off, write_action, write_clause, write_step}
use Rattle.meaning.proofs.Results.{found_same, bind_case, need_case}
use Rattle.meaning.proofs.Numbers.{number_lt}
use Rattle.meaning.proofs.Places.{by_test, off_none, off_some, places}
use Rattle.meaning.proofs.Off.{read_off, written_off, written_no_off}

-- x is what stands from place p up to place q
pub record Spans (bytes : List ℕ) (p q : ℕ) (x : List ℕ) : Type 0 where
  pub split : drop p bytes ≡ x ++ drop q bytes

pub spans_none : {bytes : List ℕ} (p q : ℕ) → p ≡ q → Spans bytes p q []
spans_none {bytes} p q e = record { split = ap (λ (n : ℕ). drop n bytes) e }

pub joined : {bytes : List ℕ} {p q r : ℕ} {x y : List ℕ} → Spans bytes p q x → Spans bytes q r y → Spans bytes p r (x ++ y)
joined {bytes} {p} {q} {r} {x} {y} a b =
    record { split = a.split ∙ ap (λ (z : List ℕ). x ++ z) b.split ∙ sym (append_assoc x y (drop r bytes)) }

-- how long it is
pub spans_length : {bytes : List ℕ} {p q : ℕ} {x : List ℕ} → Spans bytes p q x → length bytes - p ≡ length x + (length bytes - q)
spans_length {bytes} {p} {q} {x} a =
    sym (length-drop p bytes) ∙ ap (λ (z : List ℕ). length z) a.split ∙ length-append x (drop q bytes)
    ∙ ap (λ (n : ℕ). length x + n) (length-drop q bytes)

-- ---- numbers

-- the number of k bytes, as bytes; a is the number of the j bytes before them
bytes_again : (k j a : ℕ) (xs : List ℕ) → AreBytes xs → k ≤ length xs → bytes_of (j + k) (big_endian a (take k xs)) ≡ bytes_of j a ++ take k xs
unfolding bytes_of big_endian every
bytes_again zero j a xs h l = let n : j + 0 ≡ j = omega arith in ap (λ (i : ℕ). bytes_of i a) n ∙ sym (append-nil (bytes_of j a))
bytes_again (suc k) j a [] h l = absurd (omega arith)
bytes_again (suc k) j a (x ∷ xs) h l =
    let b : x < 256 = ltb→lt x 256 (and_left (ltb x 256) _ h) in
    let y : ℕ = a * 256 + x in
    let n : j + suc k ≡ suc j + k = omega arith in
    let d : y / 256 ≡ a = omega arith in
    let m : y % 256 ≡ x = omega arith in
    ap (λ (i : ℕ). bytes_of i (big_endian y (take k xs))) n
    ∙ bytes_again k (suc j) y xs (and_right (ltb x 256) _ h) (omega arith)
    ∙ ap (λ (z : ℕ). bytes_of j z ++ y % 256 ∷ [] ++ take k xs) d
    ∙ ap (λ (z : ℕ). bytes_of j a ++ z ∷ [] ++ take k xs) m
    ∙ append_snoc (bytes_of j a) x (take k xs)

pub bytes_take : (k : ℕ) (xs : List ℕ) → AreBytes xs → AreBytes (take k xs)
unfolding every
bytes_take zero xs h = tt
bytes_take (suc k) [] h = h
bytes_take (suc k) (x ∷ xs) h =
    and_both (ltb x 256) (every (λ b. ltb b 256) (take k xs)) (and_left (ltb x 256) _ h) (bytes_take k xs (and_right (ltb x 256) _ h))

pub bytes_drop : (p : ℕ) (xs : List ℕ) → AreBytes xs → AreBytes (drop p xs)
unfolding every
bytes_drop zero xs h = h
bytes_drop (suc p) [] h = h
bytes_drop (suc p) (x ∷ xs) h = bytes_drop p xs (and_right (ltb x 256) _ h)

-- ---- fields

-- what the reader gives stands, written, in the `size` bytes from where it was read
abbrev pub Again : {A : Type 0} → List ℕ → (A → List ℕ) → ℕ → (ℕ → Result A) → Type 0
Again {A} bytes write size read = (p q : ℕ) → p + size ≡ q → (x : A) → read p ≡ found x → Spans bytes p q (write x)

pub field_out : (bytes : List ℕ) (k p x : ℕ) → field bytes k p ≡ found x → (p + k ≤ length bytes) × (number k bytes p ≡ x)
unfolding field inside
field_out bytes k p x e = need_case (inside k bytes p) 3 p _ x e λ t q. (leb→le (p + k) (length bytes) t, found_same q)

module _ (bytes : List ℕ) (h : AreBytes bytes) where
  pub number_spans : (k p q : ℕ) → p + k ≡ q → q ≤ length bytes → Spans bytes p q (bytes_of k (number k bytes p))
  unfolding number bytes_of
  number_spans k p q e l =
      let n : length (drop p bytes) ≡ length bytes - p = length-drop p bytes in
      let z : k ≡ 0 + k = omega arith in
      let w : bytes_of k (number k bytes p) ≡ take k (drop p bytes) =
      ap (λ (i : ℕ). bytes_of i (number k bytes p)) z ∙ bytes_again k 0 0 (drop p bytes) (bytes_drop p bytes h) (omega arith) in
      record {
        split = sym (take-append-drop k (drop p bytes))
            ∙ ap (λ (y : List ℕ). y ++ drop k (drop p bytes)) (sym w)
            ∙ ap (λ (y : List ℕ). bytes_of k (number k bytes p) ++ y) (drop-drop k p bytes ∙ ap (λ (i : ℕ). drop i bytes) e);
      }

  pub byte_spans : (p q : ℕ) → p + 1 ≡ q → q ≤ length bytes → Spans bytes p q (number 1 bytes p ∷ [])
  unfolding bytes_of
  byte_spans p q e l =
      let b = number_lt bytes h 1 p in
      let m : number 1 bytes p % 256 ≡ number 1 bytes p = omega arith in
      subst (λ (x : ℕ). Spans bytes p q (x ∷ [])) m (number_spans 1 p q e l)

  field_again : (k : ℕ) → Again bytes (bytes_of k) k (field bytes k)
  field_again k p q e x x! =
      let o = field_out bytes k p x x! in
      let l = o.0 in
      subst (λ (y : ℕ). Spans bytes p q (bytes_of k y)) o.1 (number_spans k p q e (omega arith))

  pub byte_again : Again bytes (λ x. x ∷ []) 1 (field bytes 1)
  byte_again p q e x x! =
      let o = field_out bytes 1 p x x! in
      let l = o.0 in
      subst (λ (y : ℕ). Spans bytes p q (y ∷ [])) o.1 (byte_spans p q e (omega arith))

  -- a number of k bytes that must pass a test
  tested_again : (k : ℕ) (test : ℕ → Bool) (r : ℕ)
      → Again bytes (bytes_of k) k (λ p. field bytes k p >>= λ x. need (test x) r p >>= λ _. found x)
  tested_again k test r p q e y y! =
      bind_case (field bytes k p) _ y y! λ x x! e₁.
      need_case (test x) r p _ y e₁ λ _ s.
      subst (λ (z : ℕ). Spans bytes p q (bytes_of k z)) (found_same s) (field_again k p q e x x!)

  pub count_again : (low high : ℕ) → Again bytes (bytes_of 2) 2 (count bytes low high)
  unfolding count
  count_again low high = tested_again 2 (λ c. leb low c && leb c high) 4

  pub mask_again : (n : ℕ) → Again bytes (bytes_of 8) 8 (mask bytes n)
  unfolding mask
  mask_again n = tested_again 8 (λ m. ltb m (2 ^ n)) 5

  pub reference_again : (bound : ℕ) → Again bytes (bytes_of 2) 2 (reference bytes bound)
  unfolding reference
  reference_again bound = tested_again 2 (λ r. ltb r bound) 6

  pub off_again : (v n : ℕ) → Again bytes (write_off v) (off_size v) (off_mask bytes v n)
  off_again v n p q e m m! =
      by_test (eqb v 3)
      (λ t. rw (written_off v m t) (mask_again n p q (omega (arith, off_some v t)) m (sym (read_off bytes v n p t) ∙ m!)))
      (λ f. rw (written_no_off v m f) (spans_none p q (omega (arith, off_none v f))))

  pub action_again : (v n : ℕ) → Again bytes (write_action v) (action_size v) (action bytes v n)
  unfolding action write_action
  action_again v n p q e x x! =
      bind_case (mask bytes n p) _ x x! λ a a! e₁.
      bind_case (mask bytes n (p + 8)) _ x e₁ λ b b! e₂.
      bind_case (mask bytes n (p + 16)) _ x e₂ λ c c! e₃.
      bind_case (off_mask bytes v n (p + 24)) _ x e₃ λ d d! s.
      let o = places v in
      subst (λ (y : Action). Spans bytes p q (write_action v y)) (found_same s)
      (joined (joined (joined (mask_again n p (p + 8) refl a a!) (mask_again n (p + 8) (p + 16) (omega arith) b b!))
      (mask_again n (p + 16) (p + 24) (omega arith) c c!)) (off_again v n (p + 24) q (omega arith) d d!))

  pub clause_again : (n : ℕ) (rule : ℕ → ℕ → Bool) → Again bytes write_clause 16 (clause bytes n rule)
  unfolding clause write_clause
  clause_again n rule p q e v v! =
      bind_case (mask bytes n p) _ v v! λ a a! e₁.
      bind_case (mask bytes n (p + 8)) _ v e₁ λ b b! e₂.
      need_case (rule a b) 7 p _ v e₂ λ _ s.
      subst (λ (x : Clause). Spans bytes p q (write_clause x)) (found_same s)
      (joined (mask_again n p (p + 8) refl a a!) (mask_again n (p + 8) q (omega arith) b b!))

  pub step_again : Again bytes write_step 12 (step bytes)
  unfolding step write_step each inside
  step_again p q e v v! =
      need_case (inside 12 bytes p) 3 p _ v v! λ t s.
      let l : p + 12 ≤ length bytes = leb→le (p + 12) (length bytes) t in
      subst (λ (x : Step). Spans bytes p q (write_step x)) (found_same s)
      (joined (joined (joined (joined (byte_spans p (p + 1) refl (omega arith)) (byte_spans (p + 1) (p + 2) (omega arith) (omega arith)))
      (number_spans 2 (p + 2) (p + 4) (omega arith) (omega arith))) (number_spans 2 (p + 4) (p + 6) (omega arith) (omega arith)))
      (joined (number_spans 2 (p + 6) (p + 8) (omega arith) (omega arith))
      (joined (number_spans 2 (p + 8) (p + 10) (omega arith) (omega arith))
      (joined (number_spans 2 (p + 10) q (omega arith) (omega arith)) (spans_none q q refl)))))

-- ---- items one after the other

pub items_again : {A : Type 0} (bytes : List ℕ) (write : A → List ℕ) (size : ℕ) (read : ℕ → Result A) → Again bytes write size read
    → (k : ℕ) → Again bytes (each write) (size * k) (λ p. items read size p k)
unfolding items each
items_again bytes write size read again zero p q e xs xs! =
    subst (λ ys. Spans bytes p q (each write ys)) (found_same xs!) (spans_none p q (omega arith))
items_again bytes write size read again (suc k) p q e xs xs! =
    bind_case (read p) _ xs xs! λ x x! e₁.
    bind_case (items read size (p + size) k) _ xs e₁ λ ys ys! s.
    let m : size * suc k ≡ size * k + size = mul-suc size k in
    subst (λ zs. Spans bytes p q (each write zs)) (found_same s)
    (joined (again p (p + size) refl x x!) (items_again bytes write size read again k (p + size) q (omega arith) ys ys!))

-- the same in ascending order
pub ascending_again : (bytes : List ℕ) (write : ℕ → List ℕ) (size : ℕ) (read : ℕ → Result ℕ) → Again bytes write size read
    → (k low : ℕ) → Again bytes (each write) (size * k) (λ p. ascending read size low p k)
unfolding ascending each
ascending_again bytes write size read again zero low p q e xs xs! =
    subst (λ ys. Spans bytes p q (each write ys)) (found_same xs!) (spans_none p q (omega arith))
ascending_again bytes write size read again (suc k) low p q e xs xs! =
    bind_case (read p) _ xs xs! λ x x! e₁.
    need_case (leb low x) 7 p _ xs e₁ λ _ e₂.
    bind_case (ascending read size (suc x) (p + size) k) _ xs e₂ λ ys ys! s.
    let m : size * suc k ≡ size * k + size = mul-suc size k in
    subst (λ zs. Spans bytes p q (each write zs)) (found_same s)
    (joined (again p (p + size) refl x x!) (ascending_again bytes write size read again k (suc x) (p + size) q (omega arith) ys ys!))

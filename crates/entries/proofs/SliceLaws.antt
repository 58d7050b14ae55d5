-- A part of the file says what the file says there, at places that are moved by the part's start.
-- Assumes nothing.
use mathlib.Core.Path.{◌≡◌, refl, sym, ap, ◌∙◌}
use Prim.Native.Nat.{ℕ, zero, suc, ◌+◌, ◌-◌, ◌*◌, ◌/◌, ◌^◌, ◌≤◌}
use native.Mathlib.Nat.{mul-suc}
use native.Mathlib.Omega.{arith}
use mathlib.Core.Bool.{Bool, true, false}
use mathlib.Core.List.{List}
use lib.ListN.{length, take, drop, length-drop, take-append-drop}
use lib.Seq.{drop-drop, drop-append-le, take-append-le, length-take-le}
use lib.Dec.{leb, ltb}
use borrow.Author.Tests.{eqb-true}
use Rattle.bodies.specs.declared.Form.{Form}
use Rattle.bodies.specs.declared.Form.TheVariants.{Bare, Numbers, States, Clauses, One, Two}
use Rattle.meaning.specs.Result.{Result, refuse, found, ◌>>=◌, need}
use Rattle.meaning.specs.Bytes.{big_endian, number}
use Rattle.meaning.specs.Layout.{items, ascending, field, mask, reference, clause}
use Rattle.bodies.specs.Faults.{fault, fault_from, form_fits, form_body}
use Rattle.file_numbers.specs.ClauseRule.{clause_rule}
use Rattle.file_numbers.proofs.ByteLaws.{inside_in}
use Rattle.bodies.proofs.Faults.{passed}

-- a reading, with the place of its refusal moved by d
abbrev moved : {A : Type 0} → ℕ → Result A → Result A
moved d (refuse r p) = refuse r (d + p)
moved d (found a) = found a

module _ (d : ℕ) where
  moved_bind : {A B : Type 0} (r : Result A) {r' : Result A} (g g' : A → Result B) → moved d r ≡ r' → ((x : A) → moved d (g x) ≡ g' x)
      → moved d (r >>= g) ≡ (r' >>= g')
  unfolding ◌>>=◌
  moved_bind (refuse n p) g g' e h = ap (λ s. s >>= g') e
  moved_bind (found a) g g' e h = h a ∙ ap (λ s. s >>= g') e

  moved_need : (b : Bool) (n p : ℕ) → moved d (need b n p) ≡ need b n (d + p)
  unfolding need
  moved_need true n p = refl
  moved_need false n p = refl

  moved_told : {A : Type 0} (r r' : Result A) → moved d r ≡ r' → fault_from d r ≡ fault r'
  moved_told (refuse n p) r' e = ap fault e
  moved_told (found a) r' e = ap fault e

-- the bytes from place d on, `len` of them
module _ (bytes : List ℕ) (d len : ℕ) (h : d + len ≤ length bytes) where
  abbrev part : List ℕ
  part = take len (drop d bytes)

  pub part_length : length part ≡ len
  part_length = length-take-le len (drop d bytes) (let e = length-drop d bytes in omega arith)

  number_part : (k q : ℕ) → q + k ≤ len → number k part q ≡ number k bytes (d + q)
  unfolding number
  number_part k q l =
      let e : length (drop q part) ≡ len - q = length-drop q part ∙ ap (λ (x : ℕ). x - q) part_length in
      let e' = part_length in
      ap (big_endian 0)
      (sym (take-append-le k (drop q part) (drop len (drop d bytes)) (omega arith))
      ∙ ap (take k) (sym (drop-append-le q part (drop len (drop d bytes)) (omega arith)))
      ∙ ap (λ (xs : List ℕ). take k (drop q xs)) (take-append-drop len (drop d bytes))
      ∙ ap (take k) (drop-drop q d bytes))

  -- whatever lies within the part reads the same
  abbrev Near : {A : Type 0} → ℕ → (ℕ → Result A) → (ℕ → Result A) → Type 0
  Near size read read' = (q : ℕ) → q + size ≤ len → moved d (read q) ≡ read' (d + q)

  near_field : (k : ℕ) → Near k (field part k) (field bytes k)
  unfolding field
  near_field k q l =
      let e = part_length in
      ap (moved d) (passed 3 q _ (inside_in k part q (omega arith)))
      ∙ ap found (number_part k q l)
      ∙ sym (passed 3 (d + q) _ (inside_in k bytes (d + q) (omega arith)))

  near_mask : (n : ℕ) → Near 8 (mask part n) (mask bytes n)
  unfolding mask
  near_mask n q l =
      moved_bind d (field part 8 q) _ _ (near_field 8 q l) (λ m. moved_bind d (need _ 5 q) _ _ (moved_need d (ltb m (2 ^ n)) 5 q)
      (λ _. refl))

  near_reference : (bound : ℕ) → Near 2 (reference part bound) (reference bytes bound)
  unfolding reference
  near_reference bound q l =
      moved_bind d (field part 2 q) _ _ (near_field 2 q l) (λ m. moved_bind d (need _ 6 q) _ _ (moved_need d (ltb m bound) 6 q)
      (λ _. refl))

  near_clause : (n : ℕ) (rule : ℕ → ℕ → Bool) → Near 16 (clause part n rule) (clause bytes n rule)
  unfolding clause
  near_clause n rule q l =
      let e : d + q + 8 ≡ d + (q + 8) = omega arith in
      moved_bind d (mask part n q) _ _ (near_mask n q (omega arith)) (λ a.
      moved_bind d (mask part n (q + 8)) _ _ (near_mask n (q + 8) (omega arith) ∙ ap (mask bytes n) (sym e)) (λ b.
      moved_bind d (need _ 7 q) _ _ (moved_need d (rule a b) 7 q) (λ _. refl)))

  near_items : {A : Type 0} (read read' : ℕ → Result A) (size : ℕ) → Near size read read'
      → (k q : ℕ) → q + size * k ≤ len → moved d (items read size q k) ≡ items read' size (d + q) k
  unfolding items
  near_items read read' size near zero q l = refl
  near_items read read' size near (suc k) q l =
      let m : size * suc k ≡ size * k + size = mul-suc size k in
      let e : d + (q + size) ≡ d + q + size = omega arith in
      moved_bind d (read q) _ _ (near q (omega arith)) (λ x.
      moved_bind d (items read size (q + size) k) _ _
      (near_items read read' size near k (q + size) (omega arith) ∙ ap (λ (p : ℕ). items read' size p k) e) (λ _. refl))

  near_ascending : (read read' : ℕ → Result ℕ) (size : ℕ) → Near size read read'
      → (k low q : ℕ) → q + size * k ≤ len → moved d (ascending read size low q k) ≡ ascending read' size low (d + q) k
  unfolding ascending
  near_ascending read read' size near zero low q l = refl
  near_ascending read read' size near (suc k) low q l =
      let m : size * suc k ≡ size * k + size = mul-suc size k in
      let e : d + (q + size) ≡ d + q + size = omega arith in
      moved_bind d (read q) _ _ (near q (omega arith)) (λ x.
      moved_bind d (need _ 7 q) _ _ (moved_need d (leb low x) 7 q) (λ _.
      moved_bind d (ascending read size (suc x) (q + size) k) _ _
      (near_ascending read read' size near k (suc x) (q + size) (omega arith)
      ∙ ap (λ (p : ℕ). ascending read' size (suc x) p k) e) (λ _. refl)))

  near_body : (f : Form) → form_fits f len ≡ true → moved d (form_body part f 0 len) ≡ form_body bytes f (d + 0) len
  near_body Bare t = refl
  near_body (Numbers m) t =
      moved_bind d (ascending (reference part m) 2 0 0 (len / 2)) _ _
      (near_ascending (reference part m) (reference bytes m) 2 (near_reference m) (len / 2) 0 0 (omega arith)) (λ _. refl)
  near_body (States n most) t =
      moved_bind d (items (mask part n) 8 0 (len / 8)) _ _
      (near_items (mask part n) (mask bytes n) 8 (near_mask n) (len / 8) 0 (omega arith)) (λ _. refl)
  near_body (Clauses n two) t =
      moved_bind d (items (clause part n (clause_rule two)) 16 0 (len / 16)) _ _
      (near_items (clause part n (clause_rule two)) (clause bytes n (clause_rule two)) 16 (near_clause n (clause_rule two)) (len / 16) 0
      (omega arith)) (λ _. refl)
  near_body (One a) t =
      let l = eqb-true len 2 t in moved_bind d (reference part a 0) _ _ (near_reference a 0 (omega arith)) (λ _. refl)
  near_body (Two a b) t =
      let l = eqb-true len 4 t in
      let e : d + 2 ≡ d + 0 + 2 = omega arith in
      moved_bind d (reference part a 0) _ _ (near_reference a 0 (omega arith)) (λ _.
      moved_bind d (reference part b 2) _ _ (near_reference b 2 (omega arith) ∙ ap (reference bytes b) e) (λ _. refl))

  -- a body that fits its form says what the file says there
  pub part_says : (f : Form) → form_fits f len ≡ true
      → fault_from d (form_body part f 0 (length part)) ≡ fault (form_body bytes f d len)
  part_says f t =
      let e : d + 0 ≡ d = omega arith in
      ap (λ (l : ℕ). fault_from d (form_body part f 0 l)) part_length
      ∙ moved_told d (form_body part f 0 len) _ (near_body f t)
      ∙ ap (λ (p : ℕ). fault (form_body bytes f p len)) e

-- Reading what was written: fields, and items one after the other.
-- Assumes nothing.
use mathlib.Core.Path.{◌≡◌, refl, sym, ap, subst, ◌∙◌}
use Prim.Native.Nat.{ℕ, suc, ◌+◌, ◌*◌, ◌^◌, ◌≤◌, ◌<◌}
use native.Mathlib.Nat.{le_trans, pow-le-pow_right, mul-suc}
use native.Mathlib.Omega.{arith}
use mathlib.Core.Bool.{Bool}
use mathlib.Core.List.{List, [], ◌∷◌, ◌++◌, append_assoc}
use lib.ListN.{length, length-append}
use lib.Dec.{leb, ltb, eqb, le→leb, lt→ltb}
use Rattle.meaning.specs.Result.{Result, found, ◌>>=◌, need}
use Rattle.meaning.specs.Bytes.{bytes_of, number}
use Rattle.meaning.specs.File.{Step}
use Rattle.meaning.specs.Layout.{items, ascending, field, count, mask, reference, off_mask, action, clause, step}
use Rattle.meaning.specs.Writing.{each, write_off, write_action, write_clause, write_step, AllFrom, All, Ascending, FitsStep}
use Rattle.meaning.proofs.Results.{bind_in, need_in, and_in}
use Rattle.meaning.proofs.Numbers.{length_bytes_of}
use Rattle.meaning.proofs.Given.{FitsClause}
use Rattle.meaning.proofs.Places.{by_test}
use Rattle.meaning.proofs.Off.{FitsOff, FitsActionOf, read_off, read_no_off, written_off}
use Rattle.meaning.proofs.Suffix.{At, at_next, inside_here, number_back, after_number, byte_back, after_byte}

-- the reader gives the value wherever its bytes stand, if it fits
abbrev pub Back : {A : Type 0} → List ℕ → (A → Type 0) → (A → List ℕ) → (ℕ → Result A) → Type 0
Back {A} bytes P write read = (x : A) → P x → (p : ℕ) (rest : List ℕ) → At bytes p (write x ++ rest) → read p ≡ found x

-- ---- fields

module _ (bytes : List ℕ) where
  pub field_back : (k : ℕ) → Back bytes (λ x. x < 256 ^ k) (bytes_of k) (field bytes k)
  unfolding field
  field_back k x h p rest w =
      let n = length_bytes_of k x in
      bind_in _ (need_in _ 3 p (inside_here bytes p (bytes_of k x) rest w k (omega arith))) (ap found (number_back bytes p k x rest w h))

  pub byte_field : (x p : ℕ) (rest : List ℕ) → At bytes p (x ∷ rest) → field bytes 1 p ≡ found x
  unfolding field
  byte_field x p rest w = bind_in _ (need_in _ 3 p (inside_here bytes p (x ∷ []) rest w 1 (omega arith)))
      (ap found (byte_back bytes p x rest w))

  pub count_back : (low high : ℕ) → high < 65536 → Back bytes (λ c. (low ≤ c) × (c ≤ high)) (bytes_of 2) (count bytes low high)
  unfolding count
  count_back low high b c h p rest w =
      let l : c < 256 ^ 2 = omega arith in
      bind_in _ (field_back 2 c l p rest w)
      (bind_in _ (need_in _ 4 p (and_in (leb low c) (leb c high) (le→leb low c h.0) (le→leb c high h.1))) refl)

  -- a number of k bytes that must be below a bound
  bounded_back : (k bound r : ℕ) → bound ≤ 256 ^ k → Back bytes (λ x. x < bound) (bytes_of k)
      (λ p. field bytes k p >>= λ x. need (ltb x bound) r p >>= λ _. found x)
  bounded_back k bound r b x h p rest w = bind_in _ (field_back k x (le_trans h b) p rest w)
      (bind_in _ (need_in _ r p (lt→ltb x bound h)) refl)

  pub mask_back : (n : ℕ) → n ≤ 64 → Back bytes (λ m. m < 2 ^ n) (bytes_of 8) (mask bytes n)
  unfolding mask
  mask_back n b = bounded_back 8 (2 ^ n) 5 (pow-le-pow_right (omega arith) b)

  pub reference_back : (bound : ℕ) → bound ≤ 65536 → Back bytes (λ r. r < bound) (bytes_of 2) (reference bytes bound)
  unfolding reference
  reference_back bound b = bounded_back 2 bound 6 b

  pub off_back : (v n : ℕ) → n ≤ 64 → Back bytes (FitsOff v n) (write_off v) (off_mask bytes v n)
  off_back v n b m h p rest w =
      by_test (eqb v 3)
      (λ t.
      let a : At bytes p (bytes_of 8 m ++ rest) = subst (λ (x : List ℕ). At bytes p (x ++ rest)) (written_off v m t) w in
      read_off bytes v n p t ∙ mask_back n b m h.0 p rest a)
      (λ f. read_no_off bytes v n p f ∙ ap found (sym (h.1 f)))

  pub action_back : (v n : ℕ) → n ≤ 64 → Back bytes (FitsActionOf v n) (write_action v) (action bytes v n)
  unfolding action write_action
  action_back v n b a (h, o) p rest w =
      let w₀ : At bytes p (bytes_of 8 a.pre ++ (bytes_of 8 a.add ++ (bytes_of 8 a.del ++ (write_off v a.off ++ rest)))) =
      simp append_assoc at w in
      let w₁ = after_number bytes p 8 a.pre _ w₀ (p + 8) refl in
      let w₂ = after_number bytes (p + 8) 8 a.add _ w₁ (p + 16) (omega arith) in
      let w₃ = after_number bytes (p + 16) 8 a.del _ w₂ (p + 24) (omega arith) in
      bind_in _ (mask_back n b a.pre h.pre p _ w₀)
      (bind_in _ (mask_back n b a.add h.add (p + 8) _ w₁)
      (bind_in _ (mask_back n b a.del h.del (p + 16) _ w₂)
      (bind_in _ (off_back v n b a.off (h.off, o) (p + 24) rest w₃) refl)))

  pub clause_back : (n : ℕ) (rule : ℕ → ℕ → Bool) → n ≤ 64 → Back bytes (FitsClause n rule) write_clause (clause bytes n rule)
  unfolding clause write_clause
  clause_back n rule b c h p rest w =
      let w₀ : At bytes p (bytes_of 8 c.positive ++ (bytes_of 8 c.negative ++ rest)) = simp append_assoc at w in
      bind_in _ (mask_back n b c.positive h.0 p _ w₀)
      (bind_in _ (mask_back n b c.negative h.1 (p + 8) rest (after_number bytes p 8 c.positive _ w₀ (p + 8) refl))
      (bind_in _ (need_in _ 7 p h.2) refl))

-- ---- items one after the other

module _ {A : Type 0} (P : A → Type 0) (write : A → List ℕ) (size : ℕ) (sized : (x : A) → P x → length (write x) ≡ size) where
  pub length_each : (xs : List A) (i : ℕ) → AllFrom (λ _. P) i xs → length (each write xs) ≡ size * length xs
  unfolding each
  length_each [] i h = sym (omega arith)
  length_each (x ∷ xs) i h =
      let m : size * suc (length xs) ≡ size * length xs + size = mul-suc size (length xs) in
      let e = length_each xs (suc i) h.1 in
      let s = sized x h.0 in
      length-append (write x) (each write xs) ∙ omega arith

  module _ (bytes : List ℕ) (read : ℕ → Result A) (back : Back bytes P write read) where
    pub items_back : (xs : List A) (i : ℕ) → AllFrom (λ _. P) i xs → (p : ℕ) (rest : List ℕ) → At bytes p (each write xs ++ rest)
        → items read size p (length xs) ≡ found xs
    unfolding items each
    items_back [] i h p rest w = refl
    items_back (x ∷ xs) i h p rest w =
        let w₀ : At bytes p (write x ++ (each write xs ++ rest)) = simp append_assoc at w in
        bind_in _ (back x h.0 p _ w₀)
        (bind_in _ (items_back xs (suc i) h.1 (p + size) rest
        (at_next bytes p (write x) _ w₀ (p + size) (ap (λ (k : ℕ). p + k) (sized x h.0)))) refl)

-- the same in ascending order
module _ (P : ℕ → Type 0) (write : ℕ → List ℕ) (size : ℕ) (sized : (x : ℕ) → P x → length (write x) ≡ size)
    (bytes : List ℕ) (read : ℕ → Result ℕ) (back : Back bytes P write read) where
  pub ascending_back : (xs : List ℕ) (i low : ℕ) → AllFrom (λ _. P) i xs → Ascending low xs → (p : ℕ) (rest : List ℕ)
      → At bytes p (each write xs ++ rest)
      → ascending read size low p (length xs) ≡ found xs
  unfolding ascending each
  ascending_back [] i low h a p rest w = refl
  ascending_back (x ∷ xs) i low h a p rest w =
      let w₀ : At bytes p (write x ++ (each write xs ++ rest)) = simp append_assoc at w in
      bind_in _ (back x h.0 p _ w₀)
      (bind_in _ (need_in (leb low x) 7 p (le→leb low x a.0))
      (bind_in _ (ascending_back xs (suc i) (suc x) h.1 a.1 (p + size) rest
      (at_next bytes p (write x) _ w₀ (p + size) (ap (λ (k : ℕ). p + k) (sized x h.0)))) refl))

-- ---- steps

module _ (bytes : List ℕ) where
  premises_back : (ps : List ℕ) → length ps ≡ 3 → All (λ r. r < 65536) ps → (p q s : ℕ) → p + 2 ≡ q → q + 2 ≡ s → (rest : List ℕ)
      → At bytes p (each (bytes_of 2) ps ++ rest)
      → number 2 bytes p ∷ number 2 bytes q ∷ number 2 bytes s ∷ [] ≡ ps
  unfolding each
  premises_back [] e h p q s d d' rest w = absurd (omega arith)
  premises_back (a ∷ []) e h p q s d d' rest w = absurd (omega arith)
  premises_back (a ∷ b ∷ []) e h p q s d d' rest w = absurd (omega arith)
  premises_back (a ∷ b ∷ c ∷ []) e h p q s d d' rest w =
      let w₀ : At bytes p (bytes_of 2 a ++ (bytes_of 2 b ++ (bytes_of 2 c ++ rest))) = simp append_assoc at w in
      let w₁ = after_number bytes p 2 a _ w₀ q d in
      let w₂ = after_number bytes q 2 b _ w₁ s d' in
      let n₀ = number_back bytes p 2 a _ w₀ h.0 in
      let n₁ = number_back bytes q 2 b _ w₁ h.1.0 in
      let n₂ = number_back bytes s 2 c _ w₂ h.1.1.0 in
      cc
  premises_back (a ∷ b ∷ c ∷ d₀ ∷ ds) e h p q s d d' rest w = absurd (omega arith)

pub length_step : (s : Step) → FitsStep s → length (write_step s) ≡ 12
unfolding write_step
length_step s h =
    let e = length_each (λ r. r < 65536) (bytes_of 2) 2 (λ x _. length_bytes_of 2 x) s.premises 0 h.premises in
    let t = h.three in
    simp (length-append, length_bytes_of) (omega arith)

pub step_back : (bytes : List ℕ) → Back bytes FitsStep write_step (step bytes)
unfolding step write_step
step_back bytes s h p rest w =
    let w₀ : At bytes p (s.rule ∷ s.kind ∷ (bytes_of 2 s.left ++ (bytes_of 2 s.right ++ (each (bytes_of 2) s.premises ++ rest)))) =
    simp append_assoc at w in
    let w₁ = after_byte bytes p s.rule _ w₀ (p + 1) refl in
    let w₂ = after_byte bytes (p + 1) s.kind _ w₁ (p + 2) (omega arith) in
    let w₄ = after_number bytes (p + 2) 2 s.left _ w₂ (p + 4) (omega arith) in
    let w₆ = after_number bytes (p + 4) 2 s.right _ w₄ (p + 6) (omega arith) in
    let n = length_step s h in
    bind_in _ {y = s} (need_in _ 3 p (inside_here bytes p (write_step s) rest w 12 (omega arith)))
    (ap found {y = s} λ i. record {
      rule = byte_back bytes p s.rule _ w₀ i;
      kind = byte_back bytes (p + 1) s.kind _ w₁ i;
      left = number_back bytes (p + 2) 2 s.left _ w₂ h.left i;
      right = number_back bytes (p + 4) 2 s.right _ w₄ h.right i;
      premises = premises_back bytes s.premises h.three h.premises (p + 6) (p + 8) (p + 10) (omega arith) (omega arith) rest w₆ i;
    })

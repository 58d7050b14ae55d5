-- Where the parts of a file are refused: with 1 to 7 or 16, at a place within the part.
-- Assumes nothing.
use mathlib.Core.Path.{◌≡◌, refl, ap}
use Prim.Native.Nat.{ℕ, zero, suc, ◌+◌, ◌*◌, ◌/◌, ◌^◌, ◌≤◌}
use native.Mathlib.Nat.{mul-suc, mul-div-le}
use native.Mathlib.Omega.{arith}
use mathlib.Core.Logic.{inl, inr}
use mathlib.Core.Bool.{Bool, ◌&&◌}
use mathlib.Core.List.{List}
use lib.Dec.{T, leb, ltb, eqb, leb→le, eqb→eq}
use Rattle.meaning.specs.Result.{Result, found, ◌>>=◌, need}
use Rattle.meaning.specs.Bytes.{number}
use Rattle.meaning.specs.declared.Clause.{Clause}
use Rattle.meaning.specs.File.{Basic, basic}
use Rattle.meaning.specs.Layout.{items, ascending, field, count, mask, reference, off_mask, action, clause, step, Kind, plain, one}
use Rattle.meaning.specs.Layout.{two, clauses, goal_at, off_size, action_count_at, action_size, after_actions, unknown_mask, read_task}
use Rattle.meaning.specs.Structure.{action_set_count}
use Rattle.meaning.specs.Points.{OfLayout}
use Rattle.meaning.proofs.Results.{and_out}
use Rattle.meaning.proofs.Numbered.{Yields, given, Numbered, then_ok, need_ok, either_ok}
use Rattle.meaning.proofs.Places.{by_test, off_some, places, after_actions_lem}
use Rattle.meaning.proofs.Off.{read_off, read_no_off}

-- one of the layout's numbers, from place lo to place hi
pub record Within (lo hi r q : ℕ) : Type 0 where
  pub number : OfLayout r
  pub low : lo ≤ q
  pub high : q ≤ hi

pub within : {lo hi : ℕ} (r q : ℕ) → T (leb 1 r && leb r 7) → lo ≤ q → q ≤ hi → Within lo hi r q
within r q t l h =
    let b = and_out (leb 1 r) (leb r 7) t in
    record { number = inl (leb→le 1 r b.0, leb→le r 7 b.1); low = l; high = h }

-- where its item of `size` bytes is between two places, a reader is refused, if at all, between them
abbrev pub Part : ℕ → ℕ → {A : Type 0} → ℕ → (ℕ → Result A) → Type 0
Part lo hi size read = (p : ℕ) → lo ≤ p → p + size ≤ hi → Numbered (Within lo hi) (read p)

module _ (lo hi : ℕ) where
  pub need_within : (b : Bool) (r p : ℕ) → T (leb 1 r && leb r 7) → lo ≤ p → p ≤ hi → Yields (Within lo hi) (λ _. T b) (need b r p)
  need_within b r p t l h = need_ok b r p (within r p t l h)

  -- ---- items one after the other

  pub items_in : {A : Type 0} (read : ℕ → Result A) (size : ℕ) → Part lo hi size read
      → (k : ℕ) → Part lo hi (size * k) (λ p. items read size p k)
  unfolding items
  items_in read size h zero p l u = given tt
  items_in read size h (suc k) p l u =
      let e = mul-suc size k in
      then_ok (h p l (omega arith)) (λ _ _. then_ok (items_in read size h k (p + size) (omega arith) (omega arith)) (λ _ _. given tt))

  ascending_in : (read : ℕ → Result ℕ) (size : ℕ) → Part lo hi size read
      → (k low : ℕ) → Part lo hi (size * k) (λ p. ascending read size low p k)
  unfolding ascending
  ascending_in read size h zero low p l u = given tt
  ascending_in read size h (suc k) low p l u =
      let e = mul-suc size k in
      then_ok (h p l (omega arith)) (λ x _. then_ok (need_within _ 7 p tt l (omega arith)) (λ _ _.
      then_ok (ascending_in read size h k (suc x) (p + size) (omega arith) (omega arith)) (λ _ _. given tt)))

  -- ---- fields

  module _ (bytes : List ℕ) where
    pub field_in : (k p : ℕ) → lo ≤ p → p ≤ hi → Yields (Within lo hi) (λ x. x ≡ number k bytes p) (field bytes k p)
    unfolding field
    field_in k p l h = then_ok (need_within _ 3 p tt l h) (λ _ _. given refl)

    pub count_in : (low high p : ℕ) → lo ≤ p → p ≤ hi
        → Yields (Within lo hi) (λ c. (c ≡ number 2 bytes p) × (c ≤ high)) (count bytes low high p)
    unfolding count
    count_in low high p l h =
        then_ok (field_in 2 p l h) (λ c e.
        then_ok (need_within _ 4 p tt l h) (λ _ t. given (e, leb→le c high (and_out (leb low c) _ t).1)))

    -- a number of k bytes that must be below a bound
    bounded_in : (k bound r : ℕ) → T (leb 1 r && leb r 7)
        → Part lo hi k (λ p. field bytes k p >>= λ x. need (ltb x bound) r p >>= λ _. found x)
    bounded_in k bound r t p l h =
        then_ok (field_in k p l (omega arith)) (λ x _. then_ok (need_within _ r p t l (omega arith)) (λ _ _. given tt))

    pub mask_in : (n : ℕ) → Part lo hi 8 (mask bytes n)
    unfolding mask
    mask_in n = bounded_in 8 (2 ^ n) 5 tt

    pub reference_in : (bound : ℕ) → Part lo hi 2 (reference bytes bound)
    unfolding reference
    reference_in bound = bounded_in 2 bound 6 tt

    off_in_lem : (v n : ℕ) → Part lo hi (off_size v) (off_mask bytes v n)
    off_in_lem v n p l h =
        by_test (eqb v 3)
        (λ t. rw (read_off bytes v n p t) (mask_in n p l (omega (arith, off_some v t))))
        (λ f. rw (read_no_off bytes v n p f) (given tt))

    action_in_lem : (v n : ℕ) → Part lo hi (action_size v) (action bytes v n)
    unfolding action
    action_in_lem v n p l h =
        let o = places v in
        then_ok (mask_in n p l (omega arith)) (λ _ _.
        then_ok (mask_in n (p + 8) (omega arith) (omega arith)) (λ _ _.
        then_ok (mask_in n (p + 16) (omega arith) (omega arith)) (λ _ _.
        then_ok (off_in_lem v n (p + 24) (omega arith) (omega arith)) (λ _ _. given tt))))

    clause_in : (n : ℕ) (rule : ℕ → ℕ → Bool) → Part lo hi 16 (clause bytes n rule)
    unfolding clause
    clause_in n rule p l h =
        then_ok (mask_in n p l (omega arith)) (λ _ _.
        then_ok (mask_in n (p + 8) (omega arith) (omega arith)) (λ _ _.
        then_ok (need_within _ 7 p tt l (omega arith)) (λ _ _. given tt)))

    pub step_in : Part lo hi 12 (step bytes)
    unfolding step
    step_in p l h = then_ok (need_within _ 3 p tt l (omega arith)) (λ _ _. given tt)

    -- ---- the task

    unknown_in : (v n s : ℕ) → lo ≤ 14 → 22 ≤ hi → Numbered (Within lo hi) (unknown_mask bytes v n s)
    unfolding unknown_mask
    unknown_in v n s l h =
        either_ok (eqb v 1) (given tt)
        (then_ok (mask_in n 14 l h) (λ u _.
        then_ok (need_ok _ 16 14 (record { number = inr refl; low = l; high = omega arith })) (λ _ _. given tt)))

    pub task_in : lo ≤ 4 → action_set_count bytes ≤ hi
        → Yields (Within lo hi) (λ t. (t.0.facts ≡ number 1 bytes 5) × (t.1 ≡ action_set_count bytes)) (read_task bytes)
    unfolding read_task action_set_count
    task_in l h =
        let v : ℕ = number 1 bytes 4 in
        let o = places v in
        let e = after_actions_lem v (number 2 bytes (action_count_at v)) in
        then_ok (field_in 1 4 l (omega arith)) (λ _ w. rw w
        (then_ok (need_within _ 2 4 tt l (omega arith)) (λ _ _.
        then_ok (field_in 1 5 (omega arith) (omega arith)) (λ n i.
        then_ok (need_within _ 4 5 tt (omega arith) (omega arith)) (λ _ _.
        then_ok (mask_in n 6 (omega arith) (omega arith)) (λ s _.
        then_ok (unknown_in v n s (omega arith) (omega arith)) (λ _ _.
        then_ok (mask_in n (goal_at v) (omega arith) (omega arith)) (λ _ _.
        then_ok (off_in_lem v n (goal_at v + 8) (omega arith) (omega arith)) (λ _ _.
        then_ok (count_in 0 256 (action_count_at v) (omega arith) (omega arith)) (λ m c.
        then_ok (items_in _ (action_size v) (action_in_lem v n) m (action_count_at v + 2) (omega arith) (rw c.0 (omega arith))) (λ _ _.
        given (i, ap (after_actions v) c.0))))))))))))

-- ---- bodies of entries, of a length that fits the kind

abbrev pub Bodies : {A : Type 0} → Kind A → Type 0
Bodies k = (lo hi len : ℕ) → T (k.fits len) → Part lo hi len (λ p. k.body p len)

pub plain_in : {A : Type 0} (a : A) → Bodies (plain a)
unfolding plain
plain_in a lo hi len t p l h = given tt

module _ (bytes : List ℕ) where
  pub one_in : {A : Type 0} (make : ℕ → A) (bound : ℕ) → Bodies (one bytes make bound)
  unfolding one
  one_in make bound lo hi len t p l h =
      let e = eqb→eq len 2 t in
      then_ok (reference_in lo hi bytes bound p l (omega arith)) (λ _ _. given tt)

  pub two_in : {A : Type 0} (make : ℕ → ℕ → A) (bound bound' : ℕ) → Bodies (two bytes make bound bound')
  unfolding two
  two_in make bound bound' lo hi len t p l h =
      let e = eqb→eq len 4 t in
      then_ok (reference_in lo hi bytes bound p l (omega arith)) (λ _ _.
      then_ok (reference_in lo hi bytes bound' (p + 2) (omega arith) (omega arith)) (λ _ _. given tt))

-- as many items of a size as the length has room for, and numbers that ascend
pub list_in : {A B : Type 0} (size : ℕ) (make : List B → A) (read : ℕ → Result B) → ((lo hi : ℕ) → Part lo hi size read)
    → (lo hi len : ℕ) → Part lo hi len (λ p. items read size p (len / size) >>= λ xs. found (make xs))
list_in size make read h lo hi len p l u =
    let e = mul-div-le len size in
    then_ok (items_in lo hi read size (h lo hi) (len / size) p l (omega arith)) (λ _ _. given tt)

pub ascending_list_in : {A : Type 0} (size : ℕ) (make : List ℕ → A) (read : ℕ → Result ℕ) → ((lo hi : ℕ) → Part lo hi size read)
    → (lo hi len : ℕ) → Part lo hi len (λ p. ascending read size 0 p (len / size) >>= λ xs. found (make xs))
ascending_list_in size make read h lo hi len p l u =
    let e = mul-div-le len size in
    then_ok (ascending_in lo hi read size (h lo hi) (len / size) 0 p l (omega arith)) (λ _ _. given tt)

pub clauses_in : (bytes : List ℕ) (n : ℕ) (rule : ℕ → ℕ → Bool) (make : List Clause → Basic) → Bodies (clauses bytes n rule make)
unfolding clauses
clauses_in bytes n rule make lo hi len t =
    list_in 16 (λ cs. basic (make cs)) (clause bytes n rule) (λ lo hi. clause_in lo hi bytes n rule) lo hi len

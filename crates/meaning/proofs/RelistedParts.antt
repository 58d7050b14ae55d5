-- Files that list their explicit states otherwise: what is read where no state is, is the same.
-- Assumes nothing.
use mathlib.Core.Path.{◌≡◌, refl, sym, ap, ◌∙◌}
use Prim.Native.Nat.{ℕ, zero, suc, ◌+◌, ◌-◌, ◌*◌, ◌/◌, ◌≤◌}
use native.Mathlib.Nat.{mul-suc, mul-div-le}
use native.Mathlib.Omega.{arith}
use mathlib.Core.Bool.{Bool, true, false}
use mathlib.Core.List.{List, [], ◌∷◌}
use lib.ListN.{get_elem?}
use lib.Bits.{bit_and}
use lib.Dec.{T, leb, eqb, leb→le, eqb→eq}
use Rattle.meaning.specs.Result.{Result, found, ◌>>=◌, need, known}
use Rattle.meaning.specs.Bytes.{number, inside}
use Rattle.meaning.specs.File.{either, explicit, horn, two_cnf, basic, complement, intersection, union, progression, regression}
use Rattle.meaning.specs.Layout.{horn_rule, two_cnf_rule, items, ascending, field, count, mask, reference, action, clause, step, Kind}
use Rattle.meaning.specs.Layout.{plain, one, two, clauses, action_kinds, state_kinds, entry, goal_at, action_count_at, action_size}
use Rattle.meaning.specs.Layout.{off_size, off_mask, unknown_mask, read_task}
use Rattle.meaning.specs.Structure.{action_set_count}
use Rattle.meaning.specs.Relisted.{Relisted}
use Rattle.meaning.proofs.Results.{bind_same}
use Rattle.meaning.proofs.Numbered.{then_same, need_same}
use Rattle.meaning.proofs.Places.{by_test, off_some, places, after_actions_lem}
use Rattle.meaning.proofs.Off.{read_off, read_no_off}
use Rattle.meaning.proofs.LayoutFaults.{field_in, count_in}
use Rattle.meaning.proofs.Breaches.{Tail}
use Rattle.meaning.proofs.Relisted.{Free, number_same}

module _ {a b : List ℕ} (r : Relisted a b) (lo hi : ℕ) (free : Free a lo hi) where
  -- readers of `size` bytes that give the same between two places
  abbrev pub Equal : {A : Type 0} → ℕ → (ℕ → A) → (ℕ → A) → Type 0
  Equal size f g = (p : ℕ) → lo ≤ p → p + size ≤ hi → f p ≡ g p

  -- ---- items one after the other

  pub items_eq : {A : Type 0} (size : ℕ) {f g : ℕ → Result A} → Equal size f g → (k : ℕ)
      → Equal (size * k) (λ p. items f size p k) (λ p. items g size p k)
  unfolding items
  items_eq size h zero p l u = refl
  items_eq size h (suc k) p l u =
      let e = mul-suc size k in
      bind_same (h p l (omega arith)) λ _. bind_same (items_eq size h k (p + size) (omega arith) (omega arith)) λ _. refl

  ascending_eq : (size : ℕ) {f g : ℕ → Result ℕ} → Equal size f g → (k low : ℕ)
      → Equal (size * k) (λ p. ascending f size low p k) (λ p. ascending g size low p k)
  unfolding ascending
  ascending_eq size h zero low p l u = refl
  ascending_eq size h (suc k) low p l u =
      let e = mul-suc size k in
      bind_same (h p l (omega arith)) λ x.
      bind_same refl λ _. bind_same (ascending_eq size h k (suc x) (p + size) (omega arith) (omega arith)) λ _. refl

  -- ---- fields

  number_eq : (k : ℕ) → Equal k (number k a) (number k b)
  number_eq k p l u = number_same r k p (λ q m v. free q (omega arith) (omega arith))

  field_eq : (k : ℕ) → Equal k (field a k) (field b k)
  unfolding field inside
  field_eq k p l u = rw (r.size, number_eq k p l u)

  pub count_eq : (low high : ℕ) → Equal 2 (count a low high) (count b low high)
  unfolding count
  count_eq low high p l u = rw (field_eq 2 p l u)

  mask_eq : (n : ℕ) → Equal 8 (mask a n) (mask b n)
  unfolding mask
  mask_eq n p l u = rw (field_eq 8 p l u)

  reference_eq : (bound : ℕ) → Equal 2 (reference a bound) (reference b bound)
  unfolding reference
  reference_eq bound p l u = rw (field_eq 2 p l u)

  off_eq : (v n : ℕ) → Equal (off_size v) (off_mask a v n) (off_mask b v n)
  off_eq v n p l u =
      by_test (eqb v 3)
      (λ t. read_off a v n p t ∙ mask_eq n p l (omega (arith, off_some v t)) ∙ sym (read_off b v n p t))
      (λ f. read_no_off a v n p f ∙ sym (read_no_off b v n p f))

  action_eq : (v n : ℕ) → Equal (action_size v) (action a v n) (action b v n)
  unfolding action
  action_eq v n p l u =
      let o = places v in
      rw (
        mask_eq n p l (omega arith),
        mask_eq n (p + 8) (omega arith) (omega arith),
        mask_eq n (p + 16) (omega arith) (omega arith),
        off_eq v n (p + 24) (omega arith) (omega arith),
      )

  clause_eq : (n : ℕ) (rule : ℕ → ℕ → Bool) → Equal 16 (clause a n rule) (clause b n rule)
  unfolding clause
  clause_eq n rule p l u = rw (mask_eq n p l (omega arith), mask_eq n (p + 8) (omega arith) (omega arith))

  pub step_eq : Equal 12 (step a) (step b)
  unfolding step inside
  step_eq p l u =
      rw (
        r.size,
        number_eq 1 p l (omega arith),
        number_eq 1 (p + 1) (omega arith) (omega arith),
        number_eq 2 (p + 2) (omega arith) (omega arith),
        number_eq 2 (p + 4) (omega arith) (omega arith),
        number_eq 2 (p + 6) (omega arith) (omega arith),
        number_eq 2 (p + 8) (omega arith) (omega arith),
        number_eq 2 (p + 10) (omega arith) (omega arith),
      )

  -- ---- the task

  unknown_eq : (v n s : ℕ) → lo ≤ 14 → 22 ≤ hi → unknown_mask a v n s ≡ unknown_mask b v n s
  unfolding unknown_mask
  unknown_eq v n s l u =
      ap (λ x. elim (eqb v 1) [ true ↦ found 0 | false ↦ x >>= λ m. need (eqb (bit_and s m) 0) 16 14 >>= λ _. found m ]) (mask_eq n 14 l u)

  pub task_eq : lo ≤ 4 → action_set_count a ≤ hi → read_task a ≡ read_task b
  unfolding read_task action_set_count
  task_eq l u =
      let w : ℕ = number 1 a 4 in
      let o = places w in
      let x = after_actions_lem w (number 2 a (action_count_at w)) in
      then_same (field_in 0 4 a 1 4 (omega arith) (omega arith)) (field_eq 1 4 l (omega arith)) λ v i. rw i
      (bind_same refl λ _.
      bind_same (field_eq 1 5 (omega arith) (omega arith)) λ n.
      bind_same refl λ _.
      bind_same (mask_eq n 6 (omega arith) (omega arith)) λ s.
      bind_same (unknown_eq w n s (omega arith) (omega arith)) λ _.
      bind_same (mask_eq n (goal_at w) (omega arith) (omega arith)) λ _.
      bind_same (off_eq w n (goal_at w + 8) (omega arith) (omega arith)) λ _.
      then_same (count_in 0 40 a 0 256 (action_count_at w) (omega arith) (omega arith))
      (count_eq 0 256 (action_count_at w) (omega arith) (omega arith))
      λ m e. bind_same (items_eq (action_size w) (action_eq w n) m (action_count_at w + 2) (omega arith) (rw e.0 (omega arith))) λ _. refl)

  -- ---- kinds of entry

  -- bodies that are the same where their length fits
  abbrev Bodies : {A : Type 0} → (ℕ → Bool) → (ℕ → ℕ → Result A) → (ℕ → ℕ → Result A) → Type 0
  Bodies fits f g = (len : ℕ) → T (fits len) → Equal len (λ p. f p len) (λ p. g p len)

  one_eq : {A : Type 0} (make : ℕ → A) (bound : ℕ) → Bodies (one a make bound).fits (one a make bound).body (one b make bound).body
  unfolding one
  one_eq make bound len t p l u = let e = eqb→eq len 2 t in bind_same (reference_eq bound p l (omega arith)) λ _. refl

  two_eq : {A : Type 0} (make : ℕ → ℕ → A) (bound bound' : ℕ)
      → Bodies (two a make bound bound').fits (two a make bound bound').body (two b make bound bound').body
  unfolding two
  two_eq make bound bound' len t p l u =
      let e = eqb→eq len 4 t in
      bind_same (reference_eq bound p l (omega arith)) λ _.
      bind_same (reference_eq bound' (p + 2) (omega arith) (omega arith)) λ _. refl

  list_eq : {A B : Type 0} (size : ℕ) (make : List B → A) {f g : ℕ → Result B} → Equal size f g → (len : ℕ)
      → Equal len (λ p. items f size p (len / size) >>= λ xs. found (make xs)) (λ p. items g size p (len / size) >>= λ xs. found (make xs))
  list_eq size make h len p l u =
      let e = mul-div-le len size in bind_same (items_eq size h (len / size) p l (omega arith)) λ _. refl

  -- kinds that differ in such bodies alone
  infixr 5 ◌&◌
  pub data Table {A : Type 0} : List (Kind A) → List (Kind A) → Type 0 where
    end : Table [] []
    ◌&◌ : {fits allowed : ℕ → Bool} {f g : ℕ → ℕ → Result A} {ks ks' : List (Kind A)} → Bodies fits f g → Table ks ks'
        → Table (record { fits = fits; allowed = allowed; body = f } ∷ ks) (record { fits = fits; allowed = allowed; body = g } ∷ ks')

  tail_eq : {A : Type 0} (fits allowed : ℕ → Bool) (f g : ℕ → ℕ → Result A) → Bodies fits f g → (p len : ℕ) → lo ≤ p → p + 3 + len ≤ hi
      → Tail p len (record { fits = fits; allowed = allowed; body = f }) ≡ Tail p len (record { fits = fits; allowed = allowed; body = g })
  tail_eq fits allowed f g h p len l u =
      need_same (fits len) 4 p λ _ t. bind_same refl λ _. h len t (p + 3) (omega arith) (omega arith)

  of_kind_lem : {A : Type 0} {ks ks' : List (Kind A)} → Table ks ks' → (j p len : ℕ) → lo ≤ p → p + 3 + len ≤ hi
      → (known (get_elem? ks j) 4 (p + 2) >>= Tail p len) ≡ (known (get_elem? ks' j) 4 (p + 2) >>= Tail p len)
  unfolding known ◌>>=◌
  of_kind_lem end j = λ _ _ _ _. refl
  of_kind_lem (◌&◌ {fits} {allowed} {f} {g} h t) zero = tail_eq fits allowed f g h
  of_kind_lem (h & t) (suc j) = of_kind_lem t j

  pub action_kinds_eq : (m i : ℕ) → Table (action_kinds a m i) (action_kinds b m i)
  unfolding action_kinds plain two
  action_kinds_eq m i =
      (λ _ _ _ _ _. refl)
      & (λ len _ p l u.
      let e = mul-div-le len 2 in bind_same (ascending_eq 2 (reference_eq m) (len / 2) 0 p l (omega arith)) λ _. refl)
      & two_eq either i i
      & end

  pub state_kinds_eq : (most n m i : ℕ) → Table (state_kinds a most n m i) (state_kinds b most n m i)
  unfolding state_kinds plain one two clauses
  state_kinds_eq most n m i =
      (λ _ _ _ _ _. refl)
      & (λ _ _ _ _ _. refl)
      & (λ _ _ _ _ _. refl)
      & (λ len _. list_eq 8 (λ ss. basic (explicit ss)) (mask_eq n) len)
      & (λ len _. list_eq 16 (λ cs. basic (horn cs)) (clause_eq n horn_rule) len)
      & (λ len _. list_eq 16 (λ cs. basic (two_cnf cs)) (clause_eq n two_cnf_rule) len)
      & one_eq complement i
      & two_eq intersection i i
      & two_eq union i i
      & two_eq progression i m
      & two_eq regression i m
      & end

  -- ---- an entry

  -- its length and kind are the same
  pub head_eq : {A : Type 0} (ks : List (Kind A)) (p : ℕ) → lo ≤ p → p + 3 ≤ hi → entry a ks p ≡ entry b ks p
  unfolding entry field inside
  head_eq ks p l u = rw (r.size, number_eq 2 p l (omega arith), number_eq 1 (p + 2) (omega arith) (omega arith))

  pub entry_eq : {A : Type 0} {ks ks' : List (Kind A)} → Table ks ks' → (p : ℕ) → lo ≤ p → p + 3 ≤ hi → p + 2 + number 2 a p ≤ hi
      → entry a ks p ≡ entry b ks' p
  unfolding entry
  entry_eq {ks' = ks'} table p l u v =
      (then_same (field_in p p a 2 p (omega arith) (omega arith)) refl λ len e. rw e
      (need_same _ 3 p λ _ _.
      need_same (leb 1 (number 2 a p)) 4 p λ _ t.
      let o = leb→le 1 (number 2 a p) t in
      of_kind_lem table (number 1 a (p + 2)) p (number 2 a p - 1) l (omega arith)))
      ∙ head_eq ks' p l u

-- The readings of a version 1 file and of its twin, side by side: the same refusals, from place 14 on 8 bytes later, or values that go
-- together.
-- Assumes nothing.
use mathlib.Core.Path.{◌≡◌, refl, sym, ap}
use Prim.Native.Nat.{ℕ, zero, suc, ◌+◌, ◌-◌, ◌/◌, ◌≤◌}
use native.Mathlib.Omega.{arith}
use mathlib.Core.Bool.{Bool, true, false, not, ◌&&◌, ◌||◌}
use mathlib.Core.List.{List, [], ◌∷◌}
use lib.ListN.{length, get_elem?}
use lib.Dec.{T, leb, eqb, le→leb}
use Rattle.task.proofs.Tests.{and_both, is_true}
use Rattle.meaning.specs.Result.{Result, refuse, found, ◌>>=◌, need, known}
use Rattle.meaning.specs.Bytes.{number}
use Rattle.meaning.specs.File.{either, explicit, horn, two_cnf, basic, complement, intersection, union, progression, regression}
use Rattle.meaning.specs.Layout.{horn_rule, two_cnf_rule, items, ascending, field, count, mask, reference, action, clause, step, Kind}
use Rattle.meaning.specs.Layout.{plain, one, two, clauses, action_kinds, state_kinds, entry, entries, off_mask}
use Rattle.meaning.specs.Versions.{twin, of_bytes, moved_place}
use Rattle.meaning.proofs.Moved.{number_moved, inside_moved}

-- ---- places

-- a byte from 14 on has moved, one before it has not, and the place of another refusal is no byte
later : (r p q : ℕ) → T (leb r 7 || eqb r 16 || eqb r 19) → 14 ≤ p → p + 8 ≡ q → moved_place r p ≡ q
unfolding moved_place of_bytes
later r p q t l e =
    let c : Bool = leb r 7 || eqb r 16 || eqb r 19 in
    rw (is_true (c && leb 14 p) (and_both c (leb 14 p) t (le→leb 14 p l)), moved_place) e

pub unmoved : (r p : ℕ) → T (not (of_bytes r)) → moved_place r p ≡ p
unfolding moved_place
unmoved r p t = go (of_bytes r) t
  where
    go : (c : Bool) → T (not c) → elim (c && leb 14 p) [ true ↦ p + 8 | false ↦ p ] ≡ p
    go true t = absurd t
    go false t = refl

-- ---- two readings

pub data Moved {A : Type 0} (Good : A → A → Type 0) : Result A → Result A → Type 0 where
  moved : {r p q : ℕ} → moved_place r p ≡ q → Moved Good (refuse r p) (refuse r q)
  both : {x y : A} → Good x y → Moved Good (found x) (found y)

-- with the same value
abbrev pub Same : {A : Type 0} → Result A → Result A → Type 0
Same x y = Moved (λ u v. u ≡ v) x y

pub bind : {A B : Type 0} {Good : A → A → Type 0} {Good' : B → B → Type 0} {x y : Result A} {g h : A → Result B}
    → Moved Good x y → ((u v : A) → Good u v → Moved Good' (g u) (h v)) → Moved Good' (x >>= g) (y >>= h)
unfolding ◌>>=◌
bind (moved e) k = moved e
bind (both {x} {y} g) k = k x y g

pub bind_same : {A B : Type 0} {Good : B → B → Type 0} {x y : Result A} {g h : A → Result B}
    → Same x y → ((u : A) → Moved Good (g u) (h u)) → Moved Good (x >>= g) (y >>= h)
bind_same m k = bind m λ u v e. rw (← e) (k u)

pub need_moved : {c d : Bool} (r p q : ℕ) → d ≡ c → moved_place r p ≡ q → Same (need c r p) (need d r q)
unfolding need
need_moved {c = true} r p q i e = rw i (both refl)
need_moved {c = false} r p q i e = rw i (moved e)

-- a test of a byte from 14 on
pub need_later : {c d : Bool} {p q : ℕ} (r : ℕ) → d ≡ c → T (leb r 7 || eqb r 16 || eqb r 19) → 14 ≤ p → p + 8 ≡ q
    → Same (need c r p) (need d r q)
need_later {p = p} {q = q} r i t l e = need_moved r p q i (later r p q t l e)

-- values with the place behind them
pub record Ends {A : Type 0} (u v : A × ℕ) : Type 0 where
  pub value : u.0 ≡ v.0
  pub from : 14 ≤ u.1
  pub end : u.1 + 8 ≡ v.1

module _ (a : List ℕ) (long : 14 ≤ length a) where
  abbrev b : List ℕ
  b = twin a

  -- readers that give the same 8 bytes later
  abbrev pub Reads : {A : Type 0} → (ℕ → Result A) → (ℕ → Result A) → Type 0
  Reads f g = (p q : ℕ) → 14 ≤ p → p + 8 ≡ q → Same (f p) (g q)

  -- ---- items one after the other

  pub items_moved : {A : Type 0} (size : ℕ) {f g : ℕ → Result A} → Reads f g → (k : ℕ)
      → Reads (λ p. items f size p k) (λ p. items g size p k)
  unfolding items
  items_moved size h zero p q l e = both refl
  items_moved size h (suc k) p q l e =
      bind_same (h p q l e) λ _.
      bind_same (items_moved size h k (p + size) (q + size) (omega arith) (omega arith)) λ _. both refl

  ascending_moved : (size : ℕ) {f g : ℕ → Result ℕ} → Reads f g → (k low : ℕ)
      → Reads (λ p. ascending f size low p k) (λ p. ascending g size low p k)
  unfolding ascending
  ascending_moved size h zero low p q l e = both refl
  ascending_moved size h (suc k) low p q l e =
      bind_same (h p q l e) λ x.
      bind_same (need_later 7 refl tt l e) λ _.
      bind_same (ascending_moved size h k (suc x) (p + size) (q + size) (omega arith) (omega arith)) λ _. both refl

  -- ---- fields

  pub field_moved : (k : ℕ) → Reads (field a k) (field b k)
  unfolding field
  field_moved k p q l e =
      bind_same (need_later 3 (inside_moved a long k p q e) tt l e) λ _. both (sym (number_moved a long k p q l e))

  pub count_moved : (low high : ℕ) → Reads (count a low high) (count b low high)
  unfolding count
  count_moved low high p q l e = bind_same (field_moved 2 p q l e) λ _. bind_same (need_later 4 refl tt l e) λ _. both refl

  pub mask_moved : (n : ℕ) → Reads (mask a n) (mask b n)
  unfolding mask
  mask_moved n p q l e = bind_same (field_moved 8 p q l e) λ _. bind_same (need_later 5 refl tt l e) λ _. both refl

  reference_moved : (bound : ℕ) → Reads (reference a bound) (reference b bound)
  unfolding reference
  reference_moved bound p q l e = bind_same (field_moved 2 p q l e) λ _. bind_same (need_later 6 refl tt l e) λ _. both refl

  pub action_moved : (n : ℕ) → Reads (action a 1 n) (action b 2 n)
  unfolding action off_mask ◌>>=◌
  action_moved n p q l e =
      bind_same (mask_moved n p q l e) λ _.
      bind_same (mask_moved n (p + 8) (q + 8) (omega arith) (omega arith)) λ _.
      bind_same (mask_moved n (p + 16) (q + 16) (omega arith) (omega arith)) λ _. both refl

  clause_moved : (n : ℕ) (rule : ℕ → ℕ → Bool) → Reads (clause a n rule) (clause b n rule)
  unfolding clause
  clause_moved n rule p q l e =
      bind_same (mask_moved n p q l e) λ _.
      bind_same (mask_moved n (p + 8) (q + 8) (omega arith) (omega arith)) λ _.
      bind_same (need_later 7 refl tt l e) λ _. both refl

  pub step_moved : Reads (step a) (step b)
  unfolding step
  step_moved p q l e =
      bind_same (need_later 3 (inside_moved a long 12 p q e) tt l e) λ _.
      rw (
        number_moved a long 1 p q l e,
        number_moved a long 1 (p + 1) (q + 1) (omega arith) (omega arith),
        number_moved a long 2 (p + 2) (q + 2) (omega arith) (omega arith),
        number_moved a long 2 (p + 4) (q + 4) (omega arith) (omega arith),
        number_moved a long 2 (p + 6) (q + 6) (omega arith) (omega arith),
        number_moved a long 2 (p + 8) (q + 8) (omega arith) (omega arith),
        number_moved a long 2 (p + 10) (q + 10) (omega arith) (omega arith),
      ) (both refl)

  -- ---- kinds of entry

  abbrev Bodies : {A : Type 0} → (ℕ → ℕ → Result A) → (ℕ → ℕ → Result A) → Type 0
  Bodies f g = (len : ℕ) → Reads (λ p. f p len) (λ p. g p len)

  one_moved : {A : Type 0} (make : ℕ → A) (bound : ℕ) → Bodies (one a make bound).body (one b make bound).body
  unfolding one
  one_moved make bound len p q l e = bind_same (reference_moved bound p q l e) λ _. both refl

  two_moved : {A : Type 0} (make : ℕ → ℕ → A) (bound bound' : ℕ)
      → Bodies (two a make bound bound').body (two b make bound bound').body
  unfolding two
  two_moved make bound bound' len p q l e =
      bind_same (reference_moved bound p q l e) λ _.
      bind_same (reference_moved bound' (p + 2) (q + 2) (omega arith) (omega arith)) λ _. both refl

  list_moved : {A B : Type 0} (size : ℕ) (make : List B → A) {f g : ℕ → Result B} → Reads f g → (len : ℕ)
      → Reads (λ p. items f size p (len / size) >>= λ xs. found (make xs)) (λ p. items g size p (len / size) >>= λ xs. found (make xs))
  list_moved size make h len p q l e = bind_same (items_moved size h (len / size) p q l e) λ _. both refl

  -- kinds that differ in such bodies alone
  infixr 5 ◌&◌
  pub data Table {A : Type 0} : List (Kind A) → List (Kind A) → Type 0 where
    end : Table [] []
    ◌&◌ : {fits allowed : ℕ → Bool} {f g : ℕ → ℕ → Result A} {ks ks' : List (Kind A)} → Bodies f g → Table ks ks'
        → Table (record { fits = fits; allowed = allowed; body = f } ∷ ks) (record { fits = fits; allowed = allowed; body = g } ∷ ks')

  pub action_kinds_moved : (m i : ℕ) → Table (action_kinds a m i) (action_kinds b m i)
  unfolding action_kinds plain two
  action_kinds_moved m i =
      (λ _ _ _ _ _. both refl)
      & (λ len p q l e. bind_same (ascending_moved 2 (reference_moved m) (len / 2) 0 p q l e) λ _. both refl)
      & two_moved either i i
      & end

  pub state_kinds_moved : (most n m i : ℕ) → Table (state_kinds a most n m i) (state_kinds b most n m i)
  unfolding state_kinds plain one two clauses
  state_kinds_moved most n m i =
      (λ _ _ _ _ _. both refl)
      & (λ _ _ _ _ _. both refl)
      & (λ _ _ _ _ _. both refl)
      & list_moved 8 (λ ss. basic (explicit ss)) (mask_moved n)
      & list_moved 16 (λ cs. basic (horn cs)) (clause_moved n horn_rule)
      & list_moved 16 (λ cs. basic (two_cnf cs)) (clause_moved n two_cnf_rule)
      & one_moved complement i
      & two_moved intersection i i
      & two_moved union i i
      & two_moved progression i m
      & two_moved regression i m
      & end

  -- ---- entries

  -- what is looked at once the kind is known
  abbrev Tail : {A : Type 0} → ℕ → ℕ → Kind A → Result A
  Tail p len k = need (k.fits len) 4 p >>= λ _. need (k.allowed len) 19 p >>= λ _. k.body (p + 3) len

  of_kind_lem : {A : Type 0} {ks ks' : List (Kind A)} → Table ks ks' → (j len : ℕ)
      → Reads (λ p. known (get_elem? ks j) 4 (p + 2) >>= Tail p len) (λ q. known (get_elem? ks' j) 4 (q + 2) >>= Tail q len)
  unfolding known ◌>>=◌
  of_kind_lem end j len p q l e = moved (later 4 (p + 2) (q + 2) tt (omega arith) (omega arith))
  of_kind_lem (h & t) zero len p q l e =
      bind_same (need_later 4 refl tt l e) λ _.
      bind_same (need_later 19 refl tt l e) λ _. h len (p + 3) (q + 3) (omega arith) (omega arith)
  of_kind_lem (h & t) (suc j) len p q l e = of_kind_lem t j len p q l e

  entry_moved : {A : Type 0} {ks ks' : List (Kind A)} → Table ks ks' → Reads (entry a ks) (entry b ks')
  unfolding entry
  entry_moved table p q l e =
      bind_same (field_moved 2 p q l e) λ len.
      bind_same (need_later 3 (inside_moved a long (2 + len) p q e) tt l e) λ _.
      bind_same (need_later 4 refl tt l e) λ _.
      rw (number_moved a long 1 (p + 2) (q + 2) (omega arith) (omega arith)) (of_kind_lem table (number 1 a (p + 2)) (len - 1) p q l e)

  pub entries_moved : {A : Type 0} {kinds kinds' : ℕ → List (Kind A)} → ((i : ℕ) → Table (kinds i) (kinds' i)) → (k i p q : ℕ)
      → 14 ≤ p → p + 8 ≡ q → Moved Ends (entries a kinds i p k) (entries b kinds' i q k)
  unfolding entries
  entries_moved table zero i p q l e = both (record { value = refl; from = l; end = e })
  entries_moved table (suc k) i p q l e =
      let m : ℕ = number 2 a p in
      bind_same (entry_moved (table i) p q l e) λ x. rw (number_moved a long 2 p q l e)
      (bind (entries_moved table k (suc i) (p + 2 + m) (q + 2 + m) (omega arith) (omega arith)) λ u v h.
      both (record { value = ap (λ xs. x ∷ xs) h.value; from = h.from; end = h.end }))

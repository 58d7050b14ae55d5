-- A file under limits beside the full reading of it: alike, or refused with 19 at the first of its breaches.
-- Assumes nothing.
use mathlib.Core.Path.{◌≡◌, refl, sym, ◌∙◌}
use mathlib.Core.Logic.{◌⊎◌, inl, inr}
use Prim.Native.Nat.{ℕ, zero, suc, ◌+◌, ◌-◌, ◌*◌, ◌/◌, ◌%◌, ◌≤◌}
use native.Mathlib.Nat.{le_refl}
use native.Mathlib.Omega.{arith}
use mathlib.Core.Bool.{Bool, true, false}
use mathlib.Core.List.{List, [], ◌∷◌, ◌++◌, append_assoc}
use lib.ListN.{length, get_elem?}
use lib.Dec.{T, leb, eqb, leb→le, le→leb}
use borrow.Author.Tests.{ne_eqb}
use Rattle.task.proofs.Tests.{is_true}
use Rattle.meaning.specs.declared.Limits.{Limits}
use Rattle.meaning.specs.Limits.{full}
use Rattle.meaning.specs.Result.{Result, refuse, found, ◌>>=◌, need, known}
use Rattle.meaning.specs.Bytes.{number}
use Rattle.meaning.specs.File.{all, listed, either, empty, init, goal, explicit, horn, two_cnf, basic, complement, intersection}
use Rattle.meaning.specs.File.{union, progression, regression, File}
use Rattle.meaning.specs.Layout.{horn_rule, two_cnf_rule, mask, reference, Kind, up_to, plain, one, two, clauses, action_kinds, state_kinds}
use Rattle.meaning.specs.Layout.{entry, entries, read_within, read_file}
use Rattle.meaning.specs.Structure.{after_entries, action_set_count, state_set_count, step_count, listed_at}
use Rattle.meaning.specs.Small.{above, long_lists, breaches}
use Rattle.meaning.specs.Points.{OfLayout}
use Rattle.meaning.proofs.Places.{behind_actions}
use Rattle.meaning.proofs.Results.{no_found, need_in, and_out}
use Rattle.meaning.proofs.Numbered.{Numbered, given, then_ok, widen}
use Rattle.meaning.proofs.LayoutFaults.{within, Bodies, field_in, mask_in, reference_in, count_in, step_in, items_in, task_in}
use Rattle.meaning.proofs.LayoutFaults.{need_within, plain_in, one_in, two_in, list_in, ascending_list_in, clauses_in}
use Rattle.meaning.proofs.Stages.{From, empty as no-breach, from_append, from_lower, from_above, none_above}
use Rattle.meaning.proofs.Stages.{Stage, fault, fine, breach, second, limit, bind, first_same, rest_same, need_first}

-- ---- kinds of entry

-- an entry at place p, from its kind on
abbrev pub Tail : {A : Type 0} → ℕ → ℕ → Kind A → Result A
Tail p len k = need (k.fits len) 4 p >>= λ _. need (k.allowed len) 19 p >>= λ _. k.body (p + 3) len

-- how many states an entry of kind j lists
abbrev pub states_of : ℕ → ℕ → ℕ
states_of j len = elim (eqb j 3) [ true ↦ len / 8 | false ↦ 0 ]

none_beyond : (j len : ℕ) → states_of (suc (suc (suc (suc j)))) len ≡ 0
none_beyond j len = rw (ne_eqb (suc (suc (suc (suc j)))) 3 (λ e. omega arith), states_of)

module _ (most : ℕ) where
  -- a kind under limits beside the full one, where an entry of a length lists `states len` states
  abbrev pub Pair : {A : Type 0} → (ℕ → ℕ) → Kind A → Kind A → Type 0
  Pair states k k' =
      (p len hi : ℕ) → p + 3 + len ≤ hi → Stage p hi (λ _. Unit {0}) (Tail p len k) (Tail p len k') (above most (states len) p)

  pair : {A : Type 0} (states : ℕ → ℕ) (k : Kind A) (allowed : ℕ → Bool) → Bodies k
      → ((p len : ℕ) → T (k.fits len)
      → Stage p (suc p) (λ _. Unit {0}) (need (allowed len) 19 p) (need (k.allowed len) 19 p) (above most (states len) p))
      → Pair states (record { fits = k.fits; allowed = allowed; body = k.body }) k
  pair states k allowed w s p len hi h =
      need_first (k.fits len) 4 tt (omega arith) (from_above most (states len) p (le_refl p)) λ _ t.
      rest_same (suc p) (omega arith) (omega arith) (s p len t) λ _ _. w (suc p) hi len t (p + 3) (omega arith) (omega arith)

  -- one that lists no states and allows what fits
  free : {A : Type 0} (k : Kind A) → Bodies k → ((len : ℕ) → T (k.allowed len)) → Pair (λ _. 0) k k
  free k w t = pair (λ _. 0) k k.allowed w (λ p len _. rw (none_above most p, need_in (k.allowed len) 19 p (t len)) (fine tt))

  -- kind by kind, where an entry of kind j lists `states j len` states, and one of no kind none
  infixr 5 ◌&◌
  pub data Table {A : Type 0} : (ℕ → ℕ → ℕ) → List (Kind A) → List (Kind A) → Type 0 where
    end : {states : ℕ → ℕ → ℕ} → ((j len : ℕ) → states j len ≡ 0) → Table states [] []
    ◌&◌ : {states : ℕ → ℕ → ℕ} {k k' : Kind A} {ks ks' : List (Kind A)}
        → Pair (states 0) k k' → Table (λ j. states (suc j)) ks ks' → Table states (k ∷ ks) (k' ∷ ks')

  of_kind_lem : {A : Type 0} {states : ℕ → ℕ → ℕ} {ks ks' : List (Kind A)} → Table states ks ks' → (j p len hi : ℕ) → p + 3 + len ≤ hi
      → Stage p hi (λ _. Unit {0}) (known (get_elem? ks j) 4 (p + 2) >>= Tail p len) (known (get_elem? ks' j) 4 (p + 2) >>= Tail p len)
      (above most (states j len) p)
  unfolding known ◌>>=◌
  of_kind_lem (end z) j p len hi h = rw (z j len, none_above most p) (fault (within 4 (p + 2) tt (omega arith) (omega arith)) no-breach)
  of_kind_lem (k & t) zero p len hi h = k p len hi h
  of_kind_lem (k & t) (suc j) p len hi h = of_kind_lem t j p len hi h

  -- where a length fits the kind, limits only ask for its number of items
  few : (size most' len : ℕ) → T (up_to size most' len) → up_to size most len ≡ leb (len / size) most
  unfolding up_to
  few size most' len t = rw (is_true (eqb (len % size) 0) (and_out (eqb (len % size) 0) _ t).0)

  few_listed : (size most' p len : ℕ) → T (up_to size most' len)
      → Stage p (suc p) (λ _. Unit {0}) (need (up_to size most len) 19 p) (need (up_to size most' len) 19 p) (above most (len / size) p)
  few_listed size most' p len t =
      rw (few size most' len t) (limit most (len / size) p (up_to size most' len) (omega arith) (omega arith) t)

  pub action_table_lem : (bytes : List ℕ) (m i : ℕ) → Table (λ j len. 0) (action_kinds bytes m i) (action_kinds bytes m i)
  unfolding action_kinds plain two
  action_table_lem bytes m i =
      free _ (plain_in all) (λ _. tt)
      & free _ (λ lo hi len _. ascending_list_in 2 listed (reference bytes m) (λ lo hi. reference_in lo hi bytes m) lo hi len) (λ _. tt)
      & free _ (two_in bytes either i i) (λ _. tt)
      & end (λ _ _. refl)

  pub state_table_lem : (bytes : List ℕ) (n m i : ℕ) → Table states_of (state_kinds bytes most n m i) (state_kinds bytes full.states n m i)
  unfolding state_kinds plain one two clauses
  state_table_lem bytes n m i =
      free _ (plain_in (basic empty)) (λ _. tt)
      & free _ (plain_in (basic init)) (λ _. tt)
      & free _ (plain_in (basic goal)) (λ _. tt)
      & pair (λ len. len / 8) _ (up_to 8 most)
      (λ lo hi len _. list_in 8 (λ ss. basic (explicit ss)) (mask bytes n) (λ lo hi. mask_in lo hi bytes n) lo hi len)
      (few_listed 8 full.states)
      & free _ (clauses_in bytes n horn_rule horn) (λ _. tt)
      & free _ (clauses_in bytes n two_cnf_rule two_cnf) (λ _. tt)
      & free _ (one_in bytes complement i) (λ _. tt)
      & free _ (two_in bytes intersection i i) (λ _. tt)
      & free _ (two_in bytes union i i) (λ _. tt)
      & free _ (two_in bytes progression i m) (λ _. tt)
      & free _ (two_in bytes regression i m) (λ _. tt)
      & end (λ j. none_beyond (suc (suc (suc (suc (suc (suc (suc j))))))))

-- ---- entries

module _ (bytes : List ℕ) where
  -- the places do not go back
  pub after_from : (p k : ℕ) → p ≤ after_entries bytes p k
  unfolding after_entries
  after_from p zero = le_refl p
  after_from p (suc k) = let h = after_from (p + 2 + number 2 bytes p) k in omega arith

  from_long : (most p k : ℕ) → From p (long_lists bytes most p k)
  unfolding long_lists
  from_long most p zero = no-breach
  from_long most p (suc k) =
      from_append (from_above most _ p (le_refl p)) (from_lower (omega arith) (from_long most (p + 2 + number 2 bytes p) k))

  -- the breach of the entry at place p, if it is one
  abbrev pub breach_at : ℕ → (ℕ → ℕ → ℕ) → ℕ → List ℕ
  breach_at most states p = above most (states (number 1 bytes (p + 2)) (number 2 bytes p - 1)) p

  pub entry_stage : {A : Type 0} (most : ℕ) {states : ℕ → ℕ → ℕ} {ks ks' : List (Kind A)} → Table most states ks ks' → (p : ℕ)
      → Stage p (p + 2 + number 2 bytes p) (λ _. Unit {0}) (entry bytes ks p) (entry bytes ks' p) (breach_at most states p)
  unfolding entry
  entry_stage most {states} table p =
      let o = le_refl p in
      let f : From p (breach_at most states p) = from_above most _ p o in
      first_same p o (omega arith) f (field_in p p bytes 2 p o o) λ len e. rw e
      (need_first _ 3 tt (omega arith) f λ _ _.
      need_first _ 4 tt (omega arith) f λ _ t.
      let l = leb→le 1 (number 2 bytes p) t in
      of_kind_lem most table (number 1 bytes (p + 2)) p (number 2 bytes p - 1) (p + 2 + number 2 bytes p) (omega arith))

  -- k entries, where `bs p k` are the breaches of those from place p
  module _ {A : Type 0} (most : ℕ) (states : ℕ → ℕ → ℕ) (kinds kinds' : ℕ → List (Kind A))
      (table : (i : ℕ) → Table most states (kinds i) (kinds' i)) (bs : ℕ → ℕ → List ℕ) (bs-zero : (p : ℕ) → bs p 0 ≡ [])
      (bs-suc : (p k : ℕ) → bs p (suc k) ≡ breach_at most states p ++ bs (p + 2 + number 2 bytes p) k)
      (from : (p k : ℕ) → From p (bs p k)) where
    entries_stage : (k i p : ℕ) → Stage p (after_entries bytes p k) (λ r. r.1 ≡ after_entries bytes p k)
        (entries bytes kinds i p k) (entries bytes kinds' i p k) (bs p k)
    unfolding entries after_entries
    entries_stage zero i p = rw (bs-zero p) (fine refl)
    entries_stage (suc k) i p =
        let q : ℕ = p + 2 + number 2 bytes p in
        let l = after_from q k in
        rw (bs-suc p k)
        (bind q (omega arith) l (from q k) (entry_stage most (table i) p) λ _ _.
        rest_same (after_entries bytes q k) l (le_refl _) (entries_stage k (suc i) q) λ _ e. given e)

  action_stage : (m k p : ℕ) → Stage p (after_entries bytes p k) (λ r. r.1 ≡ after_entries bytes p k)
      (entries bytes (action_kinds bytes m) 0 p k) (entries bytes (action_kinds bytes m) 0 p k) []
  action_stage m k =
      entries_stage 0 (λ _ _. 0) _ _ (action_table_lem 0 bytes m) (λ _ _. []) (λ _. refl) (λ p _. rw (none_above 0 p)) (λ _ _. no-breach) k 0

  state_stage : (most n m k p : ℕ) → Stage p (after_entries bytes p k) (λ r. r.1 ≡ after_entries bytes p k)
      (entries bytes (state_kinds bytes most n m) 0 p k) (entries bytes (state_kinds bytes full.states n m) 0 p k)
      (long_lists bytes most p k)
  unfolding long_lists listed_at
  state_stage most n m k =
      entries_stage most states_of _ _ (state_table_lem most bytes n m) (long_lists bytes most) (λ _. refl) (λ _ _. refl) (from_long most) k 0

-- ---- the file

pub file_stage : (l : Limits) (bytes : List ℕ) → Stage 0 (step_count bytes + 2 + 12 * number 2 bytes (step_count bytes)) (λ _. Unit {0})
    (read_within l bytes) (read_file bytes) (breaches bytes l)
unfolding read_file read_within breaches action_set_count state_set_count step_count
file_stage l bytes =
    let A : ℕ = action_set_count bytes in
    let S : ℕ = state_set_count bytes in
    let K : ℕ = step_count bytes in
    let n : ℕ = number 2 bytes K in
    let low = behind_actions bytes in
    let after : A + 2 ≤ S = after_from bytes (A + 2) (number 2 bytes A) in
    let later : S + 2 ≤ K = after_from bytes (S + 2) (number 2 bytes S) in
    let f = from_append (from_long bytes l.states (S + 2) (number 2 bytes S)) (from_above l.steps n K later) in
    let f₀ = from_append (from_above l.size (length bytes) 0 (le_refl 0)) (from_lower (omega arith) f) in
    rw append_assoc
    (need_first _ 1 tt (omega arith) f₀ λ _ t.
    need_first _ 1 tt (omega arith) f₀ λ _ _.
    bind 1 (omega arith) (omega arith) (from_lower (omega arith) f)
    (limit l.size (length bytes) 0 _ (omega arith) (omega arith) (and_out (leb 4 (length bytes)) _ t).1) λ _ _.
    first_same A (omega arith) (omega arith) (from_lower (omega arith) f) (task_in 1 A bytes (omega arith) (le_refl A)) λ t e. rw e.1
    (first_same (A + 2) (omega arith) (omega arith) (from_lower (omega arith) f)
    (count_in A (A + 2) bytes 0 256 A (omega arith) (omega arith)) λ ac c. rw c.0
    (bind S after (omega arith) (from_lower (omega arith) f)
    (action_stage bytes (length t.0.actions) (number 2 bytes A) (A + 2)) λ es e. rw e
    (first_same (S + 2) (omega arith) (omega arith) f (count_in S (S + 2) bytes 0 512 S (omega arith) (omega arith)) λ sc c. rw c.0
    (bind K later (omega arith) (from_above l.steps n K (le_refl K))
    (state_stage bytes l.states t.0.facts (number 2 bytes A) (number 2 bytes S) (S + 2)) λ ss e. rw e
    (first_same K (le_refl K) (omega arith) (from_above l.steps n K (le_refl K))
    (count_in K K bytes 1 2048 K (le_refl K) (le_refl K)) λ kc c. rw c.0
    (rest_same (suc K) (omega arith) (omega arith)
    (limit l.steps n K _ (le_refl K) (omega arith) (le→leb n 2048 (omega arith))) λ _ _.
    then_ok (items_in (suc K) (K + 2 + 12 * n) _ 12 (step_in _ _ bytes) n (K + 2) (omega arith) (omega arith)) λ _ _.
    then_ok (need_within _ _ _ 3 (K + 2 + 12 * n) tt (omega arith) (omega arith)) λ _ _. given tt)))))))

alike : {lo hi : ℕ} {A : Type 0} {P : A → Type 0} {x y : Result A} {bs : List ℕ} → Stage lo hi P x y bs
    → (x ≡ y) ⊎ ((p : ℕ) × (x ≡ refuse 19 p))
alike (fault w f) = inl refl
alike (fine h) = inl refl
alike (breach p l u h) = inr (p, refl)

pub read_alike : (l : Limits) (bytes : List ℕ) → (read_within l bytes ≡ read_file bytes) ⊎ ((p : ℕ) × (read_within l bytes ≡ refuse 19 p))
read_alike l bytes = alike (file_stage l bytes)

-- what is read under limits is what is read
pub read_full : (l : Limits) (bytes : List ℕ) (f : File) → read_within l bytes ≡ found f → read_file bytes ≡ found f
read_full l bytes f e =
    elim (read_alike l bytes) [
      | inl a ↦ cc
      | inr b ↦ no_found 19 b.0 f (sym b.1 ∙ e)
    ]

-- a layout is refused with 1 to 7 or 16
pub read_number : (bytes : List ℕ) → Numbered (λ r p. OfLayout r) (read_file bytes)
read_number bytes = widen (λ r p w. w.number) (second (file_stage full bytes))

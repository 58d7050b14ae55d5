-- Reading what was written: entries of every kind.
-- Assumes nothing.
use mathlib.Core.Path.{◌≡◌, refl, sym, ap, ◌∙◌, subst}
use mathlib.Core.Option.{some}
use Prim.Native.Nat.{ℕ, suc, ◌+◌, ◌-◌, ◌*◌, ◌/◌, ◌%◌, ◌^◌, ◌≤◌, ◌<◌}
use native.Mathlib.Nat.{mul-div_cancel_left, mul-mod_right, mul-le-mul_left}
use native.Mathlib.Omega.{arith}
use mathlib.Core.Bool.{Bool, true}
use mathlib.Core.List.{List, [], ◌∷◌, ◌++◌, append_assoc}
use lib.ListN.{length, get_elem?, length-append}
use lib.Dec.{T, eqb, leb, le→leb}
use Rattle.meaning.specs.declared.Clause.{Clause}
use Rattle.meaning.specs.Result.{Result, found, ◌>>=◌}
use Rattle.meaning.specs.Bytes.{bytes_of, number}
use Rattle.meaning.specs.File.{ActionSet, all, listed, either, Basic, empty, init, goal, explicit, horn, two_cnf, StateSet, basic}
use Rattle.meaning.specs.File.{complement, intersection, union, progression, regression, action_kind, basic_kind, state_kind}
use Rattle.meaning.specs.Layout.{items, ascending, mask, reference, clause, Kind, up_to, plain, one, two, clauses, action_kinds}
use Rattle.meaning.specs.Layout.{state_kinds, horn_rule, two_cnf_rule, entry, entries}
use Rattle.meaning.specs.Writing.{each, write_clause, write_entry, write_action_set, write_state_set, action_body, basic_body, state_body}
use Rattle.meaning.specs.Writing.{AllFrom, All, Ascending, FitsActionSet, FitsClauses, FitsBasic, listed_states}
use Rattle.meaning.proofs.Results.{bind_in, need_in, known_in, and_in}
use Rattle.meaning.proofs.Numbers.{length_bytes_of}
use Rattle.meaning.proofs.Given.{FitsClause, FitsWithin}
use Rattle.meaning.proofs.Suffix.{At, at_next, inside_here, number_back, after_number, byte_back, after_byte}
use Rattle.meaning.proofs.Back.{Back, field_back, mask_back, reference_back, clause_back, length_each, items_back, ascending_back}

-- ---- one entry

length_entry : (j : ℕ) (body : List ℕ) → length (write_entry j body) ≡ 2 + suc (length body)
unfolding write_entry
length_entry j body = simp (length-append, length_bytes_of)

-- the kind with number j takes the body, and reads x from it
record Holds {A : Type 0} (bytes : List ℕ) (kinds : List (Kind A)) (j : ℕ) (body : List ℕ) (x : A) : Type 0 where
  kind : Kind A
  here : get_elem? kinds j ≡ some kind
  short : suc (length body) < 65536
  fits : T (kind.fits (length body))
  allowed : T (kind.allowed (length body))
  reads : (p : ℕ) (rest : List ℕ) → At bytes p (body ++ rest) → kind.body p (length body) ≡ found x

module _ {A : Type 0} (bytes : List ℕ) (kinds : List (Kind A)) (j : ℕ) (body : List ℕ) (x : A) (h : Holds bytes kinds j body x) (p : ℕ)
    (rest : List ℕ)
    (w : At bytes p (write_entry j body ++ rest)) where
  entry_at : At bytes p (bytes_of 2 (suc (length body)) ++ (j ∷ body ++ rest))
  unfolding write_entry
  entry_at = simp append_assoc at w

  entry_length : number 2 bytes p ≡ suc (length body)
  entry_length = number_back bytes p 2 (suc (length body)) _ entry_at h.short

  entry_back : entry bytes kinds p ≡ found x
  unfolding entry
  entry_back =
      let len : ℕ = suc (length body) in
      let m : len - 1 ≡ length body = omega arith in
      let w₂ = after_number bytes p 2 len _ entry_at (p + 2) refl in
      let w₃ = after_byte bytes (p + 2) j _ w₂ (p + 3) (omega arith) in
      let n = length_entry j body in
      bind_in _ (field_back bytes 2 len h.short p _ entry_at)
      (bind_in _ (need_in _ 3 p (inside_here bytes p (write_entry j body) rest w (2 + len) (omega arith)))
      (bind_in _ (need_in _ 4 p (le→leb 1 len (omega arith)))
      (bind_in _ (known_in 4 (p + 2) (ap (get_elem? kinds) (byte_back bytes (p + 2) j _ w₂) ∙ h.here))
      (bind_in _ (need_in _ 4 p (subst (λ (l : ℕ). T (h.kind.fits l)) (sym m) h.fits))
      (bind_in _ (need_in _ 19 p (subst (λ (l : ℕ). T (h.kind.allowed l)) (sym m) h.allowed))
      (ap (h.kind.body (p + 3)) m ∙ h.reads (p + 3) rest w₃))))))

-- ---- entries one after the other

module _ {A : Type 0} (bytes : List ℕ) (P : ℕ → A → Type 0) (kind_of : A → ℕ) (body_of : A → List ℕ) (kinds : ℕ → List (Kind A)) (bound : ℕ)
    (holds : (i : ℕ) (x : A) → i < bound → P i x → Holds bytes (kinds i) (kind_of x) (body_of x) x) where
  abbrev write : A → List ℕ
  write x = write_entry (kind_of x) (body_of x)

  entries_back : (xs : List A) (i : ℕ) → i + length xs ≤ bound → AllFrom P i xs → (p : ℕ) (rest : List ℕ)
      → At bytes p (each write xs ++ rest)
      → entries bytes kinds i p (length xs) ≡ found (xs, p + length (each write xs))
  unfolding entries each
  entries_back [] i l h p rest w = ap (λ (q : ℕ). found ([], q)) (omega arith)
  entries_back (x ∷ xs) i l h p rest w =
      let w₀ : At bytes p (write x ++ (each write xs ++ rest)) = simp append_assoc at w in
      let g : Holds bytes (kinds i) (kind_of x) (body_of x) x = holds i x (omega arith) h.0 in
      let n : length (write x) ≡ 2 + suc (length (body_of x)) = length_entry (kind_of x) (body_of x) in
      let q : ℕ = p + length (write x) in
      let m : p + 2 + number 2 bytes p ≡ q = ap (λ (k : ℕ). p + 2 + k) (entry_length bytes (kinds i) (kind_of x) (body_of x) x g p _ w₀)
      ∙ omega arith in
      let a = length-append (write x) (each write xs) in
      bind_in _ (entry_back bytes (kinds i) (kind_of x) (body_of x) x g p _ w₀)
      (bind_in _ (ap (λ (k : ℕ). entries bytes kinds (suc i) k (length xs)) m
      ∙ entries_back xs (suc i) (omega arith) h.1 q rest (at_next bytes p (write x) _ w₀ q refl))
      (ap (λ (k : ℕ). found (x ∷ xs, k)) (omega arith)))

-- ---- each kind

-- k items of `size` bytes each are at most `most`
up_to_lem : (size most k len : ℕ) → 0 < size → len ≡ size * k → k ≤ most → T (up_to size most len)
unfolding up_to
up_to_lem size most k len some_size n few =
    let d : len / size ≡ k = ap (λ (x : ℕ). x / size) n ∙ mul-div_cancel_left k some_size in
    let m : len % size ≡ 0 = ap (λ (x : ℕ). x % size) n ∙ mul-mod_right size k in
    and_in (eqb (len % size) 0) (leb (len / size) most) (subst (λ (x : ℕ). T (eqb x 0)) (sym m) tt)
    (le→leb (len / size) most (subst (λ (x : ℕ). x ≤ most) (sym d) few))

module _ {A : Type 0} (bytes : List ℕ) {kinds : List (Kind A)} {j : ℕ} where
  plain_holds : {x : A} → get_elem? kinds j ≡ some (plain x) → Holds bytes kinds j [] x
  unfolding plain
  plain_holds {x} e = record { kind = plain x; here = e; short = omega arith; fits = tt; allowed = tt; reads = λ p rest w. refl }

  one_holds : (make : ℕ → A) (bound a : ℕ) → bound ≤ 65536 → a < bound → get_elem? kinds j ≡ some (one bytes make bound)
      → Holds bytes kinds j (bytes_of 2 a) (make a)
  unfolding one
  one_holds make bound a b h e =
      let n : length (bytes_of 2 a) ≡ 2 = length_bytes_of 2 a in
      record {
        kind = one bytes make bound;
        here = e;
        short = omega arith;
        fits = subst (λ (l : ℕ). T (eqb l 2)) (sym n) tt;
        allowed = tt;
        reads = λ p rest w. bind_in _ (reference_back bytes bound b a h p rest w) refl;
      }

  two_holds : (make : ℕ → ℕ → A) (bound bound' a c : ℕ) → bound ≤ 65536 → bound' ≤ 65536 → (a < bound) × (c < bound')
      → get_elem? kinds j ≡ some (two bytes make bound bound') → Holds bytes kinds j (bytes_of 2 a ++ bytes_of 2 c) (make a c)
  unfolding two
  two_holds make bound bound' a c b b' h e =
      let n : length (bytes_of 2 a ++ bytes_of 2 c) ≡ 4 = simp (length-append, length_bytes_of) in
      record {
        kind = two bytes make bound bound';
        here = e;
        short = omega arith;
        fits = subst (λ (l : ℕ). T (eqb l 4)) (sym n) tt;
        allowed = tt;
        reads = λ p rest w.
            let w₀ : At bytes p (bytes_of 2 a ++ (bytes_of 2 c ++ rest)) = simp append_assoc at w in
            bind_in _ (reference_back bytes bound b a h.0 p _ w₀)
            (bind_in _ (reference_back bytes bound' b' c h.1 (p + 2) rest (after_number bytes p 2 a _ w₀ (p + 2) refl)) refl);
      }

  -- a body that is a number of items of one size
  list_holds : {B : Type 0} (write : B → List ℕ) (size most : ℕ) (allow : ℕ → Bool) → 0 < size → suc (size * most) < 65536
      → (read : ℕ → ℕ → Result (List B)) (make : List B → A)
      → get_elem? kinds j
      ≡ some (record { fits = up_to size most; allowed = allow; body = λ p len. read p (len / size) >>= λ xs. found (make xs) })
      → (xs : List B) → length xs ≤ most → T (allow (length (each write xs))) → length (each write xs) ≡ size * length xs
      → ((p : ℕ) (rest : List ℕ) → At bytes p (each write xs ++ rest) → read p (length xs) ≡ found xs)
      → Holds bytes kinds j (each write xs) (make xs)
  list_holds write size most allow some_size small read make e xs few t n back =
      let len : ℕ = length (each write xs) in
      let d : len / size ≡ length xs = ap (λ (k : ℕ). k / size) n ∙ mul-div_cancel_left (length xs) some_size in
      let l : size * length xs ≤ size * most = mul-le-mul_left size few in
      record {
        kind = record { fits = up_to size most; allowed = allow; body = λ p len. read p (len / size) >>= λ ys. found (make ys) };
        here = e;
        short = omega arith;
        fits = up_to_lem size most (length xs) len some_size n few;
        allowed = t;
        reads = λ p rest w. bind_in _ (ap (read p) d ∙ back p rest w) refl;
      }

  -- ascending numbers of `size` bytes each, below a bound
  ascending_holds : (size most bound : ℕ) → 0 < size → suc (size * most) < 65536 → (read : ℕ → Result ℕ)
      → Back bytes (λ a. a < bound) (bytes_of size) read
      → (make : List ℕ → A) → get_elem? kinds j ≡ some
      (record { fits = up_to size most; allowed = λ _. true; body = λ p k. ascending read size 0 p (k / size) >>= λ xs. found (make xs) })
      → (xs : List ℕ) → (length xs ≤ most) × Ascending 0 xs × All (λ a. a < bound) xs
      → Holds bytes kinds j (each (bytes_of size) xs) (make xs)
  ascending_holds size most bound some_size small read back make e xs h =
      list_holds (bytes_of size) size most _ some_size small (λ p k. ascending read size 0 p k) make e xs h.0 tt
      (length_each (λ a. a < bound) (bytes_of size) size (λ a _. length_bytes_of size a) xs 0 h.2)
      (ascending_back (λ a. a < bound) (bytes_of size) size (λ a _. length_bytes_of size a) bytes read back xs 0 0 h.2 h.1)

  -- items of `size` bytes each with a property
  items_hold : {B : Type 0} (P : B → Type 0) (write : B → List ℕ) (size most : ℕ) (allow : ℕ → Bool)
      → 0 < size → suc (size * most) < 65536 → ((x : B) → length (write x) ≡ size) → (read : ℕ → Result B) → Back bytes P write read
      → (make : List B → A) → get_elem? kinds j ≡ some
      (record { fits = up_to size most; allowed = allow; body = λ p len. items read size p (len / size) >>= λ xs. found (make xs) })
      → (xs : List B) → (length xs ≤ most) × All P xs → ((len : ℕ) → len ≡ size * length xs → T (allow len))
      → Holds bytes kinds j (each write xs) (make xs)
  items_hold P write size most allow some_size small sized read back make e xs h t =
      let n : length (each write xs) ≡ size * length xs = length_each P write size (λ x _. sized x) xs 0 h.1 in
      list_holds write size most allow some_size small (λ p k. items read size p k) make e xs h.0 (t (length (each write xs)) n) n
      (items_back P write size (λ x _. sized x) bytes read back xs 0 h.1)

length_clause : (c : Clause) → length (write_clause c) ≡ 16
unfolding write_clause
length_clause c = simp (length-append, length_bytes_of)

clauses_hold : (bytes : List ℕ) {kinds : List (Kind StateSet)} {j : ℕ} (n : ℕ) → n ≤ 64
    → (rule : ℕ → ℕ → Bool) (make : List Clause → Basic)
    → get_elem? kinds j ≡ some (clauses bytes n rule make) → (cs : List Clause) → FitsClauses n rule cs
    → Holds bytes kinds j (each write_clause cs) (basic (make cs))
unfolding clauses
clauses_hold bytes n b rule make e cs h =
    items_hold bytes (FitsClause n rule) write_clause 16 256 _ (omega arith) (omega arith) length_clause
    (clause bytes n rule) (clause_back bytes n rule b) (λ ds. basic (make ds)) e cs h (λ _ _. tt)

-- ---- every entry that fits

module _ (bytes : List ℕ) where
  action_holds : (m : ℕ) → m ≤ 65536 → (i : ℕ) (x : ActionSet) → i < 65536 → FitsActionSet m i x
      → Holds bytes (action_kinds bytes m i) (action_kind x) (action_body x) x
  unfolding action_kinds action_kind action_body
  action_holds m b i all l h = plain_holds bytes refl
  action_holds m b i (listed is) l h =
      ascending_holds bytes 2 256 m (omega arith) (omega arith) (reference bytes m) (reference_back bytes m b) listed refl is h
  action_holds m b i (either a c) l h = two_holds bytes either i i a c (omega arith) (omega arith) h refl

  basic_holds : (most n m i : ℕ) → n ≤ 64 → (x : Basic) → FitsBasic n x → listed_states (basic x) ≤ most
      → Holds bytes (state_kinds bytes most n m i) (basic_kind x) (basic_body x) (basic x)
  unfolding state_kinds basic_kind basic_body listed_states
  basic_holds most n m i b empty h a = plain_holds bytes refl
  basic_holds most n m i b init h a = plain_holds bytes refl
  basic_holds most n m i b goal h a = plain_holds bytes refl
  basic_holds most n m i b (explicit ss) h a =
      items_hold bytes (λ s. s < 2 ^ n) (bytes_of 8) 8 4096 _ (omega arith) (omega arith) (length_bytes_of 8) (mask bytes n)
      (mask_back bytes n b) (λ xs. basic (explicit xs)) refl ss h (λ len e. up_to_lem 8 most (length ss) len (omega arith) e a)
  basic_holds most n m i b (horn cs) h a = clauses_hold bytes n b horn_rule horn refl cs h
  basic_holds most n m i b (two_cnf cs) h a = clauses_hold bytes n b two_cnf_rule two_cnf refl cs h

  state_holds : (most n m : ℕ) → n ≤ 64 → m ≤ 65536 → (i : ℕ) (x : StateSet) → i < 65536 → FitsWithin most n m i x
      → Holds bytes (state_kinds bytes most n m i) (state_kind x) (state_body x) x
  unfolding state_kinds state_kind state_body
  state_holds most n m b b' i (basic x) l h = basic_holds most n m i b x h.0 h.1
  state_holds most n m b b' i (complement a) l h = one_holds bytes complement i a (omega arith) h.0 refl
  state_holds most n m b b' i (intersection a c) l h = two_holds bytes intersection i i a c (omega arith) (omega arith) h.0 refl
  state_holds most n m b b' i (union a c) l h = two_holds bytes union i i a c (omega arith) (omega arith) h.0 refl
  state_holds most n m b b' i (progression a e) l h = two_holds bytes progression i m a e (omega arith) b' h.0 refl
  state_holds most n m b b' i (regression a e) l h = two_holds bytes regression i m a e (omega arith) b' h.0 refl

  pub action_sets_back : (m : ℕ) → m ≤ 256 → (es : List ActionSet) → length es ≤ 256 → AllFrom (FitsActionSet m) 0 es
      → (p : ℕ) (rest : List ℕ) → At bytes p (each write_action_set es ++ rest)
      → entries bytes (action_kinds bytes m) 0 p (length es) ≡ found (es, p + length (each write_action_set es))
  unfolding write_action_set
  action_sets_back m b es few h p rest w =
      entries_back bytes (FitsActionSet m) action_kind action_body (action_kinds bytes m) 65536 (action_holds m (omega arith)) es 0
      (omega arith) h p rest w

  pub state_sets_back : (most n m : ℕ) → n ≤ 64 → m ≤ 256 → (ss : List StateSet) → length ss ≤ 512 → AllFrom (FitsWithin most n m) 0 ss
      → (p : ℕ) (rest : List ℕ) → At bytes p (each write_state_set ss ++ rest)
      → entries bytes (state_kinds bytes most n m) 0 p (length ss) ≡ found (ss, p + length (each write_state_set ss))
  unfolding write_state_set
  state_sets_back most n m b b' ss few h p rest w =
      entries_back bytes (FitsWithin most n m) state_kind state_body (state_kinds bytes most n m) 65536 (state_holds most n m b (omega arith))
      ss 0 (omega arith) h p rest w

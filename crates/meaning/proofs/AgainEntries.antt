-- What a reader gives, written again, is what stands where it was read: entries of every kind.
-- Assumes nothing.
use mathlib.Core.Path.{◌≡◌, refl, sym, subst}
use mathlib.Core.Option.{some}
use Prim.Native.Nat.{ℕ, zero, suc, ◌+◌, ◌-◌, ◌*◌, ◌/◌, ◌%◌, ◌≤◌}
use native.Mathlib.Nat.{div-add-mod}
use native.Mathlib.Omega.{arith}
use mathlib.Core.Bool.{Bool, true}
use mathlib.Core.List.{List, [], ◌∷◌, ◌++◌}
use lib.ListN.{length, get_elem?}
use lib.Dec.{T, eqb, leb, eqb→eq, leb→le}
use Rattle.meaning.specs.declared.Clause.{Clause}
use Rattle.meaning.specs.Result.{Result, found, ◌>>=◌, known}
use Rattle.meaning.specs.Bytes.{bytes_of, number, inside, AreBytes}
use Rattle.meaning.specs.File.{ActionSet, all, listed, either, Basic, empty, init, goal, explicit, horn, two_cnf, StateSet, basic}
use Rattle.meaning.specs.File.{complement, intersection, union, progression, regression, action_kind, basic_kind, state_kind}
use Rattle.meaning.specs.Layout.{items, ascending, field, mask, reference, clause, Kind, up_to, plain, one, two, clauses, action_kinds}
use Rattle.meaning.specs.Layout.{state_kinds, horn_rule, two_cnf_rule, entry, entries}
use Rattle.meaning.specs.Writing.{each, write_clause, write_entry, write_action_set, write_state_set, action_body, basic_body, state_body}
use Rattle.meaning.proofs.Results.{found_same, bind_case, need_case, known_out, and_out}
use Rattle.meaning.proofs.Again.{Spans, spans_none, joined, spans_length, Again, field_out, number_spans, byte_spans, mask_again}
use Rattle.meaning.proofs.Again.{reference_again, clause_again, items_again, ascending_again}

module _ (bytes : List ℕ) (h : AreBytes bytes) where
  module _ {A : Type 0} (kind_of : A → ℕ) (body_of : A → List ℕ) where
    -- ---- one kind

    -- x is written as kind number j with this body
    abbrev Is : ℕ → List ℕ → A → Type 0
    Is j body x = (kind_of x ≡ j) × (body_of x ≡ body)

    -- x is of kind number j, and its body stands from place p up to place q
    abbrev Bodied : ℕ → ℕ → ℕ → A → Type 0
    Bodied j p q x = (kind_of x ≡ j) × Spans bytes p q (body_of x)

    -- so is whatever kind number j reads from a body of a fitting length
    abbrev KindAgain : ℕ → Kind A → Type 0
    KindAgain j k = (p q len : ℕ) → p + len ≡ q → (x : A) → T (k.fits len) → k.body p len ≡ found x → Bodied j p q x

    made : {j p q : ℕ} {body : List ℕ} {x y : A} → found x ≡ found y → Is j body x → Spans bytes p q body → Bodied j p q y
    made {j} {p} {q} e is w = subst (Bodied j p q) (found_same e) (is.0, subst (Spans bytes p q) (sym is.1) w)

    again_plain : {j : ℕ} (a : A) → Is j [] a → KindAgain j (plain a)
    unfolding plain
    again_plain a is p q len e x t x! = let l : len ≡ 0 = eqb→eq len 0 t in made x! is (spans_none p q (omega arith))

    again_one : {j : ℕ} (make : ℕ → A) (bound : ℕ) → ((a : ℕ) → Is j (bytes_of 2 a) (make a)) → KindAgain j (one bytes make bound)
    unfolding one
    again_one make bound is p q len e x t x! =
        bind_case (reference bytes bound p) _ x x! λ a a! s.
        let l : len ≡ 2 = eqb→eq len 2 t in
        made s (is a) (reference_again bytes h bound p q (omega arith) a a!)

    again_two : {j : ℕ} (make : ℕ → ℕ → A) (bound bound' : ℕ) → ((a b : ℕ) → Is j (bytes_of 2 a ++ bytes_of 2 b) (make a b))
        → KindAgain j (two bytes make bound bound')
    unfolding two
    again_two make bound bound' is p q len e x t x! =
        bind_case (reference bytes bound p) _ x x! λ a a! e₁.
        bind_case (reference bytes bound' (p + 2)) _ x e₁ λ b b! s.
        let l : len ≡ 4 = eqb→eq len 4 t in
        made s (is a b)
        (joined (reference_again bytes h bound p (p + 2) refl a a!) (reference_again bytes h bound' (p + 2) q (omega arith) b b!))

    -- a body that is a number of items of one size
    again_list : {j : ℕ} {B : Type 0} (write : B → List ℕ) (size most : ℕ) (read : ℕ → ℕ → Result (List B))
        → ((k : ℕ) → Again bytes (each write) (size * k) (λ p. read p k))
        → (make : List B → A) → ((xs : List B) → Is j (each write xs) (make xs))
        → KindAgain j (record { fits = up_to size most; allowed = λ _. true; body = λ p len. read p (len / size) >>= λ xs. found (make xs) })
    unfolding up_to
    again_list write size most read again make is p q len e x t x! =
        bind_case (read p (len / size)) _ x x! λ xs xs! s.
        let m : len % size ≡ 0 = eqb→eq (len % size) 0 (and_out (eqb (len % size) 0) (leb (len / size) most) t).0 in
        let d : size * (len / size) + len % size ≡ len = div-add-mod len size in
        made s (is xs) (again (len / size) p q (omega arith) xs xs!)

    -- items of `size` bytes each, and ascending numbers
    again_items : {j : ℕ} {B : Type 0} (write : B → List ℕ) (size most : ℕ) (read : ℕ → Result B) → Again bytes write size read
        → (make : List B → A) → ((xs : List B) → Is j (each write xs) (make xs))
        → KindAgain j
        (record { fits = up_to size most; allowed = λ _. true; body = λ p len. items read size p (len / size) >>= λ xs. found (make xs) })
    again_items write size most read again =
        again_list write size most (λ p k. items read size p k) (items_again bytes write size read again)

    again_ascending : {j : ℕ} (size most : ℕ) (read : ℕ → Result ℕ) → Again bytes (bytes_of size) size read
        → (make : List ℕ → A) → ((xs : List ℕ) → Is j (each (bytes_of size) xs) (make xs))
        → KindAgain j
        (record {
          fits = up_to size most;
          allowed = λ _. true;
          body = λ p len. ascending read size 0 p (len / size) >>= λ xs. found (make xs);
        })
    again_ascending size most read again = again_list (bytes_of size) size most (λ p k. ascending read size 0 p k)
        (λ k. ascending_again bytes (bytes_of size) size read again k 0)

    -- ---- a table of kinds

    infixr 5 ◌&◌
    -- the same of each kind of a list, the first of them number j
    data AllAgain : ℕ → List (Kind A) → Type 0 where
      end : {j : ℕ} → AllAgain j []
      ◌&◌ : {j : ℕ} {k : Kind A} {ks : List (Kind A)} → KindAgain j k → AllAgain (suc j) ks → AllAgain j (k ∷ ks)

    again_at : (i : ℕ) (ks : List (Kind A)) → AllAgain i ks → (j : ℕ) (k : Kind A) → get_elem? ks j ≡ some k → KindAgain (i + j) k
    again_at i [] end j k e = let z : ◌≡◌ {A = ℕ} 0 1 = cc in absurd (omega arith)
    again_at i (k' ∷ ks) (g & gs) zero k e =
        let n : i ≡ i + 0 = omega arith in
        let q : k' ≡ k = cc in
        subst (λ (l : ℕ). KindAgain l k) n (subst (KindAgain i) q g)
    again_at i (k' ∷ ks) (g & gs) (suc j) k e =
        let n : suc i + j ≡ i + suc j = omega arith in
        subst (λ (l : ℕ). KindAgain l k) n (again_at (suc i) ks gs j k e)

    -- ---- entries

    abbrev write : A → List ℕ
    write x = write_entry (kind_of x) (body_of x)

    -- one entry: its length, its kind, its body
    entry_again : (ks : List (Kind A)) → AllAgain 0 ks → (p : ℕ) (x : A) → entry bytes ks p ≡ found x
        → Spans bytes p (p + 2 + number 2 bytes p) (write x)
    unfolding entry write_entry inside
    entry_again ks g p x x! =
        bind_case (field bytes 2 p) _ x x! λ len len! e₁.
        need_case (inside (2 + len) bytes p) 3 p _ x e₁ λ t e₂.
        need_case (leb 1 len) 4 p _ x e₂ λ u e₃.
        let j : ℕ = number 1 bytes (p + 2) in
        bind_case (known (get_elem? ks j) 4 (p + 2)) _ x e₃ λ k k! e₄.
        need_case (k.fits (len - 1)) 4 p _ x e₄ λ v e₅.
        need_case (k.allowed (len - 1)) 19 p _ x e₅ λ _ s.
        let n : number 2 bytes p ≡ len = (field_out bytes 2 p len len!).1 in
        let q : ℕ = p + 2 + number 2 bytes p in
        let l : p + (2 + len) ≤ length bytes = leb→le (p + (2 + len)) (length bytes) t in
        let l₁ : 1 ≤ len = leb→le 1 len u in
        let b : Bodied (0 + j) (p + 3) q x =
        again_at 0 ks g j k (known_out (get_elem? ks j) 4 (p + 2) k k!) (p + 3) q (len - 1) (omega arith) x v s in
        let i : j ≡ kind_of x = (let i₀ = b.0 in omega arith) in
        let m : number 2 bytes p ≡ suc (length (body_of x)) = (let m₀ = spans_length b.1 in omega arith) in
        subst (λ (y : ℕ). Spans bytes p q (bytes_of 2 y ++ kind_of x ∷ body_of x)) m
        (joined (number_spans bytes h 2 p (p + 2) refl (omega arith))
        (joined (subst (λ (y : ℕ). Spans bytes (p + 2) (p + 3) (y ∷ [])) i (byte_spans bytes h (p + 2) (p + 3) (omega arith) (omega arith)))
        b.1))

    entries_again : (kinds : ℕ → List (Kind A)) → ((i : ℕ) → AllAgain 0 (kinds i)) → (k i p : ℕ) (r : List A × ℕ)
        → entries bytes kinds i p k ≡ found r → Spans bytes p r.1 (each write r.0)
    unfolding entries each
    entries_again kinds g zero i p r e =
        subst (λ (s : List A × ℕ). Spans bytes p s.1 (each write s.0)) (found_same e) (spans_none p p refl)
    entries_again kinds g (suc k) i p r e =
        bind_case (entry bytes (kinds i) p) _ r e λ x x! e₁.
        bind_case (entries bytes kinds (suc i) (p + 2 + number 2 bytes p) k) _ r e₁ λ s s! q.
        subst (λ (z : List A × ℕ). Spans bytes p z.1 (each write z.0)) (found_same q)
        (joined (entry_again (kinds i) (g i) p x x!) (entries_again kinds g k (suc i) (p + 2 + number 2 bytes p) s s!))

  -- ---- every kind of the format

  action_kinds_again : (m i : ℕ) → AllAgain action_kind action_body 0 (action_kinds bytes m i)
  unfolding action_kinds action_kind action_body
  action_kinds_again m i =
      again_plain action_kind action_body all (refl, refl)
      & again_ascending action_kind action_body 2 256 (reference bytes m) (reference_again bytes h m) listed (λ xs. (refl, refl))
      & again_two action_kind action_body either i i (λ a b. (refl, refl))
      & end

  again_clauses : {j : ℕ} (n : ℕ) (rule : ℕ → ℕ → Bool) (make : List Clause → Basic)
      → ((cs : List Clause) → Is state_kind state_body j (each write_clause cs) (basic (make cs)))
      → KindAgain state_kind state_body j (clauses bytes n rule make)
  unfolding clauses
  again_clauses n rule make =
      again_items state_kind state_body write_clause 16 256 (clause bytes n rule) (clause_again bytes h n rule) (λ cs. basic (make cs))

  state_kinds_again : (most n m i : ℕ) → AllAgain state_kind state_body 0 (state_kinds bytes most n m i)
  unfolding state_kinds state_kind state_body basic_kind basic_body
  state_kinds_again most n m i =
      again_plain state_kind state_body (basic empty) (refl, refl)
      & again_plain state_kind state_body (basic init) (refl, refl)
      & again_plain state_kind state_body (basic goal) (refl, refl)
      & again_items state_kind state_body (bytes_of 8) 8 4096 (mask bytes n) (mask_again bytes h n) (λ ss. basic (explicit ss))
      (λ ss. (refl, refl))
      & again_clauses n horn_rule horn (λ cs. (refl, refl))
      & again_clauses n two_cnf_rule two_cnf (λ cs. (refl, refl))
      & again_one state_kind state_body complement i (λ a. (refl, refl))
      & again_two state_kind state_body intersection i i (λ a b. (refl, refl))
      & again_two state_kind state_body union i i (λ a b. (refl, refl))
      & again_two state_kind state_body progression i m (λ a e. (refl, refl))
      & again_two state_kind state_body regression i m (λ a e. (refl, refl))
      & end

  -- k entries from place p
  pub action_sets_again : (m k p : ℕ) (r : List ActionSet × ℕ) → entries bytes (action_kinds bytes m) 0 p k ≡ found r
      → Spans bytes p r.1 (each write_action_set r.0)
  unfolding write_action_set
  action_sets_again m k p = entries_again action_kind action_body (action_kinds bytes m) (action_kinds_again m) k 0 p

  pub state_sets_again : (most n m k p : ℕ) (r : List StateSet × ℕ) → entries bytes (state_kinds bytes most n m) 0 p k ≡ found r
      → Spans bytes p r.1 (each write_state_set r.0)
  unfolding write_state_set
  state_sets_again most n m k p =
      entries_again state_kind state_body (state_kinds bytes most n m) (state_kinds_again most n m) k 0 p

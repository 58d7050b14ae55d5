-- An entry that is read, with its place: its view, and where its items stand.
-- Assumes nothing.
use mathlib.Core.Path.{◌≡◌, refl, sym, ap, ◌∙◌, subst}
use mathlib.Core.Option.{some}
use Prim.Native.Nat.{ℕ, zero, suc, ◌+◌, ◌-◌, ◌/◌, ◌≤◌}
use native.Mathlib.Omega.{arith}
use mathlib.Core.Bool.{Bool, true}
use mathlib.Core.List.{List, [], ◌∷◌}
use lib.ListN.{length, get_elem?}
use lib.Dec.{T, leb, leb→le}
use Rattle.meaning.specs.declared.Clause.{Clause}
use Rattle.certificate.specs.declared.views.Head.{Head}
use Rattle.meaning.specs.Result.{Result, found, ◌>>=◌, known}
use Rattle.meaning.specs.Bytes.{number, inside}
use Rattle.meaning.specs.File.{ActionSet, all, listed, either, Basic, empty, init, goal, explicit, horn, two_cnf, StateSet, basic}
use Rattle.meaning.specs.File.{complement, intersection, union, progression, regression}
use Rattle.meaning.specs.Layout.{items, ascending, field, mask, reference, clause, Kind, plain, up_to, one, two, clauses, action_kinds}
use Rattle.meaning.specs.Layout.{state_kinds, horn_rule, two_cnf_rule, entry}
use Rattle.certificate.specs.Views.{head_at, span_of, state_table, state_of, action_table, actions_of, state_entry_at, action_entry_at, span}
use Rattle.certificate.specs.Views.{view_of_basic, view_of, view_of_actions}
use Rattle.file_numbers.specs.Numbers.{number_at, clause_at}
use Rattle.meaning.proofs.Results.{found_same, bind_case, need_case, known_out}
use Rattle.file_numbers.proofs.ByteLaws.{number_in}
use Rattle.certificate.proofs.ItemLaws.{Items, Stands, items_stand, ascending_items, field_stands, mask_stands, reference_stands}
use Rattle.certificate.proofs.ItemLaws.{clause_stands}

-- ---- where the items of an entry at place p stand

abbrev pub BasicItems : List ℕ → ℕ → Basic → Type 0
BasicItems bytes p empty = Unit {0}
BasicItems bytes p init = Unit {0}
BasicItems bytes p goal = Unit {0}
BasicItems bytes p (explicit ss) = Items bytes 8 (number_at 8 bytes) (p + 3) ss
BasicItems bytes p (horn cs) = Items bytes 16 (clause_at bytes) (p + 3) cs
BasicItems bytes p (two_cnf cs) = Items bytes 16 (clause_at bytes) (p + 3) cs

abbrev pub StateItems : List ℕ → ℕ → StateSet → Type 0
StateItems bytes p (basic b) = BasicItems bytes p b
StateItems bytes p (complement a) = Unit {0}
StateItems bytes p (intersection a b) = Unit {0}
StateItems bytes p (union a b) = Unit {0}
StateItems bytes p (progression a e) = Unit {0}
StateItems bytes p (regression a e) = Unit {0}

abbrev pub ActionItems : List ℕ → ℕ → ActionSet → Type 0
ActionItems bytes p all = Unit {0}
ActionItems bytes p (listed is) = Items bytes 2 (number_at 2 bytes) (p + 3) is
ActionItems bytes p (either a b) = Unit {0}

-- ---- what a kind says of the entry at place p, whose body has a length

module _ {A : Type 0} (bytes : List ℕ) where
  abbrev KindSays : (ℕ → ℕ → A → Type 0) → Kind A → Type 0
  KindSays P k = (p len : ℕ) (x : A) → p + 3 + len ≤ length bytes → T (k.fits len) → k.body (p + 3) len ≡ found x → P p len x

  infixr 5 ◌&◌
  data AllSay (P : ℕ → ℕ → ℕ → A → Type 0) : ℕ → List (Kind A) → Type 0 where
    end : {j : ℕ} → AllSay P j []
    ◌&◌ : {j : ℕ} {k : Kind A} {ks : List (Kind A)} → KindSays (P j) k → AllSay P (suc j) ks → AllSay P j (k ∷ ks)

  say_at : (P : ℕ → ℕ → ℕ → A → Type 0) (j : ℕ) (ks : List (Kind A)) → AllSay P j ks → (i : ℕ) (k : Kind A) → get_elem? ks i ≡ some k
      → KindSays (P (j + i)) k
  say_at P j [] end i k e = let z : ◌≡◌ {A = ℕ} 0 1 = cc in absurd (omega arith)
  say_at P j (k' ∷ ks) (s & ss) zero k e =
      let q : k' ≡ k = cc in
      let n : j ≡ j + 0 = omega arith in
      subst (λ (m : ℕ). KindSays (P m) k) n (subst (KindSays (P j)) q s)
  say_at P j (k' ∷ ks) (s & ss) (suc i) k e =
      let n : suc j + i ≡ j + suc i = omega arith in
      subst (λ (m : ℕ). KindSays (P m) k) n (say_at P (suc j) ks ss i k e)

  -- an entry ends within the file, and is what its kind says
  entry_says : (P : ℕ → ℕ → ℕ → A → Type 0) (ks : List (Kind A)) → AllSay P 0 ks → (p : ℕ) (x : A) → entry bytes ks p ≡ found x
      → (1 ≤ number_at 2 bytes p) × (p + 2 + number_at 2 bytes p ≤ length bytes) × P (number_at 1 bytes (p + 2)) p (number_at 2 bytes p - 1) x
  unfolding entry inside
  entry_says P ks s p x e =
      bind_case (field bytes 2 p) _ x e λ len len! e₁.
      need_case (inside (2 + len) bytes p) 3 p _ x e₁ λ i e₂.
      need_case (leb 1 len) 4 p _ x e₂ λ l e₃.
      bind_case (known (get_elem? ks (number 1 bytes (p + 2))) 4 (p + 2)) _ x e₃ λ k k! e₄.
      need_case (k.fits (len - 1)) 4 p _ x e₄ λ t e₅.
      need_case (k.allowed (len - 1)) 19 p _ x e₅ λ _ q.
      let h = field_stands bytes 2 p len len! in
      let some-len : 1 ≤ len = leb→le 1 len l in
      let in_file : p + (2 + len) ≤ length bytes = leb→le (p + (2 + len)) (length bytes) i in
      let kind : number 1 bytes (p + 2) ≡ number_at 1 bytes (p + 2) = sym (number_in 1 bytes (p + 2) (omega arith)) in
      let z : 0 + number 1 bytes (p + 2) ≡ number 1 bytes (p + 2) = omega arith in
      let says = say_at P 0 ks s (number 1 bytes (p + 2)) k (known_out (get_elem? ks (number 1 bytes (p + 2))) 4 (p + 2) k k!) p (len - 1) x
      (omega arith) t q in
      subst (λ (n : ℕ). (1 ≤ n) × (p + 2 + n ≤ length bytes) × P (number_at 1 bytes (p + 2)) p (n - 1) x) (sym h.1)
      (some-len, omega arith, subst (λ (n : ℕ). P n p (len - 1) x) (z ∙ kind) says)

  -- ---- each form of a kind

  module _ (P : ℕ → ℕ → A → Type 0) where
    say_plain : (a : A) → ((p len : ℕ) → P p len a) → KindSays P (plain a)
    unfolding plain
    say_plain a h p len x b t e = subst (P p len) (found_same e) (h p len)

    say_one : (make : ℕ → A) (bound : ℕ) → ((p len : ℕ) → P p len (make (number_at 2 bytes (p + 3)))) → KindSays P (one bytes make bound)
    unfolding one
    say_one make bound h p len x b t e =
        bind_case (reference bytes bound (p + 3)) _ x e λ a a! q.
        subst (P p len) (ap make (reference_stands bytes bound (p + 3) a a!).1 ∙ found_same q) (h p len)

    say_two : (make : ℕ → ℕ → A) (bound bound' : ℕ) → ((p len : ℕ) → P p len (make (number_at 2 bytes (p + 3)) (number_at 2 bytes (p + 5))))
        → KindSays P (two bytes make bound bound')
    unfolding two
    say_two make bound bound' h p len x b t e =
        bind_case (reference bytes bound (p + 3)) _ x e λ a a! e₁.
        bind_case (reference bytes bound' (p + 3 + 2)) _ x e₁ λ c c! q.
        let u = (reference_stands bytes bound (p + 3) a a!).1 in
        let v = (reference_stands bytes bound' (p + 3 + 2) c c!).1 in
        let n : p + 5 ≡ p + 3 + 2 = omega arith in
        let m : number_at 2 bytes (p + 5) ≡ c = ap (number_at 2 bytes) n ∙ v in
        subst (P p len) (cc) (h p len)

    -- a body that is read as a list of items
    say_list : {B : Type 0} (size : ℕ) (at : ℕ → B) (read : ℕ → Result B) → Stands bytes size at read → (make : List B → A)
        → ((p len : ℕ) (xs : List B) → length xs ≡ len / size → Items bytes size at (p + 3) xs → P p len (make xs))
        → (p len : ℕ) (x : A) → p + 3 + len ≤ length bytes → (xs : List B) → items read size (p + 3) (len / size) ≡ found xs
        → found (make xs) ≡ found x → P p len x
    say_list size at read stands make h p len x b xs e q =
        let s = items_stand bytes size at read stands (len / size) (p + 3) xs (omega arith) e in
        subst (P p len) (found_same q) (h p len xs s.0 s.1)

    say_items : {B : Type 0} (size most : ℕ) (at : ℕ → B) (read : ℕ → Result B) → Stands bytes size at read → (make : List B → A)
        → ((p len : ℕ) (xs : List B) → length xs ≡ len / size → Items bytes size at (p + 3) xs → P p len (make xs))
        → KindSays P
        (record { fits = up_to size most; allowed = λ _. true; body = λ p len. items read size p (len / size) >>= λ xs. found (make xs) })
    say_items size most at read stands make h p len x b t e =
        bind_case (items read size (p + 3) (len / size)) _ x e λ xs xs! q. say_list size at read stands make h p len x b xs xs! q

    say_ascending : (size most : ℕ) (read : ℕ → Result ℕ) → Stands bytes size (number_at size bytes) read → (make : List ℕ → A)
        → ((p len : ℕ) (xs : List ℕ) → length xs ≡ len / size → Items bytes size (number_at size bytes) (p + 3) xs → P p len (make xs))
        → KindSays P
        (record {
          fits = up_to size most;
          allowed = λ _. true;
          body = λ p len. ascending read size 0 p (len / size) >>= λ xs. found (make xs);
        })
    say_ascending size most read stands make h p len x b t e =
        bind_case (ascending read size 0 (p + 3) (len / size)) _ x e λ xs xs! q.
        say_list size (number_at size bytes) read stands make h p len x b xs (ascending_items read size (len / size) 0 (p + 3) xs xs!) q

say_clauses : (bytes : List ℕ) (P : ℕ → ℕ → StateSet → Type 0) (n : ℕ) (rule : ℕ → ℕ → Bool) (make : List Clause → Basic)
    → ((p len : ℕ) (cs : List Clause) → length cs ≡ len / 16 → Items bytes 16 (clause_at bytes) (p + 3) cs → P p len (basic (make cs)))
    → KindSays bytes P (clauses bytes n rule make)
unfolding clauses
say_clauses bytes P n rule make h =
    say_items bytes P 16 256 (clause_at bytes) (clause bytes n rule) (clause_stands bytes n rule) (λ cs. basic (make cs)) h

-- ---- all kinds

-- the numbers of an entry of kind j at place p
abbrev head_of : List ℕ → ℕ → ℕ → ℕ → Head
head_of bytes j p len = record { kind = j; at = p + 3; len = len; first = number_at 2 bytes (p + 3); second = number_at 2 bytes (p + 5) }

-- its view, and its items
abbrev StateSays : List ℕ → ℕ → ℕ → ℕ → StateSet → Type 0
StateSays bytes j p len x = (state_of (head_of bytes j p len) ≡ view_of p x) × StateItems bytes p x

abbrev ActionSays : List ℕ → ℕ → ℕ → ℕ → ActionSet → Type 0
ActionSays bytes j p len x = (actions_of (head_of bytes j p len) ≡ view_of_actions p x) × ActionItems bytes p x

state_kinds_say : (bytes : List ℕ) (most n m i : ℕ) → AllSay bytes (StateSays bytes) 0 (state_kinds bytes most n m i)
unfolding state_kinds state_of state_table span_of view_of view_of_basic span
state_kinds_say bytes most n m i =
    let P : ℕ → ℕ → ℕ → StateSet → Type 0 = StateSays bytes in
    say_plain bytes (P 0) (basic empty) (λ p len. (refl, tt))
    & say_plain bytes (P 1) (basic init) (λ p len. (refl, tt))
    & say_plain bytes (P 2) (basic goal) (λ p len. (refl, tt))
    & say_items bytes (P 3) 8 4096 (number_at 8 bytes) (mask bytes n) (mask_stands bytes n) (λ ss. basic (explicit ss))
    (λ p len ss l h. (cc, h))
    & say_clauses bytes (P 4) n horn_rule horn (λ p len cs l h. (cc, h))
    & say_clauses bytes (P 5) n two_cnf_rule two_cnf (λ p len cs l h. (cc, h))
    & say_one bytes (P 6) complement i (λ p len. (refl, tt))
    & say_two bytes (P 7) intersection i i (λ p len. (refl, tt))
    & say_two bytes (P 8) union i i (λ p len. (refl, tt))
    & say_two bytes (P 9) progression i m (λ p len. (refl, tt))
    & say_two bytes (P 10) regression i m (λ p len. (refl, tt))
    & end

action_kinds_say : (bytes : List ℕ) (m i : ℕ) → AllSay bytes (ActionSays bytes) 0 (action_kinds bytes m i)
unfolding action_kinds actions_of action_table span_of view_of_actions span
action_kinds_say bytes m i =
    let P : ℕ → ℕ → ℕ → ActionSet → Type 0 = ActionSays bytes in
    say_plain bytes (P 0) all (λ p len. (refl, tt))
    & say_ascending bytes (P 1) 2 256 (reference bytes m) (reference_stands bytes m) listed (λ p len is l h. (cc, h))
    & say_two bytes (P 2) either i i (λ p len. (refl, tt))
    & end

-- ---- one entry

-- a state set stands at place p: it ends within the file, and its view and items are those of the bytes
pub record StateSetStands (bytes : List ℕ) (p : ℕ) (x : StateSet) : Type 0 where
  pub inside : p + 3 + (number_at 2 bytes p - 1) ≤ length bytes
  pub view : state_entry_at bytes p ≡ view_of p x
  pub items : StateItems bytes p x

pub record ActionSetStands (bytes : List ℕ) (p : ℕ) (x : ActionSet) : Type 0 where
  pub inside : p + 3 + (number_at 2 bytes p - 1) ≤ length bytes
  pub view : action_entry_at bytes p ≡ view_of_actions p x
  pub items : ActionItems bytes p x

-- it ends within the file, where the next one starts
abbrev pub Ends : List ℕ → ℕ → Type 0
Ends bytes p = p + 2 + number_at 2 bytes p ≤ length bytes

module _ (bytes : List ℕ) where
  pub state_set_stands : (most n m i p : ℕ) (x : StateSet) → entry bytes (state_kinds bytes most n m i) p ≡ found x
      → Ends bytes p × StateSetStands bytes p x
  unfolding state_entry_at head_at
  state_set_stands most n m i p x e =
      let s = entry_says bytes (StateSays bytes) (state_kinds bytes most n m i) (state_kinds_say bytes most n m i) p x e in
      (s.1, record { inside = omega arith; view = s.2.0; items = s.2.1 })

  pub action_set_stands : (m i p : ℕ) (x : ActionSet) → entry bytes (action_kinds bytes m i) p ≡ found x
      → Ends bytes p × ActionSetStands bytes p x
  unfolding action_entry_at head_at
  action_set_stands m i p x e =
      let s = entry_says bytes (ActionSays bytes) (action_kinds bytes m i) (action_kinds_say bytes m i) p x e in
      (s.1, record { inside = omega arith; view = s.2.0; items = s.2.1 })

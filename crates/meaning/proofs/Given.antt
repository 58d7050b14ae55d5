-- What each reader gives: only values that the format can hold.
-- Assumes nothing.
use mathlib.Core.Path.{◌≡◌, refl, sym, ap, subst, ◌∙◌}
use mathlib.Core.Option.{some}
use Prim.Native.Nat.{ℕ, zero, suc, ◌+◌, ◌-◌, ◌/◌, ◌%◌, ◌^◌, ◌<◌, ◌≤◌}
use native.Mathlib.Omega.{arith}
use mathlib.Core.Bool.{Bool, true, ◌&&◌, true≢false}
use mathlib.Core.List.{List, [], ◌∷◌}
use lib.ListN.{length, get_elem?}
use lib.Pow.{pow_pos}
use lib.Dec.{T, eqb, ltb, leb, ltb→lt, leb→le}
use Rattle.meaning.specs.declared.Clause.{Clause}
use Rattle.meaning.specs.Result.{Result, found, ◌>>=◌, need, known}
use Rattle.meaning.specs.Bytes.{number, inside}
use Rattle.meaning.specs.File.{ActionSet, all, listed, either, Basic, empty, init, goal, explicit, horn, two_cnf, StateSet, basic}
use Rattle.meaning.specs.File.{complement, intersection, union, progression, regression}
use Rattle.meaning.specs.Layout.{items, ascending, field, count, mask, reference, off_mask, action, clause, Kind, plain, up_to, one}
use Rattle.meaning.specs.Layout.{two, clauses, action_kinds, state_kinds, horn_rule, two_cnf_rule, entry, entries}
use Rattle.meaning.specs.Writing.{AllFrom, All, Ascending, FitsActionSet, FitsClauses, FitsStateSet, listed_states}
use Rattle.meaning.proofs.Results.{found_same, bind_case, need_case, known_out, and_out}
use Rattle.meaning.proofs.Places.{by_test}
use Rattle.meaning.proofs.Off.{FitsOff, FitsActionOf, read_off, read_no_off}

-- whatever the reader gives has the property
abbrev pub Gives : {A : Type 0} → (A → Type 0) → (ℕ → Result A) → Type 0
Gives {A} P read = (p : ℕ) (x : A) → read p ≡ found x → P x

-- ---- fields

-- a number of k bytes that must be below a bound
bounded_gives : (bytes : List ℕ) (k bound r : ℕ) → Gives (λ x. x < bound)
    (λ p. field bytes k p >>= λ x. need (ltb x bound) r p >>= λ _. found x)
bounded_gives bytes k bound r p y e =
    bind_case (field bytes k p) _ y e λ x _ e₁.
    need_case (ltb x bound) r p _ y e₁ λ t q.
    subst (λ (z : ℕ). z < bound) (found_same q) (ltb→lt x bound t)

pub mask_gives : (bytes : List ℕ) (n : ℕ) → Gives (λ m. m < 2 ^ n) (mask bytes n)
unfolding mask
mask_gives bytes n = bounded_gives bytes 8 (2 ^ n) 5

pub reference_gives : (bytes : List ℕ) (bound : ℕ) → Gives (λ r. r < bound) (reference bytes bound)
unfolding reference
reference_gives bytes bound = bounded_gives bytes 2 bound 6

pub count_gives : (bytes : List ℕ) (low high : ℕ) → Gives (λ c. (low ≤ c) × (c ≤ high)) (count bytes low high)
unfolding count
count_gives bytes low high p c e =
    bind_case (field bytes 2 p) _ c e λ x _ e₁.
    need_case (leb low x && leb x high) 4 p _ c e₁ λ t q.
    let b = and_out (leb low x) (leb x high) t in
    subst (λ (y : ℕ). (low ≤ y) × (y ≤ high)) (found_same q) (leb→le low x b.0, leb→le x high b.1)

pub off_gives : (bytes : List ℕ) (v n : ℕ) → Gives (FitsOff v n) (off_mask bytes v n)
off_gives bytes v n p m e =
    by_test (eqb v 3)
    (λ t. (mask_gives bytes n p m (sym (read_off bytes v n p t) ∙ e), λ f. absurd (true≢false (sym t ∙ f))))
    (λ f. let z : 0 ≡ m = found_same (sym (read_no_off bytes v n p f) ∙ e) in (omega (arith, pow_pos n), λ _. sym z))

pub action_gives : (bytes : List ℕ) (v n : ℕ) → Gives (FitsActionOf v n) (action bytes v n)
unfolding action
action_gives bytes v n p x e =
    bind_case (mask bytes n p) _ x e λ a a! e₁.
    bind_case (mask bytes n (p + 8)) _ x e₁ λ b b! e₂.
    bind_case (mask bytes n (p + 16)) _ x e₂ λ c c! e₃.
    bind_case (off_mask bytes v n (p + 24)) _ x e₃ λ d d! q.
    let o = off_gives bytes v n (p + 24) d d! in
    let m = mask_gives bytes n in
    subst (FitsActionOf v n) (found_same q)
    (record { pre = m p a a!; add = m (p + 8) b b!; del = m (p + 16) c c!; off = o.0 }, o.1)

-- a clause over n facts, under the rule
abbrev pub FitsClause : ℕ → (ℕ → ℕ → Bool) → Clause → Type 0
FitsClause n rule c = (c.positive < 2 ^ n) × (c.negative < 2 ^ n) × T (rule c.positive c.negative)

pub clause_gives : (bytes : List ℕ) (n : ℕ) (rule : ℕ → ℕ → Bool) → Gives (FitsClause n rule) (clause bytes n rule)
unfolding clause
clause_gives bytes n rule p v e =
    bind_case (mask bytes n p) _ v e λ a a! e₁.
    bind_case (mask bytes n (p + 8)) _ v e₁ λ b b! e₂.
    need_case (rule a b) 7 p _ v e₂ λ t q.
    subst (FitsClause n rule) (found_same q) (mask_gives bytes n p a a!, mask_gives bytes n (p + 8) b b!, t)

-- ---- items one after the other

pub items_give : {A : Type 0} (P : A → Type 0) (read : ℕ → Result A) (size : ℕ) → Gives P read
    → (k i p : ℕ) (xs : List A) → items read size p k ≡ found xs → (length xs ≡ k) × AllFrom (λ _. P) i xs
unfolding items
items_give P read size h zero i p xs e = subst (λ ys. (length ys ≡ 0) × AllFrom (λ _. P) i ys) (found_same e) (refl, tt)
items_give P read size h (suc k) i p xs e =
    bind_case (read p) _ xs e λ x x! e₁.
    bind_case (items read size (p + size) k) _ xs e₁ λ ys ys! q.
    let r = items_give P read size h k (suc i) (p + size) ys ys! in
    subst (λ zs. (length zs ≡ suc k) × AllFrom (λ _. P) i zs) (found_same q) (ap suc r.0, (h p x x!, r.1))

pub ascending_give : (P : ℕ → Type 0) (read : ℕ → Result ℕ) (size : ℕ) → Gives P read
    → (k i low p : ℕ) (xs : List ℕ) → ascending read size low p k ≡ found xs → (length xs ≡ k) × Ascending low xs × AllFrom (λ _. P) i xs
unfolding ascending
ascending_give P read size h zero i low p xs e =
    subst (λ ys. (length ys ≡ 0) × Ascending low ys × AllFrom (λ _. P) i ys) (found_same e) (refl, tt, tt)
ascending_give P read size h (suc k) i low p xs e =
    bind_case (read p) _ xs e λ x x! e₁.
    need_case (leb low x) 7 p _ xs e₁ λ t e₂.
    bind_case (ascending read size (suc x) (p + size) k) _ xs e₂ λ ys ys! q.
    let r = ascending_give P read size h k (suc i) (suc x) (p + size) ys ys! in
    subst (λ zs. (length zs ≡ suc k) × Ascending low zs × AllFrom (λ _. P) i zs) (found_same q)
    (ap suc r.0, (leb→le low x t, r.1), (h p x x!, r.2))

-- ---- entries

-- whatever a body of a fitting length gives has the property
abbrev KindGives : {A : Type 0} → (A → Type 0) → Kind A → Type 0
KindGives {A} P k = (p len : ℕ) (x : A) → T (k.fits len) → T (k.allowed len) → k.body p len ≡ found x → P x

infixr 5 ◌&◌
data AllGive {A : Type 0} (P : A → Type 0) : List (Kind A) → Type 0 where
  end : AllGive P []
  ◌&◌ : {k : Kind A} {ks : List (Kind A)} → KindGives P k → AllGive P ks → AllGive P (k ∷ ks)

give_at : {A : Type 0} (P : A → Type 0) (ks : List (Kind A)) → AllGive P ks → (j : ℕ) (k : Kind A) → get_elem? ks j ≡ some k → KindGives P k
give_at P [] end j k e = let z : ◌≡◌ {A = ℕ} 0 1 = cc in absurd (omega arith)
give_at P (k' ∷ ks) (g & gs) zero k e = let q : k' ≡ k = cc in subst (KindGives P) q g
give_at P (k' ∷ ks) (g & gs) (suc j) k e = give_at P ks gs j k e

give_plain : {A : Type 0} (P : A → Type 0) (a : A) → P a → KindGives P (plain a)
unfolding plain
give_plain P a h p len x t _ e = subst P (found_same e) h

give_one : {A : Type 0} (bytes : List ℕ) (P : A → Type 0) (make : ℕ → A) (m : ℕ) → ((a : ℕ) → a < m → P (make a))
    → KindGives P (one bytes make m)
unfolding one
give_one bytes P make m h p len x t _ e =
    bind_case (reference bytes m p) _ x e λ a a! q.
    subst P (found_same q) (h a (reference_gives bytes m p a a!))

give_two : {A : Type 0} (bytes : List ℕ) (P : A → Type 0) (make : ℕ → ℕ → A) (m m' : ℕ) → ((a b : ℕ) → a < m → b < m' → P (make a b))
    → KindGives P (two bytes make m m')
unfolding two
give_two bytes P make m m' h p len x t _ e =
    bind_case (reference bytes m p) _ x e λ a a! e₁.
    bind_case (reference bytes m' (p + 2)) _ x e₁ λ b b! q.
    subst P (found_same q) (h a b (reference_gives bytes m p a a!) (reference_gives bytes m' (p + 2) b b!))

few : (size most len : ℕ) → T (up_to size most len) → len / size ≤ most
unfolding up_to
few size most len t = leb→le (len / size) most (and_out (eqb (len % size) 0) (leb (len / size) most) t).1

-- items of `size` bytes each; `allow` is the limits' own test of the length
give_items : {A B : Type 0} (P : A → Type 0) (Q : B → Type 0) (read : ℕ → Result B) → Gives Q read → (size most : ℕ) (allow : ℕ → Bool)
    → (make : List B → A)
    → ((xs : List B) (len : ℕ) → length xs ≡ len / size → T (allow len) → (length xs ≤ most) × All Q xs → P (make xs))
    → (p len : ℕ) (x : A) → T (up_to size most len) → T (allow len)
    → (items read size p (len / size) >>= λ xs. found (make xs)) ≡ found x → P x
give_items P Q read g size most allow make h p len x t u e =
    bind_case (items read size p (len / size)) _ x e λ xs xs! q.
    let r = items_give Q read size g (len / size) 0 p xs xs! in
    subst P (found_same q) (h xs len r.0 u (subst (λ (l : ℕ). l ≤ most) (sym r.0) (few size most len t), r.1))

give_clauses : (bytes : List ℕ) (P : StateSet → Type 0) (n : ℕ) (rule : ℕ → ℕ → Bool) (make : List Clause → Basic)
    → ((cs : List Clause) → FitsClauses n rule cs → P (basic (make cs))) → KindGives P (clauses bytes n rule make)
unfolding clauses
give_clauses bytes P n rule make h =
    give_items P (FitsClause n rule) (clause bytes n rule) (clause_gives bytes n rule) 16 256 (λ _. true) (λ cs. basic (make cs))
    (λ cs len e u z. h cs z)

give_ascending : {A : Type 0} (P : A → Type 0) (Q : ℕ → Type 0) (read : ℕ → Result ℕ) → Gives Q read → (size most : ℕ) (make : List ℕ → A)
    → ((xs : List ℕ) → (length xs ≤ most) × Ascending 0 xs × All Q xs → P (make xs))
    → (p len : ℕ) (x : A) → T (up_to size most len)
    → (ascending read size 0 p (len / size) >>= λ xs. found (make xs)) ≡ found x → P x
give_ascending P Q read g size most make h p len x t e =
    bind_case (ascending read size 0 p (len / size)) _ x e λ xs xs! q.
    let r = ascending_give Q read size g (len / size) 0 0 p xs xs! in
    subst P (found_same q) (h xs (subst (λ (l : ℕ). l ≤ most) (sym r.0) (few size most len t), r.1, r.2))

action_kinds_give : (bytes : List ℕ) (m i : ℕ) → AllGive (FitsActionSet m i) (action_kinds bytes m i)
unfolding action_kinds
action_kinds_give bytes m i =
    let P : ActionSet → Type 0 = FitsActionSet m i in
    give_plain P all tt
    & (λ p len x t _. give_ascending P (λ j. j < m) (reference bytes m) (reference_gives bytes m) 2 256 listed (λ xs h. h) p len x t)
    & give_two bytes P either i i (λ a b l k. (l, k))
    & end

-- entry i fits, and lists at most so many states
abbrev pub FitsWithin : ℕ → ℕ → ℕ → ℕ → StateSet → Type 0
FitsWithin most n m i x = FitsStateSet n m i x × (listed_states x ≤ most)

state_kinds_give : (bytes : List ℕ) (most n m i : ℕ) → AllGive (FitsWithin most n m i) (state_kinds bytes most n m i)
unfolding state_kinds listed_states
state_kinds_give bytes most n m i =
    let P : StateSet → Type 0 = FitsWithin most n m i in
    let none : 0 ≤ most = omega arith in
    give_plain P (basic empty) (tt, none)
    & give_plain P (basic init) (tt, none)
    & give_plain P (basic goal) (tt, none)
    & give_items P (λ s. s < 2 ^ n) (mask bytes n) (mask_gives bytes n) 8 4096 (up_to 8 most) (λ ss. basic (explicit ss))
    (λ xs len e u h. (h, subst (λ (l : ℕ). l ≤ most) (sym e) (few 8 most len u)))
    & give_clauses bytes P n horn_rule horn (λ cs h. (h, none))
    & give_clauses bytes P n two_cnf_rule two_cnf (λ cs h. (h, none))
    & give_one bytes P complement i (λ a l. (l, none))
    & give_two bytes P intersection i i (λ a b l k. ((l, k), none))
    & give_two bytes P union i i (λ a b l k. ((l, k), none))
    & give_two bytes P progression i m (λ a b l k. ((l, k), none))
    & give_two bytes P regression i m (λ a b l k. ((l, k), none))
    & end

entry_gives : {A : Type 0} (bytes : List ℕ) (P : A → Type 0) (ks : List (Kind A)) → AllGive P ks → Gives P (entry bytes ks)
unfolding entry
entry_gives bytes P ks g p x e =
    bind_case (field bytes 2 p) _ x e λ len _ e₁.
    need_case (inside (2 + len) bytes p) 3 p _ x e₁ λ _ e₂.
    need_case (leb 1 len) 4 p _ x e₂ λ _ e₃.
    bind_case (known (get_elem? ks (number 1 bytes (p + 2))) 4 (p + 2)) _ x e₃ λ k k! e₄.
    need_case (k.fits (len - 1)) 4 p _ x e₄ λ t e₅.
    need_case (k.allowed (len - 1)) 19 p _ x e₅ λ u q.
    give_at P ks g (number 1 bytes (p + 2)) k (known_out (get_elem? ks (number 1 bytes (p + 2))) 4 (p + 2) k k!) (p + 3) (len - 1) x t u q

entries_give : {A : Type 0} (bytes : List ℕ) (P : ℕ → A → Type 0) (kinds : ℕ → List (Kind A)) → ((i : ℕ) → AllGive (P i) (kinds i))
    → (k i p : ℕ) (r : List A × ℕ) → entries bytes kinds i p k ≡ found r → (length r.0 ≡ k) × AllFrom P i r.0
unfolding entries
entries_give {A} bytes P kinds g zero i p r e =
    subst (λ (s : List A × ℕ). (length s.0 ≡ 0) × AllFrom P i s.0) (found_same e) (refl, tt)
entries_give {A} bytes P kinds g (suc k) i p r e =
    bind_case (entry bytes (kinds i) p) _ r e λ x x! e₁.
    bind_case (entries bytes kinds (suc i) (p + 2 + number 2 bytes p) k) _ r e₁ λ s s! q.
    let h = entries_give bytes P kinds g k (suc i) (p + 2 + number 2 bytes p) s s! in
    subst (λ (z : List A × ℕ). (length z.0 ≡ suc k) × AllFrom P i z.0) (found_same q)
    (ap suc h.0, (entry_gives bytes (P i) (kinds i) (g i) p x x!, h.1))

-- k action sets of a file with m actions
pub action_sets_give : (bytes : List ℕ) (m k p : ℕ) (r : List ActionSet × ℕ) → entries bytes (action_kinds bytes m) 0 p k ≡ found r
    → (length r.0 ≡ k) × AllFrom (FitsActionSet m) 0 r.0
action_sets_give bytes m k p = entries_give bytes (FitsActionSet m) (action_kinds bytes m) (action_kinds_give bytes m) k 0 p

-- k state sets of a file with n facts and m action sets
pub state_sets_give : (bytes : List ℕ) (most n m k p : ℕ) (r : List StateSet × ℕ)
    → entries bytes (state_kinds bytes most n m) 0 p k ≡ found r → (length r.0 ≡ k) × AllFrom (FitsWithin most n m) 0 r.0
state_sets_give bytes most n m k p =
    entries_give bytes (FitsWithin most n m) (state_kinds bytes most n m) (state_kinds_give bytes most n m) k 0 p

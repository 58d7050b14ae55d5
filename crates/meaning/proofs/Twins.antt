-- The readings of two files that list their explicit states otherwise, side by side: alike up to a wrong state.
-- Assumes nothing.
use mathlib.Core.Path.{◌≡◌, refl}
use Prim.Native.Nat.{ℕ, zero, suc, ◌+◌, ◌<◌}
use native.Mathlib.Omega.{arith}
use mathlib.Core.Bool.{Bool, not, ◌||◌}
use mathlib.Core.Option.{some}
use mathlib.Core.List.{List, [], ◌∷◌}
use lib.ListN.{get_elem?}
use lib.Dec.{T, T_not, eqb}
use Rattle.meaning.specs.Result.{Result, refuse, found, ◌>>=◌, need}
use Rattle.meaning.specs.Bytes.{number}
use Rattle.meaning.specs.Layout.{Kind, entry, entries}
use Rattle.meaning.specs.Structure.{after_entries}
use Rattle.meaning.specs.Relisted.{wrong_in, InState}
use Rattle.meaning.proofs.Numbered.{Yields, refused, given, need_ok, widen}
use Rattle.meaning.proofs.LayoutFaults.{Within}
use Rattle.meaning.proofs.Stages.{Stage, fault, fine, breach}
use Rattle.meaning.proofs.Relisted.{set_count, after_suc, Free}

-- the refusals that a state by itself, or the order of states, could get
abbrev pub OfStates : ℕ → Bool
OfStates r = eqb r 5 || eqb r 7

-- a refusal that is none of these in a listed state
abbrev pub Elsewhere : List ℕ → ℕ → ℕ → Type 0
Elsewhere a r p = T (OfStates r) → InState a p → ⊥

-- Two readings: the same refusal; 5 in each at the first wrong state of the same set; or values that go together.
pub data Twin (a b : List ℕ) {A : Type 0} (Good : A → A → Type 0) : Result A → Result A → Type 0 where
  alike : {r p : ℕ} → Elsewhere a r p → Twin a b Good (refuse r p) (refuse r p)
  wrong : (e : ℕ) {p q : ℕ} → e < set_count a → get_elem? (wrong_in a e) 0 ≡ some p → get_elem? (wrong_in b e) 0 ≡ some q
      → Twin a b Good (refuse 5 p) (refuse 5 q)
  both : {x y : A} → Good x y → Twin a b Good (found x) (found y)

module _ {a b : List ℕ} where
  pub bind : {A B : Type 0} {Good : A → A → Type 0} {Good' : B → B → Type 0} {x y : Result A} {g h : A → Result B}
      → Twin a b Good x y → ((u v : A) → Good u v → Twin a b Good' (g u) (h v)) → Twin a b Good' (x >>= g) (y >>= h)
  unfolding ◌>>=◌
  bind (alike n) k = alike n
  bind (wrong e l v w) k = wrong e l v w
  bind (both {x} {y} g) k = k x y g

  -- ---- parts that are the same

  pub same : {A : Type 0} {P : A → Type 0} {Good : A → A → Type 0} {x y : Result A}
      → Yields (Elsewhere a) P x → x ≡ y → ((u : A) → P u → Good u u) → Twin a b Good x y
  same (refused n) e k = rw (← e) (alike n)
  same (given {a = u} p) e k = rw (← e) (both (k u p))

  pub same_then : {A B : Type 0} {P : A → Type 0} {Good : B → B → Type 0} {x y : Result A} {g h : A → Result B}
      → Yields (Elsewhere a) P x → x ≡ y → ((u : A) → P u → Twin a b Good (g u) (h u)) → Twin a b Good (x >>= g) (y >>= h)
  same_then {P = P} h e k = bind (same {Good = λ u v. (u ≡ v) × P u} h e (λ u p. (refl, p))) (λ u v q. rw (← q.0) (k u q.1))

  pub need_then : {B : Type 0} {Good : B → B → Type 0} (c : Bool) (r p : ℕ) {g h : Unit {0} → Result B}
      → T (not (OfStates r)) → ((u : Unit {0}) → T c → Twin a b Good (g u) (h u)) → Twin a b Good (need c r p >>= g) (need c r p >>= h)
  need_then c r p n k = same_then (need_ok c r p (λ i. absurd (T_not (OfStates r) n i))) refl k

-- a part with no state in it, its end included
module _ (a : List ℕ) {lo hi : ℕ} (free : Free a lo (suc hi)) where
  pub none_in : {A : Type 0} {P : A → Type 0} {x : Result A} → Yields (Within lo hi) P x → Yields (Elsewhere a) P x
  none_in h = widen (λ r q w _. free q w.low (let u = w.high in omega arith)) h

  pub none_first : {A : Type 0} {P : A → Type 0} {x y : Result A} {bs : List ℕ} → Stage lo hi P x y bs → Yields (Elsewhere a) P x
  none_first (fault w f) = none_in (refused w)
  none_first (fine h) = given h
  none_first (breach p l u h) = refused (λ e. absurd e)

-- ---- entries

-- `total` of them from place p, where lists of them go together if their members do
module _ {a b : List ℕ} {A : Type 0} (Good : A → A → Type 0) (Goods : List A → List A → Type 0) (nil : Goods [] [])
    (cons : (x y : A) (xs ys : List A) → Good x y → Goods xs ys → Goods (x ∷ xs) (y ∷ ys)) (kinds kinds' : ℕ → List (Kind A))
    (p total : ℕ) (lengths : (i : ℕ) → i < total → number 2 a (after_entries a p i) ≡ number 2 b (after_entries a p i))
    (each : (i : ℕ) → i < total → Twin a b Good (entry a (kinds i) (after_entries a p i)) (entry b (kinds' i) (after_entries a p i))) where
  pub entries_twin : (k i : ℕ) → i + k ≡ total
      → Twin a b (λ u v. Goods u.0 v.0 × (u.1 ≡ after_entries a p total) × (v.1 ≡ after_entries a p total))
      (entries a kinds i (after_entries a p i) k) (entries b kinds' i (after_entries a p i) k)
  unfolding entries
  entries_twin zero i h = let e : i ≡ total = omega arith in rw e (both (nil, refl, refl))
  entries_twin (suc k) i h =
      bind (each i (omega arith)) λ x y g.
      rw (← lengths i (omega arith), ← after_suc a p i)
      (bind (entries_twin k (suc i) (omega arith)) λ u v q. both (cons x y u.0 v.0 g q.0, q.1, q.2))

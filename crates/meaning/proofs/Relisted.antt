-- Where files that list their explicit states otherwise (document 02, b) have the same numbers: everywhere but in these states.
-- Assumes nothing.
use mathlib.Core.Path.{◌≡◌, refl, sym, ap, ◌∙◌}
use mathlib.Core.Logic.{inl, inr}
use Prim.Native.Nat.{ℕ, zero, suc, ◌+◌, ◌-◌, ◌*◌, ◌/◌, ◌≤◌, ◌<◌, min}
use native.Mathlib.Nat.{le_of_suc-le-suc}
use native.Mathlib.Omega.{arith}
use mathlib.Core.Bool.{Bool, true, false}
use mathlib.Core.List.{List}
use lib.ListN.{take, drop, length-take, length-drop}
use lib.Seq.{get_or-take, get_or-drop, ext_get_or}
use lib.Dec.{leb, eqb, leb→le, nleb→lt}
use Rattle.task.proofs.Tests.{excluded}
use Rattle.meaning.specs.Bytes.{big_endian, number}
use Rattle.meaning.specs.Structure.{after_entries, action_set_count, state_set_count, listed_at, set_at}
use Rattle.meaning.specs.Relisted.{InState, Relisted}
use Rattle.meaning.specs.Layout.{action_count_at, after_actions}
use Rattle.meaning.proofs.Places.{behind_count, behind_actions}
use Rattle.meaning.proofs.Breaches.{states_of, after_from}

-- ---- where the states of a file are

module _ (bytes : List ℕ) where
  -- how many state sets there are
  abbrev pub set_count : ℕ
  set_count = number 2 bytes (state_set_count bytes)

  -- the places of entries, one by one and in order
  pub after_suc : (p k : ℕ) → after_entries bytes p (suc k) ≡ after_entries bytes p k + 2 + number 2 bytes (after_entries bytes p k)
  unfolding after_entries
  after_suc p zero = refl
  after_suc p (suc k) = after_suc (p + 2 + number 2 bytes p) k

  after_le : (p j k : ℕ) → j ≤ k → after_entries bytes p j ≤ after_entries bytes p k
  unfolding after_entries
  after_le p zero k l = after_from bytes p k
  after_le p (suc j) zero l = absurd (omega arith)
  after_le p (suc j) (suc k) l = after_le (p + 2 + number 2 bytes p) j k (le_of_suc-le-suc l)

  pub set_suc : (e : ℕ) → set_at bytes (suc e) ≡ set_at bytes e + 2 + number 2 bytes (set_at bytes e)
  unfolding set_at
  set_suc e = after_suc (state_set_count bytes + 2) e

  set_le : (d e : ℕ) → d ≤ e → set_at bytes d ≤ set_at bytes e
  unfolding set_at
  set_le d e l = after_le (state_set_count bytes + 2) d e l

  -- a state of the set at place p is within its entry
  listed_in_lem : (p q : ℕ) → p + 3 ≤ q → q < p + 3 + 8 * listed_at bytes p → q < p + 2 + number 2 bytes p
  unfolding listed_at
  listed_in_lem p q l = by (eqb (number 1 bytes (p + 2)) 3)
    where
      by : (c : Bool) → q < p + 3 + 8 * elim c [ true ↦ (number 2 bytes p - 1) / 8 | false ↦ 0 ] → q < p + 2 + number 2 bytes p
      by true u = omega arith
      by false u = omega arith

  -- a place at or behind set e is in no state of a set before it
  not_before : (e p : ℕ) → set_at bytes e ≤ p → (s : InState bytes p) → e ≤ s.0
  not_before e p l (d, h, m, u) =
      elim (excluded (leb e d)) [
        | inl t ↦ leb→le e d t
        | inr t ↦
            let v = set_le (suc d) e (nleb→lt e d t) in
            let w = set_suc d in
            let i = listed_in_lem (set_at bytes d) p m u in
            absurd (omega arith)
      ]

  -- from place lo to before hi there is no state
  abbrev pub Free : ℕ → ℕ → Type 0
  Free lo hi = (p : ℕ) → lo ≤ p → p < hi → InState bytes p → ⊥

  -- the count of state sets is behind that of action sets
  pub before_sets : action_set_count bytes + 2 ≤ state_set_count bytes
  unfolding state_set_count
  before_sets = after_from bytes (action_set_count bytes + 2) (number 2 bytes (action_set_count bytes))

  -- and behind each action set
  pub action_set_ends : (i : ℕ) → i < number 2 bytes (action_set_count bytes)
      → after_entries bytes (action_set_count bytes + 2) i + 2 + number 2 bytes (after_entries bytes (action_set_count bytes + 2) i)
      ≤ state_set_count bytes
  unfolding state_set_count
  action_set_ends i l =
      let p : ℕ = action_set_count bytes + 2 in
      let e = after_suc p i in
      let h = after_le p (suc i) (number 2 bytes (action_set_count bytes)) l in
      omega arith

  -- before the first set, in a set's length and kind, in a set that lists none and at the place behind it, and behind the last set
  pub free_before : Free 0 (state_set_count bytes + 5)
  unfolding set_at
  free_before p l u (d, h, m, v) = let w = after_from bytes (state_set_count bytes + 2) d in omega arith

  pub free_head : (e : ℕ) → Free (set_at bytes e) (set_at bytes e + 3)
  free_head e p l u s = let v = set_le e s.0 (not_before e p l s) in omega (arith, s.2)

  pub free_set : (e : ℕ) → listed_at bytes (set_at bytes e) ≡ 0 → Free (set_at bytes e) (suc (set_at bytes (suc e)))
  free_set e z p l u (d, h, m, v) =
      elim (excluded (leb (suc e) d)) [
        | inl t ↦ let w = set_le (suc e) d (leb→le (suc e) d t) in omega arith
        | inr t ↦
            let w = nleb→lt (suc e) d t in
            let o = not_before e p l (d, h, m, v) in
            let i : d ≡ e = omega arith in
            let n : listed_at bytes (set_at bytes d) ≡ 0 = ap (λ (c : ℕ). listed_at bytes (set_at bytes c)) i ∙ z in
            omega arith
      ]

  pub free_rest : (hi : ℕ) → Free (set_at bytes set_count) hi
  free_rest hi p l u s = let v = not_before set_count p l s in omega (arith, s.1)

-- ---- what two such files have in common

module _ {a b : List ℕ} (r : Relisted a b) where
  pub number_same : (k p : ℕ) → Free a p (p + k) → number k a p ≡ number k b p
  unfolding number
  number_same k p free =
      ap (big_endian 0) (ext_get_or 0 (take k (drop p a)) (take k (drop p b))
      (length-take k (drop p a) ∙ ap (min k) (length-drop p a ∙ ap (λ (n : ℕ). n - p) r.size ∙ sym (length-drop p b))
      ∙ sym (length-take k (drop p b))) (λ i l.
      let n = length-take k (drop p a) in
      let u : i < k = omega arith in
      get_or-take k (drop p a) i 0 u ∙ get_or-drop p a i 0 ∙ r.others (p + i) (free (p + i) (omega arith) (omega arith))
      ∙ sym (get_or-drop p b i 0) ∙ sym (get_or-take k (drop p b) i 0 u)))

  -- entries whose lengths are in no state
  after_same : (p k : ℕ) → ((j : ℕ) → j < k → Free a (after_entries a p j) (after_entries a p j + 2))
      → after_entries a p k ≡ after_entries b p k
  unfolding after_entries
  after_same p zero free = refl
  after_same p (suc k) free =
      after_suc a p k ∙ ap (λ (n : ℕ). after_entries a p k + 2 + n) (number_same 2 (after_entries a p k) (free k (omega arith)))
      ∙ ap (λ (q : ℕ). q + 2 + number 2 b q) (after_same p k (λ j l. free j (omega arith))) ∙ sym (after_suc b p k)

  pub action_count_same : action_set_count a ≡ action_set_count b
  unfolding action_set_count
  action_count_same =
      let l = before_sets a in
      let h = behind_count a in
      let o = behind_actions a in
      let v : ℕ = number 1 a 4 in
      ap (after_actions v) (number_same 2 (action_count_at v) (λ p _ u. free_before a p (omega arith) (omega arith)))
      ∙ ap (λ (w : ℕ). after_actions w (number 2 b (action_count_at w)))
      (number_same 1 4 (λ p _ u. free_before a p (omega arith) (omega arith)))

  pub set_count_place_same : state_set_count a ≡ state_set_count b
  unfolding state_set_count
  set_count_place_same =
      let A : ℕ = action_set_count a in
      let k : ℕ = number 2 a A in
      let l = before_sets a in
      let n : k ≡ number 2 b A = number_same 2 A (λ p _ u. free_before a p (omega arith) (omega arith)) in
      after_same (A + 2) k (λ j h p _ u. let m = action_set_ends a j h in free_before a p (omega arith) (omega arith))
      ∙ ap (λ (i : ℕ). after_entries b (A + 2) i) n ∙ ap (λ (q : ℕ). after_entries b (q + 2) (number 2 b q)) action_count_same

  pub set_same : (e : ℕ) → set_at a e ≡ set_at b e
  unfolding set_at
  set_same e =
      after_same (state_set_count a + 2) e (λ j _ p l u. free_head a j p l (omega arith))
      ∙ ap (λ (q : ℕ). after_entries b (q + 2) e) set_count_place_same

  pub listed_same : (e : ℕ) → listed_at a (set_at a e) ≡ listed_at b (set_at b e)
  unfolding listed_at
  listed_same e =
      let p : ℕ = set_at a e in
      ap (λ (n : ℕ). states_of (number 1 a (p + 2)) (n - 1)) (number_same 2 p (λ q l u. free_head a e q l (omega arith)))
      ∙ ap (λ (k : ℕ). states_of k (number 2 b p - 1)) (number_same 1 (p + 2) (λ q l u. free_head a e q (omega arith) (omega arith)))
      ∙ ap (listed_at b) (set_same e)

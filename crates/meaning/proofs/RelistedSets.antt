-- State sets of two files that list their explicit states otherwise: alike, or 5 at a state of the same set.
-- Assumes nothing.
use mathlib.Core.Path.{◌≡◌, refl, sym, ap, subst}
use mathlib.Core.Logic.{inl, inr}
use Prim.Native.Nat.{ℕ, zero, suc, ◌+◌, ◌-◌, ◌*◌, ◌/◌, ◌^◌, ◌≤◌, ◌<◌}
use native.Mathlib.Nat.{mul-suc}
use native.Mathlib.Omega.{arith}
use mathlib.Core.Bool.{Bool, true, false, not, ◌&&◌}
use mathlib.Core.Option.{some}
use mathlib.Core.List.{List, ◌∷◌}
use lib.ListN.{length, get_elem?}
use lib.Dec.{T, T_not, leb, ltb, eqb, leb→le, le→leb, eqb→eq}
use Rattle.task.specs.Reach.{member, every}
use Rattle.task.proofs.Tests.{excluded, is_false, every_at, every_of}
use Rattle.meaning.specs.Result.{Result, refuse, found, ◌>>=◌, need, known}
use Rattle.meaning.specs.Bytes.{number, inside}
use Rattle.meaning.specs.File.{explicit, StateSet, basic}
use Rattle.meaning.specs.Limits.{full}
use Rattle.meaning.specs.Layout.{items, field, mask, Kind, up_to, state_kinds, entry}
use Rattle.meaning.specs.Structure.{action_set_count, listed_at, set_at}
use Rattle.meaning.specs.Relisted.{states_from, wrong_from, states_in, wrong_in, Relisted}
use Rattle.meaning.proofs.Results.{need_in}
use Rattle.meaning.proofs.LayoutFaults.{field_in}
use Rattle.meaning.proofs.Breaches.{states_of, Tail, state_table_lem, entry_stage}
use Rattle.meaning.proofs.Relisted.{set_count, set_suc, Free, before_sets, free_before, free_head, free_set, number_same}
use Rattle.meaning.proofs.Relisted.{set_same, listed_same}
use Rattle.meaning.proofs.RelistedParts.{head_eq, entry_eq, state_kinds_eq}
use Rattle.meaning.proofs.Twins.{Twin, wrong, both, same, same_then, need_then, none_in, none_first}
use Rattle.meaning.proofs.Alike.{AlikeSet, same as same_set, listed}

-- ---- listed states

-- the states are found if each passes, or else refused with 5 at the first wrong place
data Listed (pass : Bool) (states wrong : List ℕ) : Result (List ℕ) → Type 0 where
  fine : T pass → Listed pass states wrong (found states)
  bad : {p : ℕ} → T (not pass) → get_elem? wrong 0 ≡ some p → Listed pass states wrong (refuse 5 p)

one_more : (c : Bool) {pass : Bool} {states wrong : List ℕ} {x : Result (List ℕ)} (s p : ℕ) → Listed pass states wrong x
    → Listed (c && pass) (s ∷ states) (elim c [ true ↦ wrong | false ↦ p ∷ wrong ])
    (need c 5 p >>= (λ _. found s) >>= λ s. x >>= λ ss. found (s ∷ ss))
unfolding need ◌>>=◌
one_more true s p (fine t) = fine t
one_more true s p (bad t w) = bad t w
one_more false s p l = bad tt refl

-- a state of n facts
abbrev lawful : ℕ → ℕ → Bool
lawful n s = ltb s (2 ^ n)

module _ (bytes : List ℕ) where
  listed_read : (k p : ℕ) → p + 8 * k ≤ length bytes
      → Listed (every (lawful (number 1 bytes 5)) (states_from bytes p k)) (states_from bytes p k) (wrong_from bytes p k)
      (items (mask bytes (number 1 bytes 5)) 8 p k)
  unfolding items mask field inside states_from wrong_from every ◌>>=◌
  listed_read zero p h = fine tt
  listed_read (suc k) p h =
      let e = mul-suc 8 k in
      rw (need_in (leb (p + 8) (length bytes)) 3 p (le→leb (p + 8) (length bytes) (omega arith)))
      (one_more (lawful (number 1 bytes 5) (number 8 bytes p)) (number 8 bytes p) p (listed_read k (p + 8) (omega arith)))

-- the same states pass the same test
carry : (t : ℕ → Bool) (xs ys : List ℕ) → ((s : ℕ) → member s xs ≡ member s ys) → T (every t xs) → T (every t ys)
carry t xs ys h e = every_of t ys (λ s m. every_at t xs s e (subst T (sym (h s)) m))

-- ---- state sets

-- what an explicit set lists, of two files where its states pass or fail together
listed_twin : {a b : List ℕ} (e : ℕ) {pass pass' : Bool} {ss ss' : List ℕ} {x y : Result (List ℕ)}
    → e < set_count a → (T pass → T pass') → (T pass' → T pass)
    → ((s : ℕ) → member s ss ≡ member s ss') → Listed pass ss (wrong_in a e) x → Listed pass' ss' (wrong_in b e) y
    → Twin a b AlikeSet (x >>= λ ss. found (basic (explicit ss))) (y >>= λ ss. found (basic (explicit ss)))
unfolding ◌>>=◌
listed_twin e {ss = ss} {ss'} l f g h (fine t) (fine t') = both (listed ss ss' h)
listed_twin e {pass' = pass'} l f g h (fine t) (bad t' w) = absurd (T_not pass' t' (f t))
listed_twin e {pass} l f g h (bad t w) (fine t') = absurd (T_not pass t (g t'))
listed_twin e l f g h (bad t v) (bad t' w) = wrong e l v w

-- a set of another kind lists none
lists_none : (bytes : List ℕ) (p : ℕ) → T (not (eqb (number 1 bytes (p + 2)) 3)) → listed_at bytes p ≡ 0
unfolding listed_at
lists_none bytes p t =
    let c : Bool = eqb (number 1 bytes (p + 2)) 3 in
    ap (λ (c : Bool). elim c [ true ↦ (number 2 bytes p - 1) / 8 | false ↦ 0 ]) (is_false c (T_not c t))

module _ {a b : List ℕ} (r : Relisted a b) where
  -- how state set e is read, if it is explicit
  abbrev explicit_at : List ℕ → ℕ → Result StateSet
  explicit_at c e =
      items (mask c (number 1 a 5)) 8 (set_at a e + 3) (listed_at a (set_at a e)) >>= λ ss. found (basic (explicit ss))

  explicit_twin : (e : ℕ) → e < set_count a → set_at a e + 3 + 8 * listed_at a (set_at a e) ≤ length a
      → Twin a b AlikeSet (explicit_at a e) (explicit_at b e)
  unfolding action_set_count states_in wrong_in
  explicit_twin e l h =
      let A : List ℕ = states_in a e in
      let B : List ℕ = states_in b e in
      let t : ℕ → Bool = lawful (number 1 a 5) in
      let o = before_sets a in
      let n = r.size in
      let p = set_same r e in
      let k = listed_same r e in
      let f = number_same r 1 5 (λ p _ u. free_before a p (omega arith) (omega arith)) in
      let m : (s : ℕ) → member s A ≡ member s B = r.states e l in
      listed_twin e {pass = every t A} {pass' = every t B} l (carry t A B m) (carry t B A (λ s. sym (m s))) m
      (listed_read a (listed_at a (set_at a e)) (set_at a e + 3) h)
      (rw (k, p, f) (listed_read b (listed_at b (set_at b e)) (set_at b e + 3) (omega arith)))

  -- the same from the kind on, and from the length on
  module _ (most m e : ℕ) (l : e < set_count a) where
    abbrev pub kinds_of : List ℕ → List (Kind StateSet)
    kinds_of c = state_kinds c most (number 1 a 5) m e

    explicit_kind : (len : ℕ) → listed_at a (set_at a e) ≡ len / 8 → set_at a e + 3 + 8 * listed_at a (set_at a e) ≤ length a
        → Twin a b AlikeSet (known (get_elem? (kinds_of a) 3) 4 (set_at a e + 2) >>= Tail (set_at a e) len)
        (known (get_elem? (kinds_of b) 3) 4 (set_at a e + 2) >>= Tail (set_at a e) len)
    unfolding state_kinds known ◌>>=◌
    explicit_kind len k h =
        need_then (up_to 8 full.states len) 4 (set_at a e) tt λ _ _.
        need_then (up_to 8 most len) 19 (set_at a e) tt λ _ _.
        rw (← k) (explicit_twin e l h)

    explicit_entry : number 1 a (set_at a e + 2) ≡ 3
        → Twin a b AlikeSet (entry a (kinds_of a) (set_at a e)) (entry a (kinds_of b) (set_at a e))
    unfolding entry inside listed_at
    explicit_entry k =
        let p : ℕ = set_at a e in
        let n : ℕ = number 2 a p in
        let h : listed_at a p ≡ (n - 1) / 8 = ap (λ (j : ℕ). states_of j (n - 1)) k in
        same_then (none_in a (λ q l u. free_head a e q l (omega arith)) (field_in p p a 2 p (omega arith) (omega arith))) refl λ len i.
        rw i
        (need_then _ 3 p tt λ _ t.
        need_then (leb 1 n) 4 p tt λ _ o.
        let u = leb→le (p + (2 + n)) (length a) t in
        let v = leb→le 1 n o in
        rw k (explicit_kind (n - 1) h (omega arith)))

    pub state_entry : Twin a b AlikeSet (entry a (kinds_of a) (set_at a e)) (entry b (kinds_of b) (set_at a e))
    state_entry =
        let p : ℕ = set_at a e in
        elim (excluded (eqb (number 1 a (p + 2)) 3)) [
          | inl t ↦
              rw (← head_eq r p (p + 3) (free_head a e) (kinds_of b) p (omega arith) (omega arith))
              (explicit_entry (eqb→eq (number 1 a (p + 2)) 3 t))
          | inr t ↦
              let hi : ℕ = suc (p + 2 + number 2 a p) in
              let f : Free a p hi = rw (← set_suc a e) (free_set a e (lists_none a p t)) in
              same (none_first a f (entry_stage a most (state_table_lem most a (number 1 a 5) m e) p))
              (entry_eq r p hi f (state_kinds_eq r p hi f most (number 1 a 5) m e) p (omega arith) (omega arith) (omega arith))
              (λ u _. same_set u)
        ]

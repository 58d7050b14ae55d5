-- By a lawful list bytes can be rewritten one to one: for each rule in turn two bytes change places, so that the rule's number becomes
-- the list's.
-- Assumes nothing.
use mathlib.Core.Path.{◌≡◌, refl, sym, ap, ◌∙◌, subst}
use mathlib.Core.Bool.{Bool, true, false, not, ◌&&◌}
use Prim.Native.Nat.{ℕ, zero, suc, ◌+◌, ◌<◌, ◌≤◌}
use native.Mathlib.Omega.{arith}
use native.Mathlib.Decide.{dec_lt, ℕ_discrete}
use mathlib.Core.List.{List, [], ◌∷◌, ◌++◌, append_assoc, append-nil}
use lib.ListN.{length, get_or, length-append, get_or-append}
use lib.Seq.{get_or-append_seam}
use lib.Dec.{T, eqb, ltb, eqb_refl, eqb→eq, ltb→lt}
use Rattle.task.specs.Reach.{member, every}
use Rattle.task.proofs.Tests.{and_left, and_right, never, is_true, is_false, member_first, member_rest}
use Rattle.meaning.specs.Result.{found}
use Rattle.meaning.specs.Bytes.{AreBytes}
use Rattle.meaning.specs.Numbering.{check_unused}
use Rattle.meaning.specs.Points.{Renumbered}
use Rattle.meaning.proofs.Results.{need_case, and_out}
use Rattle.meaning.proofs.Numbering.{twenty_eight, all_unused}

-- ---- bytes one to one

record OneToOne (to from : ℕ → ℕ) : Type 0 where
  there : (x : ℕ) → x < 256 → to x < 256
  back : (x : ℕ) → x < 256 → from x < 256
  from_to : (x : ℕ) → from (to x) ≡ x
  to_from : (x : ℕ) → to (from x) ≡ x

-- a and b change places
swap : ℕ → ℕ → ℕ → ℕ
swap a b x = elim (eqb x a) [ true ↦ b | false ↦ elim (eqb x b) [ true ↦ a | false ↦ x ] ]

module _ (a b : ℕ) where
  swap_first : swap a b a ≡ b
  unfolding swap
  swap_first = rw (swap, is_true (eqb a a) (eqb_refl a)) refl

  swap_other : (x : ℕ) → (x ≡ a → ⊥) → (x ≡ b → ⊥) → swap a b x ≡ x
  unfolding swap
  swap_other x n m = rw (swap, is_false (eqb x a) (λ t. n (eqb→eq x a t)), is_false (eqb x b) (λ t. m (eqb→eq x b t))) refl

  swap_second : swap a b b ≡ a
  unfolding swap
  swap_second = go (eqb b a) refl
    where
      go : (c : Bool) → eqb b a ≡ c → ◌≡◌ {A = ℕ} (elim c [ true ↦ b | false ↦ elim (eqb b b) [ true ↦ a | false ↦ b ] ]) a
      go true e = eqb→eq b a (subst T (sym e) tt)
      go false e = rw (is_true (eqb b b) (eqb_refl b)) refl

  swap_back : (x : ℕ) → swap a b (swap a b x) ≡ x
  swap_back x =
      elim (ℕ_discrete x a) [
        | yes e ↦ subst (λ (y : ℕ). swap a b (swap a b y) ≡ y) (sym e) (ap (swap a b) swap_first ∙ swap_second)
        | no n ↦ elim (ℕ_discrete x b) [
          | yes e ↦ subst (λ (y : ℕ). swap a b (swap a b y) ≡ y) (sym e) (ap (swap a b) swap_second ∙ swap_first)
          | no m ↦ ap (swap a b) (swap_other x n m) ∙ swap_other x n m
        ]
      ]

  swap_byte : a < 256 → b < 256 → (x : ℕ) → x < 256 → swap a b x < 256
  unfolding swap
  swap_byte l m x h = go (eqb x a) (eqb x b)
    where
      go : (c d : Bool) → elim c [ true ↦ b | false ↦ elim d [ true ↦ a | false ↦ x ] ] < 256
      go true d = m
      go false true = l
      go false false = h

-- one change more
swapped : {to from : ℕ → ℕ} (a b : ℕ) → a < 256 → b < 256 → OneToOne to from
    → OneToOne (λ x. swap a b (to x)) (λ x. from (swap a b x))
swapped {to} {from} a b l m o = record {
  there = λ x h. swap_byte a b l m (to x) (o.there x h);
  back = λ x h. o.back (swap a b x) (swap_byte a b l m x h);
  from_to = λ x. ap from (swap_back a b (to x)) ∙ o.from_to x;
  to_from = λ x. ap (swap a b) (o.to_from (swap a b x)) ∙ swap_back a b x;
}

-- ---- the list's bytes in turn

member_there : (xs : List ℕ) (k : ℕ) → k < length xs → T (member (get_or xs k 0) xs)
member_there [] k l = absurd (omega arith)
member_there (x ∷ xs) zero l = member_first x x xs refl
member_there (x ∷ xs) (suc k) l = member_rest (get_or xs k 0) x xs (member_there xs k (omega arith))

-- the rules' numbers become the bytes of the list, as far as it goes
abbrev Listed : List ℕ → (ℕ → ℕ) → Type 0
Listed xs to = (k : ℕ) → k < length xs → to (suc k) ≡ get_or xs k 0

-- one byte more, which was not used before
listed_more : (xs : List ℕ) (x : ℕ) (to from : ℕ → ℕ) → OneToOne to from → T (not (member x xs)) → Listed xs to
    → Listed (xs ++ x ∷ []) (λ y. swap (to (suc (length xs))) x (to y))
listed_more xs x to from o n h k l =
    let n₁ = length-append xs (x ∷ []) in
    elim (dec_lt k (length xs)) [
      | yes m ↦
          let e : to (suc k) ≡ get_or xs k 0 = h k m in
          swap_other (to (suc (length xs))) x (to (suc k))
          (λ q.
          let z : suc k ≡ suc (length xs) = sym (o.from_to (suc k)) ∙ ap from q ∙ o.from_to (suc (length xs)) in absurd (omega arith))
          (λ q. never (member x xs) (subst (λ (y : ℕ). T (member y xs)) (sym e ∙ q) (member_there xs k m)) n)
          ∙ e ∙ sym (get_or-append xs (x ∷ []) 0 k m)
      | no m ↦
          let z : k ≡ length xs = omega arith in
          subst (λ (j : ℕ). swap (to (suc (length xs))) x (to (suc j)) ≡ get_or (xs ++ x ∷ []) j 0) (sym z)
          (swap_first (to (suc (length xs))) x ∙ sym (get_or-append_seam xs x [] 0))
    ]

renumber : (xs ys : List ℕ) (to from : ℕ → ℕ) → OneToOne to from → Listed xs to → length xs + length ys ≤ 255 → AreBytes ys
    → check_unused xs ys ≡ found tt → (to' : ℕ → ℕ) × (from' : ℕ → ℕ) × OneToOne to' from' × Listed (xs ++ ys) to'
unfolding check_unused every
renumber xs [] to from o h l b e = (to, from, o, subst (λ (zs : List ℕ). Listed zs to) (sym (append-nil xs)) h)
renumber xs (x ∷ ys) to from o h l b e =
    need_case (not (eqb x 0) && not (member x xs)) 18 (length xs) _ tt e λ t e₁.
    let n : T (not (member x xs)) = (and_out (not (eqb x 0)) (not (member x xs)) t).1 in
    let z : ℕ = to (suc (length xs)) in
    let b₀ : z < 256 = o.there (suc (length xs)) (omega arith) in
    let b₁ : x < 256 = ltb→lt x 256 (and_left (ltb x 256) (every (λ y. ltb y 256) ys) b) in
    let r = renumber (xs ++ x ∷ []) ys (λ y. swap z x (to y)) (λ y. from (swap z x y)) (swapped z x b₀ b₁ o)
    (listed_more xs x to from o n h) (let c = length-append xs (x ∷ []) in omega arith)
    (and_right (ltb x 256) (every (λ y. ltb y 256) ys) b) e₁ in
    (r.0, r.1, r.2, subst (λ (zs : List ℕ). Listed zs r.0) (append_assoc xs (x ∷ []) ys) r.3)

pub renumbered : Renumbered
renumbered numbers b h =
    let c = twenty_eight numbers h in
    let r = renumber [] numbers (λ x. x) (λ x. x)
    (record { there = λ x l. l; back = λ x l. l; from_to = λ x. refl; to_from = λ x. refl }) (λ k l. absurd (omega arith))
    (omega arith) b (all_unused numbers h) in (
      r.0,
      r.1,
      record {
        listed = λ k l. r.3 k (omega arith);
        there = r.2.there;
        back = r.2.back;
        from_to = r.2.from_to;
        to_from = r.2.to_from;
      },
    )

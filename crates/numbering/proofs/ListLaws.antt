-- The list's check and its table, byte by byte as the loop goes through it.
-- Assumes nothing.
use mathlib.Core.Path.{◌≡◌, refl, sym, ap, ◌∙◌, subst}
use mathlib.Core.Bool.{Bool, true, false, not, ◌&&◌, ◌||◌}
use mathlib.Core.Logic.{◌⊎◌, inl, inr}
use Prim.Native.Nat.{ℕ, suc, ◌+◌, ◌≤◌, ◌<◌}
use native.Mathlib.Numerals.{add-one}
use native.Mathlib.Decide.{ℕ_discrete, dec_lt}
use native.Mathlib.Omega.{arith}
use mathlib.Core.List.{List, [], ◌∷◌, ◌++◌}
use lib.ListN.{length, get_or, take, drop, set, drop_of_length-le}
use lib.Seq.{get_or-set_same, get_or-set_other, take-suc, take_all, drop-cons, length-take-le}
use lib.Dec.{T, eqb, ltb, eqb→eq, ltb→lt, lt→ltb}
use borrow.Author.Count.{below_more}
use borrow.Author.Tests.{ne_eqb, eq-eqb}
use Rattle.task.specs.Reach.{member}
use Rattle.task.proofs.Tests.{not_of, holds, same, is_true, is_false, or_cases, or_left, or_right}
use Rattle.meaning.specs.Result.{Result, refuse, found, ◌>>=◌, need}
use Rattle.meaning.specs.Numbering.{check_unused, check_numbers, rule_from, rule_meant}
use Rattle.meaning.proofs.Numbering.{lacked, listed_from, rule_at_lem, rule_before}
use Rattle.numbering.specs.Table.{Stands}

-- the table has the rules of the first k bytes, and what is left to check says what all of them say
pub record Tabled (numbers : List ℕ) (k : ℕ) (rules : List ℕ) : Type 0 where
  pub each : Stands rules (rule_meant (take k numbers))
  pub left : check_unused (take k numbers) (drop k numbers) ≡ check_unused [] numbers

pub tabled_none : (numbers rules : List ℕ) → Stands rules (λ x. 0) → Tabled numbers 0 rules
unfolding rule_meant rule_from
tabled_none numbers rules z = record { each = z; left = refl }

module _ (numbers : List ℕ) (k : ℕ) (rules : List ℕ) (h : Tabled numbers k rules) (inside : k < length numbers) where
  abbrev x : ℕ
  x = get_or numbers k 0

  abbrev earlier : List ℕ
  earlier = take k numbers

  -- the check of byte k, and then of the rest
  abbrev tested : Bool → Result (Unit {0})
  tested b = need b 18 (length earlier) >>= (λ _. check_unused (earlier ++ x ∷ []) (drop (suc k) numbers))

  next : tested (not (eqb x 0) && not (member x earlier)) ≡ check_unused [] numbers
  unfolding check_unused
  next = sym (ap (check_unused earlier) (drop-cons numbers k 0 inside)) ∙ h.left

  place : length earlier ≡ k
  place = length-take-le k numbers (omega arith)

  -- the table tells whether the byte was used before
  unused_before : x < 256 → get_or rules x 0 ≡ 0 → T (not (member x earlier))
  unfolding rule_meant
  unused_before l e =
      not_of (member x earlier) (λ m.
      let a = listed_from earlier 1 x m in
      let b : get_or rules x 0 ≡ rule_from 1 earlier x = h.each x l in
      absurd (omega arith))

  used_before : x < 256 → 0 < get_or rules x 0 → not (member x earlier) ≡ false
  unfolding rule_meant
  used_before l e =
      is_false (not (member x earlier)) (λ n.
      let a : rule_from 1 earlier x ≡ 0 = lacked earlier 1 x n in
      let b : get_or rules x 0 ≡ rule_from 1 earlier x = h.each x l in
      absurd (omega arith))

  fault_at : x < 256 → (x ≡ 0) ⊎ (0 < get_or rules x 0) → check_unused [] numbers ≡ refuse 18 k
  unfolding need ◌>>=◌
  fault_at l (inl z) = sym next ∙ rw (eq-eqb x 0 z) (ap (refuse 18) place)
  fault_at l (inr u) = sym next ∙ rw (used_before l u) (go (not (eqb x 0)))
    where
      go : (b : Bool) → tested (b && false) ≡ refuse 18 k
      go true = ap (refuse 18) place
      go false = ap (refuse 18) place

  -- the byte is zero or was used before, as the code asks
  abbrev spent : Bool
  spent = eqb x 0 || ltb 0 (get_or rules x 0)

  pub fault : x < 256 → spent ≡ true → check_unused [] numbers ≡ refuse 18 k
  fault l e =
      fault_at l (elim (or_cases (eqb x 0) (ltb 0 (get_or rules x 0)) (holds e)) [
        | inl z ↦ inl (eqb→eq x 0 z)
        | inr u ↦ inr (ltb→lt 0 (get_or rules x 0) u)
      ])

  -- it is neither, and stands for rule k + 1
  pub more : x < 256 → length rules ≡ 256 → spent ≡ false → Tabled numbers (k + 1) (set rules x (k + 1))
  unfolding need ◌>>=◌ rule_meant
  more l size s =
      let unspent : T spent → ⊥ = (λ t. let z : true ≡ false = sym (is_true spent t) ∙ s in absurd (subst T z tt)) in
      let n : x ≡ 0 → ⊥ = (λ e. unspent (or_left (eqb x 0) (ltb 0 (get_or rules x 0)) (same e))) in
      let u : get_or rules x 0 ≡ 0 =
      elim (dec_lt 0 (get_or rules x 0)) [
        | yes m ↦ absurd (unspent (or_right (eqb x 0) (ltb 0 (get_or rules x 0)) (lt→ltb 0 (get_or rules x 0) m)))
        | no m ↦ omega arith
      ] in
      let t : take (k + 1) numbers ≡ earlier ++ x ∷ [] = ap (λ (i : ℕ). take i numbers) (add-one k) ∙ take-suc numbers k 0 inside in
      let fresh : T (not (member x earlier)) = unused_before l u in
      record {
        each = λ y m.
            elim (ℕ_discrete y x) [
              | yes e ↦ subst (λ (z : ℕ). get_or (set rules x (k + 1)) z 0 ≡ rule_from 1 (take (k + 1) numbers) z) (sym e)
                  (get_or-set_same rules x (k + 1) 0 (omega arith)
                  ∙ sym (ap (λ (l : List ℕ). rule_from 1 l x) t ∙ rule_at_lem earlier [] 1 x fresh ∙ (let p = place in omega arith)))
              | no d ↦ get_or-set_other rules x y (k + 1) 0 d ∙ h.each y m
                  ∙ sym (ap (λ (l : List ℕ). rule_from 1 l y) t ∙ rule_before earlier 1 x y d)
            ];
        left =
            ap (λ (i : List ℕ). check_unused i (drop (k + 1) numbers)) t
            ∙ ap (λ (i : ℕ). check_unused (earlier ++ x ∷ []) (drop i numbers)) (add-one k)
            ∙ rw (← next, ne_eqb x 0 n, is_true (not (member x earlier)) fresh) refl;
      }

-- ---- the whole list

module _ (numbers : List ℕ) where
  -- of another length
  pub other_length : (length numbers ≡ 28 → ⊥) → check_numbers numbers ≡ refuse 18 (length numbers)
  unfolding check_numbers need ◌>>=◌
  other_length n = rw (ne_eqb (length numbers) 28 n) refl

  pub by_bytes : length numbers ≡ 28 → check_numbers numbers ≡ check_unused [] numbers
  unfolding check_numbers need ◌>>=◌
  by_bytes e = rw (eq-eqb (length numbers) 28 e) refl

  -- all bytes passed
  pub all_passed : (k : ℕ) (rules : List ℕ) → Tabled numbers k rules → length numbers ≡ 28 → 28 ≤ k → check_numbers numbers ≡ found tt
  unfolding check_unused
  all_passed k rules h e l =
      let n : length numbers ≤ k = omega arith in
      by_bytes e ∙ sym h.left ∙ ap (check_unused (take k numbers)) (drop_of_length-le numbers n)

  pub whole_table : (k : ℕ) (rules : List ℕ) → Tabled numbers k rules → length numbers ≡ 28 → 28 ≤ k → Stands rules (rule_meant numbers)
  whole_table k rules h e l = subst (λ (xs : List ℕ). Stands rules (rule_meant xs)) (take_all k numbers (omega arith)) h.each

  pub faulty : (k : ℕ) (rules : List ℕ) → length numbers ≡ 28 → k < 28 → Tabled numbers k rules → get_or numbers k 0 < 256
      → (eqb (get_or numbers k 0) 0 || ltb 0 (get_or rules (get_or numbers k 0) 0)) ≡ true → check_numbers numbers ≡ refuse 18 k
  faulty k rules e l h b t =
      let i : k < length numbers = omega arith in
      by_bytes e ∙ fault numbers k rules h i b t

-- ---- document 01's own numbers

-- one byte more stands for itself
pub own_more : (rules : List ℕ) (x : ℕ) → x < length rules → ((y : ℕ) → y < x → get_or rules y 0 ≡ y)
    → (y : ℕ) → y < x + 1 → get_or (set rules x x) y 0 ≡ y
own_more rules x l h =
    below_more (λ y. get_or (set rules x x) y 0 ≡ y) x (λ y m. get_or-set_other rules x y x 0 (λ e. absurd (omega arith)) ∙ h y m)
    (get_or-set_same rules x x 0 l)

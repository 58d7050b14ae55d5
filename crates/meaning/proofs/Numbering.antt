-- A caller's list of rule numbers: what is known of one that passes, which rule a byte stands for, and that a file rewritten by the
-- list is judged as the plain one.
-- Assumes nothing.
use mathlib.Core.Path.{◌≡◌, refl, sym, ap, ◌∙◌, subst}
use mathlib.Core.Bool.{Bool, true, false, not, ◌&&◌, ◌||◌}
use mathlib.Core.Option.{none}
use mathlib.Core.Logic.{inl, inr}
use Prim.Native.Nat.{ℕ, zero, suc, ◌+◌, ◌<◌, ◌≤◌}
use native.Mathlib.Nat.{not-suc-le-zero, le_of_suc-le-suc}
use native.Mathlib.Omega.{arith}
use native.Mathlib.Decide.{dec_lt}
use mathlib.Core.List.{List, [], ◌∷◌, ◌++◌, append_assoc, append-nil}
use lib.ListN.{length, get_or, get_elem?, take, drop}
use lib.Seq.{split_at, length-take-le}
use lib.Dec.{T, eqb, eqb_refl, eqb→eq}
use Rattle.task.specs.Reach.{member}
use Rattle.task.proofs.Tests.{not_of, member_cases}
use Rattle.meaning.specs.Result.{found}
use Rattle.meaning.specs.File.{File}
use Rattle.meaning.specs.Statements.{statements}
use Rattle.meaning.specs.Rules.{rules}
use Rattle.meaning.specs.Step.{all_rules, rule_at}
use Rattle.meaning.specs.Numbering.{check_unused, check_numbers, rule_from, rule_meant, Renumbering}
use Rattle.meaning.proofs.Results.{need_case, and_out}

-- ---- the rule that a byte stands for

-- a byte that the list lacks stands for none
pub lacked : (xs : List ℕ) (k x : ℕ) → T (not (member x xs)) → rule_from k xs x ≡ 0
unfolding rule_from member
lacked [] k x h = refl
lacked (y ∷ ys) k x h = go (eqb x y) (lacked ys (suc k) x) h
  where
    go : (b : Bool) → (T (not (member x ys)) → rule_from (suc k) ys x ≡ 0) → T (not (b || member x ys))
        → ◌≡◌ {A = ℕ} (elim b [ true ↦ k | false ↦ rule_from (suc k) ys x ]) 0
    go true r t = absurd t
    go false r t = r t

-- one that it has, for a rule from k on
pub listed_from : (xs : List ℕ) (k x : ℕ) → T (member x xs) → k ≤ rule_from k xs x
unfolding rule_from member
listed_from [] k x h = absurd h
listed_from (y ∷ ys) k x h = go (eqb x y) (listed_from ys (suc k) x) h
  where
    go : (b : Bool) → (T (member x ys) → suc k ≤ rule_from (suc k) ys x) → T (b || member x ys)
        → k ≤ elim b [ true ↦ k | false ↦ rule_from (suc k) ys x ]
    go true r t = omega arith
    go false r t = let l = r t in omega arith

-- its first place counts
pub rule_at_lem : (xs ys : List ℕ) (k x : ℕ) → T (not (member x xs)) → rule_from k (xs ++ x ∷ ys) x ≡ k + length xs
unfolding rule_from member
rule_at_lem [] ys k x h = go (eqb x x) (eqb_refl x)
  where
    go : (b : Bool) → T b → ◌≡◌ {A = ℕ} (elim b [ true ↦ k | false ↦ rule_from (suc k) ys x ]) (k + 0)
    go true t = omega arith
    go false t = absurd t
rule_at_lem (y ∷ xs) ys k x h = go (eqb x y) (rule_at_lem xs ys (suc k) x) h
  where
    go : (b : Bool) → (T (not (member x xs)) → rule_from (suc k) (xs ++ x ∷ ys) x ≡ suc k + length xs) → T (not (b || member x xs))
        → ◌≡◌ {A = ℕ} (elim b [ true ↦ k | false ↦ rule_from (suc k) (xs ++ x ∷ ys) x ]) (k + suc (length xs))
    go true r t = absurd t
    go false r t = let e = r t in omega arith

-- and others stand for what they stood for before one more byte
pub rule_before : (xs : List ℕ) (k y x : ℕ) → (x ≡ y → ⊥) → rule_from k (xs ++ y ∷ []) x ≡ rule_from k xs x
unfolding rule_from
rule_before [] k y x n = go (eqb x y) refl
  where
    go : (b : Bool) → eqb x y ≡ b → ◌≡◌ {A = ℕ} (elim b [ true ↦ k | false ↦ 0 ]) 0
    go true e = absurd (n (eqb→eq x y (subst T (sym e) tt)))
    go false e = refl
rule_before (z ∷ xs) k y x n = ap (λ (r : ℕ). elim (eqb x z) [ true ↦ k | false ↦ r ]) (rule_before xs (suc k) y x n)

-- ---- a list that passes

-- no byte was used before
unused : (earlier xs : List ℕ) → check_unused earlier xs ≡ found tt → (k : ℕ) → k < length xs
    → T (not (member (get_or xs k 0) (earlier ++ take k xs)))
unfolding check_unused
unused earlier [] h k l = absurd (not-suc-le-zero l)
unused earlier (x ∷ xs) h zero l =
    need_case (not (eqb x 0) && not (member x earlier)) 18 (length earlier) _ tt h λ t _.
    subst (λ (r : List ℕ). T (not (member x r))) (sym (append-nil earlier)) (and_out (not (eqb x 0)) (not (member x earlier)) t).1
unused earlier (x ∷ xs) h (suc k) l =
    need_case (not (eqb x 0) && not (member x earlier)) 18 (length earlier) _ tt h λ _ e.
    subst (λ (r : List ℕ). T (not (member (get_or xs k 0) r))) (append_assoc earlier (x ∷ []) (take k xs))
    (unused (earlier ++ x ∷ []) xs e k (le_of_suc-le-suc l))

module _ (numbers : List ℕ) (h : check_numbers numbers ≡ found tt) where
  pub twenty_eight : length numbers ≡ 28
  unfolding check_numbers
  twenty_eight = need_case (eqb (length numbers) 28) 18 (length numbers) _ tt h λ t _. eqb→eq (length numbers) 28 t

  pub all_unused : check_unused [] numbers ≡ found tt
  unfolding check_numbers
  all_unused = need_case (eqb (length numbers) 28) 18 (length numbers) _ tt h λ _ e. e

  -- the k-th byte stands for rule k
  pub meant : (k : ℕ) → k < 28 → rule_meant numbers (get_or numbers k 0) ≡ suc k
  unfolding rule_meant
  meant k l =
      let n : k < length numbers = (let e = twenty_eight in omega arith) in
      let x : ℕ = get_or numbers k 0 in
      let m : length (take k numbers) ≡ k = length-take-le k numbers (omega arith) in
      ap (λ (xs : List ℕ). rule_from 1 xs x) (split_at numbers k 0 n)
      ∙ rule_at_lem (take k numbers) (drop (suc k) numbers) 1 x (unused [] numbers all_unused k n)
      ∙ omega arith

-- ---- a list by which bytes are rewritten

-- a member stands at some place
member_at : (x : ℕ) (xs : List ℕ) → T (member x xs) → (k : ℕ) × (k < length xs) × (x ≡ get_or xs k 0)
unfolding member
member_at x [] m = absurd m
member_at x (y ∷ ys) m =
    elim (member_cases x y ys m) [
      | inl e ↦ (0, omega arith, e)
      | inr k ↦ (let w = member_at x ys k in (suc w.0, omega (arith, w.1), w.2))
    ]

-- numbers from 29 on are no rules'
past_index : {A : Type 0} (xs : List A) (k : ℕ) → length xs ≤ k → get_elem? xs k ≡ none
past_index [] k l = refl
past_index (x ∷ xs) zero l = absurd (not-suc-le-zero l)
past_index (x ∷ xs) (suc k) l = past_index xs k (le_of_suc-le-suc l)

pub rule_count : (f : File) → length (all_rules f) ≡ 28
unfolding all_rules statements rules
rule_count f = refl

pub rule_none : (f : File) → rule_at f 0 ≡ none
unfolding rule_at
rule_none f = refl

pub rule_past : (f : File) (n : ℕ) → 28 ≤ n → rule_at f (suc n) ≡ none
unfolding rule_at
rule_past f n l = past_index (all_rules f) n (rw (rule_count f) l)

module _ (numbers : List ℕ) (to from : ℕ → ℕ) (h : check_numbers numbers ≡ found tt) (r : Renumbering numbers to from) (f : File) where
  -- no other byte than those of rules becomes a rule's
  other : (x : ℕ) → ((k : ℕ) → k < 28 → x ≡ suc k → ⊥) → rule_meant numbers (to x) ≡ 0
  unfolding rule_meant
  other x n =
      lacked numbers 1 (to x) (not_of (member (to x) numbers) (λ m.
      let w = member_at (to x) numbers m in
      let l : w.0 < 28 = (let e = twenty_eight numbers h in let i = w.1 in omega arith) in
      n w.0 l (sym (r.from_to x) ∙ ap from (w.2 ∙ sym (r.listed w.0 l)) ∙ r.from_to (suc w.0))))

  -- a rewritten byte stands for the rule that the byte was the number of
  pub meant_back : (x : ℕ) → rule_at f (rule_meant numbers (to x)) ≡ rule_at f x
  meant_back zero = ap (rule_at f) (other 0 (λ k l e. absurd (omega arith)))
  meant_back (suc n) =
      elim (dec_lt n 28) [
        | yes l ↦ ap (λ (y : ℕ). rule_at f (rule_meant numbers y)) (r.listed n l) ∙ ap (rule_at f) (meant numbers h n l)
        | no m ↦ ap (rule_at f) (other (suc n) (λ k l e. absurd (omega arith))) ∙ rule_none f ∙ sym (rule_past f n (omega arith))
      ]

-- The check of a step by its parts: the rule with a number, reply 8, and reply 9 of a derivation.
-- Assumes nothing.
use mathlib.Core.Path.{◌≡◌, refl, sym, ap, ◌∙◌, subst}
use Prim.Native.Nat.{ℕ, zero, suc, ◌-◌, ◌≤◌, ◌<◌}
use native.Mathlib.Nat.{not-suc-le-zero, le_of_suc-le-suc}
use native.Mathlib.Omega.{arith}
use mathlib.Core.Bool.{Bool, true, false, ◌&&◌}
use mathlib.Core.Option.{Option, none, some}
use mathlib.Core.List.{List, [], ◌∷◌, map}
use lib.Dec.{T, ltb, eqb, eqb→eq}
use lib.ListN.{length, get_or, get_elem?, take, drop}
use borrow.Author.Tests.{ltb-true, ltb-false}
use Rattle.task.specs.Reach.{every}
use Rattle.task.proofs.Tests.{is_true, holds}
use Rattle.meaning.specs.Result.{Result, refuse, found, ◌>>=◌, need, known}
use Rattle.meaning.specs.File.{Step, File}
use Rattle.meaning.specs.Statements.{statements}
use Rattle.meaning.specs.Rules.{Rule, ◌⊢◌, rules, pattern_kind, dead, O}
use Rattle.meaning.specs.Match.{Letters, ◌then◌, no_letters, match_step, match_premises}
use Rattle.meaning.specs.Step.{Check, derivation, judgement_kind, premise_count, all_rules, rule_at, entries_fit, well_formed, check_by}
use Rattle.meaning.specs.Step.{check_step}
use Rattle.meaning.proofs.Numbering.{rule_count, rule_past}
use Rattle.numbers.specs.Numbers.{rule_table, premises_of, judgement_kind_of}
use Rattle.numbers.proofs.Table.{kind_bound}
use Rattle.rules.specs.Derives.{is_some, derives, rule_numbered}
use Rattle.formed.specs.Formed.{formed_under, formed}

-- ---- the rule with a number

-- what stands at an index of a list, and what a function makes of it
at_index : {A B : Type 0} (g : A → B) (xs : List A) (k : ℕ) (d : B) → k < length xs
    → (x : A) × (get_elem? xs k ≡ some x) × (g x ≡ get_or (map g xs) k d)
at_index g [] k d l = absurd (not-suc-le-zero l)
at_index g (x ∷ xs) zero d l = (x, refl, refl)
at_index g (x ∷ xs) (suc k) d l = at_index g xs k d (le_of_suc-le-suc l)

-- what a rule carries
abbrev carried : Check → ℕ × ℕ
carried c = (premise_count c, judgement_kind c)

-- rule n is known, with its premise count and its judgement kind
pub record Numbered (f : File) (n : ℕ) : Type 0 where
  pub rule : Check
  pub numbered : rule_at f n ≡ some rule
  pub premises : premise_count rule ≡ premises_of n
  pub judgement : judgement_kind rule ≡ judgement_kind_of n

-- the table of numbers is that of the rules: one computed test over all of them
table_right : (f : File) → rule_table ≡ (0, 0) ∷ map carried (all_rules f)
unfolding rule_table all_rules statements rules pattern_kind premise_count judgement_kind
table_right f = refl

numbered : (f : File) (n : ℕ) → n < 28 → Numbered f (suc n)
unfolding rule_at premises_of judgement_kind_of
numbered f n l =
    let x = at_index carried (all_rules f) n (0, 0) (rw (rule_count f) l) in
    let e : carried x.0 ≡ get_or rule_table (suc n) (0, 0) =
    x.2 ∙ ap (λ (t : List (ℕ × ℕ)). get_or t (suc n) (0, 0)) (sym (table_right f)) in
    record { rule = x.0; numbered = x.1; premises = ap (λ (r : ℕ × ℕ). r.0) e; judgement = ap (λ (r : ℕ × ℕ). r.1) e }

-- the numbers 1 to 28 are rules' numbers
pub rule_known : (f : File) (n : ℕ) → 1 ≤ n → n ≤ 28 → Numbered f n
rule_known f zero lo hi = absurd (omega arith)
rule_known f (suc n) lo hi = numbered f n (omega arith)

-- rules 6 to 28 are those of the list, in its order
mapped : {A B : Type 0} (g : A → B) (xs : List A) (k : ℕ) (d : A) → k < length xs → get_elem? (map g xs) k ≡ some (g (get_or xs k d))
mapped g [] k d l = absurd (not-suc-le-zero l)
mapped g (x ∷ xs) zero d l = refl
mapped g (x ∷ xs) (suc k) d l = mapped g xs k d (le_of_suc-le-suc l)

pub rule_derivation : (f : File) (n : ℕ) → 5 < n → n ≤ 28 → rule_at f n ≡ some (derivation (rule_numbered n))
unfolding rule_at all_rules statements rule_numbered rules
rule_derivation f n lo hi =
    let m : n ≡ suc (suc (suc (suc (suc (suc (n - 6)))))) = omega arith in
    subst (λ (k : ℕ). rule_at f k ≡ some (derivation (rule_numbered n))) (sym m)
    (mapped derivation rules (n - 6) ([] ⊢ dead O) (omega arith))

-- the table's premise count of a derivation
pub derivation_premises : (f : File) (n : ℕ) → 5 < n → n ≤ 28 → premises_of n ≡ premise_count (derivation (rule_numbered n))
derivation_premises f n lo hi =
    let k = rule_known f n (omega arith) hi in
    let e : some k.rule ≡ some (derivation (rule_numbered n)) = sym k.numbered ∙ rule_derivation f n lo hi in
    let q : k.rule ≡ derivation (rule_numbered n) = cc in
    sym k.premises ∙ ap premise_count q

-- ---- replies 8 and 9

first_of : (a b c d : Bool) → T (a && b && c && d) → T a
first_of true b c d h = tt
first_of false b c d h = h

known_need : {X : Type 0} (o : Option X) (r p : ℕ) → (known o r p >>= (λ x. found tt)) ≡ need (is_some o) r p
unfolding known ◌>>=◌ need is_some
known_need none r p = refl
known_need (some x) r p = refl

module _ (f : File) (i : ℕ) (s : Step) where
  pub step_unformed : formed f i s ≡ false → check_step f i s ≡ refuse 8 i
  unfolding formed formed_under check_step known ◌>>=◌ need
  step_unformed h = go (rule_at f s.rule) h
    where
      go : (o : Option Check) → formed_under f i s o ≡ false
          → (known o 8 i >>= (λ r. need (well_formed f i s (judgement_kind r) (premise_count r)) 8 i >>= (λ _. check_by f i s r)))
          ≡ refuse 8 i
      go none q = refl
      go (some r) q = rw q

  pub step_formed : (r : Check) → formed f i s ≡ true → rule_at f s.rule ≡ some r → check_step f i s ≡ check_by f i s r
  unfolding formed formed_under check_step known ◌>>=◌ need
  step_formed r h q = let w : well_formed f i s (judgement_kind r) (premise_count r) ≡ true = rw (q, formed_under) at h in rw (q, w)

  -- a derivation's check is one test
  pub check_derivation : (r : Rule) → check_by f i s (derivation r) ≡ need (derives f r s) 9 i
  unfolding check_by derives ◌>>=◌ known is_some ◌then◌ need
  check_derivation (ps ⊢ c) = go (match_step f c s no_letters)
    where
      go : (o : Option Letters)
          → ◌≡◌ {A = Result (Unit {0})} (known o 9 i >>= (λ σ. known (match_premises f ps s.premises σ) 9 i >>= (λ _. found tt)))
          (need (is_some (o then match_premises f ps s.premises)) 9 i)
      go none = refl
      go (some σ) = known_need (match_premises f ps s.premises σ) 9 i

  -- a step that passed 8 is by a known rule, and of its judgement kind
  pub rule_in_table : T (formed f i s) → s.rule ≤ 28
  unfolding formed formed_under
  rule_in_table h = go (ltb 28 s.rule) refl
    where
      go : (b : Bool) → ltb 28 s.rule ≡ b → s.rule ≤ 28
      go false e = ltb-false 28 s.rule e
      go true e =
          let l : 28 < s.rule = ltb-true 28 s.rule e in
          let z : s.rule ≡ suc (s.rule - 1) = omega arith in
          absurd (subst (λ (o : Option Check). T (formed_under f i s o)) (ap (rule_at f) z ∙ rule_past f (s.rule - 1) (omega arith)) h)

  -- a known rule is not 0
  pub rule_some : T (formed f i s) → 1 ≤ s.rule
  unfolding formed formed_under rule_at
  rule_some = go s.rule
    where
      go : (n : ℕ) → T (formed_under f i s (rule_at f n)) → 1 ≤ n
      go zero t = absurd t
      go (suc n) t = omega arith

  kind_fits : (j k : ℕ) → T (well_formed f i s j k) → s.kind ≡ j
  unfolding well_formed
  kind_fits j k w =
      eqb→eq s.kind j
      (first_of (eqb s.kind j) (entries_fit f j s.left s.right) (every (λ p. ltb p i) (take k s.premises))
      (every (λ p. eqb p 0) (drop k s.premises)) w)

  -- a step that passed is of one of the four judgement kinds
  pub passed_kind : check_step f i s ≡ found tt → s.kind < 4
  unfolding formed formed_under
  passed_kind p = go (formed f i s) refl
    where
      go : (b : Bool) → formed f i s ≡ b → s.kind < 4
      go false e = let z : refuse 8 i ≡ found tt = sym (step_unformed e) ∙ p in let y : ◌≡◌ {A = ℕ} 0 1 = cc in absurd (omega arith)
      go true e =
          let t = holds e in
          let n = rule_known f s.rule (rule_some t) (rule_in_table t) in
          let k : s.kind ≡ judgement_kind n.rule =
          kind_fits _ _ (subst (λ (o : Option Check). T (formed_under f i s o)) n.numbered t) in
          let l = kind_bound s.rule in
          let j = n.judgement in
          omega arith

  pub kind_concluded : T (formed f i s) → 5 < s.rule → s.kind ≡ judgement_kind (derivation (rule_numbered s.rule))
  unfolding formed formed_under
  kind_concluded h l =
      kind_fits _ _ (subst (λ (o : Option Check). T (formed_under f i s o)) (rule_derivation f s.rule l (rule_in_table h)) h)

  -- a derivation that passed 8 is checked by one test
  pub step_derived : T (formed f i s) → 5 < s.rule → check_step f i s ≡ need (derives f (rule_numbered s.rule) s) 9 i
  step_derived h l =
      step_formed (derivation (rule_numbered s.rule)) (is_true (formed f i s) h) (rule_derivation f s.rule l (rule_in_table h))
      ∙ check_derivation (rule_numbered s.rule)

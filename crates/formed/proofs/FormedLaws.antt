-- The tests of reply 8 as the code makes them, of a step's value.
-- Assumes nothing.
use mathlib.Core.Path.{◌≡◌, refl, sym, ap, ◌∙◌, subst}
use Prim.Native.Nat.{ℕ, zero, suc, ◌+◌, ◌-◌, ◌*◌, ◌%◌, ◌^◌, ◌≤◌, ◌<◌}
use native.Mathlib.Nat.{pow-le-pow_right}
use native.Mathlib.Omega.{arith}
use mathlib.Core.Bool.{Bool, true, false, ◌&&◌, ◌||◌}
use mathlib.Core.List.{List, [], ◌∷◌}
use lib.Dec.{T, ltb, eqb, eqb→eq, ltb→lt, lt→ltb}
use lib.ListN.{length, take, drop}
use borrow.Author.Tests.{ne_eqb}
use Rattle.task.specs.Reach.{every}
use Rattle.task.proofs.MaskLaws.{shifted_one}
use Rattle.task.proofs.Tests.{holds, and_left, and_right, both_ways, same, is_true}
use Rattle.certificate.specs.declared.Places.{Places}
use Rattle.certificate.specs.declared.Step as code
use Rattle.certificate.specs.declared.Judgement.TheVariants.{Dead, Within, ActionsWithin}
use Rattle.meaning.specs.File.{Step, File, step_at}
use Rattle.certificate.specs.Views.{premises_in, premise_list, clean_of, judgement_of, step_of}
use Rattle.certificate.specs.Known.{decoded}
use Rattle.meaning.proofs.Results.{and_out, and_in}
use Rattle.meaning.proofs.Order.{all_at}
use Rattle.certificate.proofs.KnownLaws.{read_file_lem, placed_steps}
use Rattle.meaning.specs.Step.{entries_fit, well_formed}
use Rattle.meaning.specs.Numbering.{with_rule}
use Rattle.numbers.specs.Numbers.{premises_of, judgement_kind_of}
use Rattle.numbers.proofs.Table.{kind_bound}
use Rattle.rules.specs.Derives.{kind_said}
use Rattle.formed.specs.Formed.{entries_in, formed_under, formed, IsStep}
use Rattle.rules.proofs.RuleLaws.{and_assoc, and_true, and_false, and_comm}
use Rattle.meaning.proofs.Numbering.{rule_none, rule_past}
use Rattle.formed.proofs.StepLaws.{rule_known}

-- the three premises of a step
abbrev pub listing : List ℕ → List ℕ
listing ps = premise_list (premises_in ps)

pub listed : (ps : List ℕ) → length ps ≡ 3 → ps ≡ listing ps
listed [] e = absurd (omega arith)
listed (a ∷ []) e = absurd (omega arith)
listed (a ∷ b ∷ []) e = absurd (omega arith)
listed (a ∷ b ∷ c ∷ []) e = refl
listed (a ∷ b ∷ c ∷ d ∷ ds) e = absurd (omega arith)

-- what step k of a file has
module _ (bytes : List ℕ) (at : Places) (k : ℕ) (s : code.Step) (h : IsStep bytes at k s) where
  three_read : length (step_at (decoded bytes) k).premises ≡ 3
  unfolding step_at
  three_read =
      let l = h.below in
      let e = placed_steps bytes at h.placed in
      all_at (λ _ (x : Step). length x.premises ≡ 3) (record { rule = 0; kind = 0; left = 0; right = 0; premises = [] }) 0
      (decoded bytes).steps (read_file_lem bytes h.placed.read).three k (omega arith)

  pub three_premises : (step_at (decoded bytes) k).premises ≡ listing (step_at (decoded bytes) k).premises
  three_premises = listed _ three_read

-- 1, shifted by less than a word's length
pub shifted : (n : ℕ) → n < 4 → 1 * 2 ^ (48 - 16 * n) % 18446744073709551616 ≡ 2 ^ (48 - 16 * n)
shifted n l = shifted_one (48 - 16 * n) (omega arith)

pub not_none : (n : ℕ) → n < 4 → 0 < 1 * 2 ^ (48 - 16 * n) % 18446744073709551616
not_none n l = rw (shifted n l) (pow-le-pow_right {n = 2} (omega arith) {i = 0} {j = 48 - 16 * n} (omega arith))

-- two tests that pass or fail together
same_test : (x y : ℕ) → (x ≡ 0 → y ≡ 0) → (y ≡ 0 → x ≡ 0) → eqb x 0 ≡ eqb y 0
same_test x y f g = both_ways (eqb x 0) (eqb y 0) (λ t. same (f (eqb→eq x 0 t))) (λ t. same (g (eqb→eq y 0 t)))

both_zero : (x y : ℕ) → eqb (x * 65536 + y) 0 ≡ (eqb x 0 && eqb y 0)
both_zero x y =
    both_ways (eqb (x * 65536 + y) 0) (eqb x 0 && eqb y 0)
    (λ t.
    let e = eqb→eq (x * 65536 + y) 0 t in
    let f : x ≡ 0 = omega arith in
    let g : y ≡ 0 = omega arith in
    and_in (eqb x 0) (eqb y 0) (same f) (same g))
    (λ t.
    let h = and_out (eqb x 0) (eqb y 0) t in
    let f = eqb→eq x 0 h.0 in
    let g = eqb→eq y 0 h.1 in
    let e : x * 65536 + y ≡ 0 = omega arith in
    same e)

-- a test that follows from two others
implied_test : (t u z : Bool) → (T t → T z → T u) → (z && (t && u)) ≡ (t && z)
implied_test true u true h = is_true u (h tt tt)
implied_test true u false h = refl
implied_test false u z h = and_false z

-- premises: three places as one number, of which the end is unused. A place that is zero is an earlier step where another one is
module _ (a b c i : ℕ) (la : a < 65536) (lb : b < 65536) (lc : c < 65536) where
  abbrev places : ℕ
  places = a * 4294967296 + b * 65536 + c

  abbrev two : Bool
  two = ltb a i && ltb b i

  -- what is tested where n premises are used
  abbrev Tested : ℕ → Bool
  Tested n = eqb (places % 2 ^ (48 - 16 * n)) 0 && (eqb n 0 || (two && ltb c i))

  abbrev Fit : ℕ → Type 0
  Fit n = Tested n ≡ (every (λ p. ltb p i) (take n (a ∷ b ∷ c ∷ [])) && every (λ p. eqb p 0) (drop n (a ∷ b ∷ c ∷ [])))

  zero_earlier : (p : ℕ) → T (ltb a i) → T (eqb p 0) → T (ltb p i)
  zero_earlier p t z = let l = ltb→lt a i t in let e = eqb→eq p 0 z in lt→ltb p i (omega arith)

  last_earlier : T two → T (eqb c 0) → T (ltb c i)
  last_earlier t = zero_earlier c (and_out (ltb a i) (ltb b i) t).0

  fit_none : Fit 0
  unfolding every
  fit_none =
      let e = same_test (places % 281474976710656) ((a * 65536 + b) * 65536 + c) (λ e. omega arith) (λ e. omega arith) in
      rw (e, both_zero (a * 65536 + b) c, both_zero a b) (simp (and_assoc, and_true))

  fit_one : Fit 1
  unfolding every
  fit_one =
      let y = eqb b 0 in
      let z = eqb c 0 in
      let e = same_test (places % 4294967296) (b * 65536 + c) (λ e. omega arith) (λ e. omega arith) in
      ap (λ (t : Bool). t && (two && ltb c i)) (e ∙ both_zero b c) ∙ and_assoc y z (two && ltb c i)
      ∙ ap (λ (t : Bool). y && t) (implied_test two (ltb c i) z last_earlier) ∙ sym (and_assoc y two z)
      ∙ ap (λ (t : Bool). t && z) (implied_test (ltb a i) (ltb b i) y (zero_earlier b)) ∙ simp (and_assoc, and_true)

  fit_two : Fit 2
  unfolding every
  fit_two =
      let e = same_test (places % 65536) c (λ e. omega arith) (λ e. omega arith) in
      ap (λ (t : Bool). t && (two && ltb c i)) e ∙ implied_test two (ltb c i) (eqb c 0) last_earlier ∙ simp (and_assoc, and_true)

  fit_three : Fit 3
  unfolding every
  fit_three =
      let e : places % 1 ≡ 0 = omega arith in
      rw (is_true (eqb (places % 1) 0) (same e)) (simp (and_assoc, and_true))

  pub places_fit : (n : ℕ) → n < 4 → Fit n
  places_fit zero l = fit_none
  places_fit (suc zero) l = fit_one
  places_fit (suc (suc zero)) l = fit_two
  places_fit (suc (suc (suc zero))) l = fit_three
  places_fit (suc (suc (suc (suc n)))) l = absurd (omega arith)

-- a kind that is asked for, between two more tests
asked : (k j : ℕ) (c w r : Bool) → (k ≡ j → (c && w) ≡ r) → (c && eqb k j && w) ≡ (eqb k j && r)
asked k j c w r h = go (eqb k j) refl
  where
    go : (b : Bool) → eqb k j ≡ b → (c && b && w) ≡ (b && r)
    go true e = rw (and_true c) (h (eqb→eq k j (holds e)))
    go false e = rw (and_false c) refl

-- what a step says, and whether its unused places are zero, against judgement kind j
said_fit : (f : File) (k a b j : ℕ) → j < 4
    → (clean_of k a b && eqb (kind_said (judgement_of k a b)) j && entries_in f (judgement_of k a b)) ≡ (eqb k j && entries_fit f j a b)
unfolding clean_of judgement_of kind_said entries_in entries_fit
said_fit f zero a b j l =
    asked 0 j (clean_of 0 a b) (entries_in f (Dead a)) (entries_fit f j a b)
    (λ e. rw (← e) (and_comm (eqb b 0) (ltb a (length f.state_sets))))
said_fit f (suc zero) a b j l = asked 1 j true (entries_in f (Within a b)) (entries_fit f j a b) (λ e. rw (← e) refl)
said_fit f (suc (suc zero)) a b j l = asked 2 j true (entries_in f (ActionsWithin a b)) (entries_fit f j a b) (λ e. rw (← e) refl)
said_fit f (suc (suc (suc zero))) a b j l =
    asked 3 j (clean_of 3 a b) true (entries_fit f j a b) (λ e. rw (← e) (and_true (eqb a 0 && eqb b 0)))
said_fit f (suc (suc (suc (suc k)))) a b j l = rw (ne_eqb (suc (suc (suc (suc k)))) j (λ e. omega arith)) refl

-- step i by the rule that is handed in
module _ (f : File) (i rule : ℕ) (x : Step) where
  -- no rule's number
  pub formed_none : rule < 1 → false ≡ formed f i (with_rule rule x)
  unfolding formed formed_under
  formed_none l = let z : rule ≡ 0 = omega arith in rw (z, rule_none f)

  pub formed_past : 28 < rule → false ≡ formed f i (with_rule rule x)
  unfolding formed formed_under
  formed_past l = let z : rule ≡ suc (rule - 1) = omega arith in rw (z, rule_past f (rule - 1) (omega arith))

  -- a known rule's number
  formed_by_table : 1 ≤ rule → rule ≤ 28 → formed f i (with_rule rule x) ≡ well_formed f i x (judgement_kind_of rule) (premises_of rule)
  unfolding formed formed_under well_formed
  formed_by_table lo hi = let n = rule_known f rule lo hi in rw (n.numbered, n.judgement, n.premises)

  -- the tests, by the table of rules
  pub formed_tests : {s : code.Step} {m j c : ℕ} {w p : Bool} → s ≡ step_of x → 1 ≤ rule → rule ≤ 28
      → m ≡ kind_said s.judgement → j ≡ judgement_kind_of rule → c ≡ premises_of rule → w ≡ entries_in f s.judgement
      → p ≡ (every (λ q. ltb q i) (take c (premise_list s.premises)) && every (λ q. eqb q 0) (drop c (premise_list s.premises)))
      → x.premises ≡ listing x.premises → (((s.clean && eqb m j) && w) && p) ≡ formed f i (with_rule rule x)
  unfolding well_formed step_of
  formed_tests e lo hi hm hj hc hw hp l =
      rw (
        hw,
        hp,
        hm,
        hj,
        hc,
        formed_by_table lo hi,
        e,
        ← l,
        said_fit f x.kind x.left x.right (judgement_kind_of rule) (kind_bound rule),
      )
      (simp and_assoc)

  -- a step that passed 8 says what its rule gives, of entries in the file
  pub formed_says : {s : code.Step} → s ≡ step_of x → T (formed f i (with_rule rule x)) → 1 ≤ rule → rule ≤ 28
      → (kind_said s.judgement ≡ judgement_kind_of rule) × T (entries_in f s.judgement)
  unfolding well_formed step_of
  formed_says e t lo hi =
      let j = judgement_kind_of rule in
      let fit = eqb x.kind j && entries_fit f j x.left x.right in
      let earlier = every (λ p. ltb p i) (take (premises_of rule) x.premises) in
      let zeros = every (λ p. eqb p 0) (drop (premises_of rule) x.premises) in
      let clean = clean_of x.kind x.left x.right in
      let said = judgement_of x.kind x.left x.right in
      let kind = eqb (kind_said said) j in
      let w : T (fit && earlier && zeros) = subst T (formed_by_table lo hi) t in
      let u : T fit = and_left fit earlier (and_left (fit && earlier) zeros w) in
      let v : T (clean && kind && entries_in f said) =
      subst T (sym (said_fit f x.kind x.left x.right j (kind_bound rule))) u in
      rw e (
        eqb→eq (kind_said said) j (and_right clean kind (and_left (clean && kind) (entries_in f said) v)),
        and_right (clean && kind) (entries_in f said) v,
      )

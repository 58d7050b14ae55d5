-- What a step's judgement says of the task and the file's sets; and that a step which passes says what is true.
-- Assumes nothing.
use mathlib.Core.Path.{◌≡◌, refl, sym, subst}
use mathlib.Core.Logic.Iff
use mathlib.Core.Logic.{◌↔◌, inl, inr}
use mathlib.Core.Option.{some}
use Prim.Native.Nat.{ℕ, zero, suc, ◌<◌}
use mathlib.Core.Bool.{Bool, ◌&&◌}
use mathlib.Core.List.{List, [], ◌∷◌, ◌++◌, map}
use lib.ListN.{length, get_elem?, take, drop}
use lib.Dec.{T, eqb, ltb, ltb→lt, eqb→eq}
use Rattle.task.specs.Reach.{every}
use Rattle.task.specs.System.{DeadIn, UnsolvableIn}
use Rattle.task.proofs.Tests.{and_left, and_right}
use Rattle.task.proofs.Moves.{Bounded, system}
use native.Mathlib.Omega.{arith}
use Rattle.meaning.specs.Result.{refuse, found, need, known}
use Rattle.meaning.specs.File.{Step, File, step_at}
use Rattle.meaning.proofs.Order.{Ordered}
use Rattle.meaning.proofs.Results.{no_found, bind_out, need_out, known_out, bind_fails, need_fails, known_fails}
use Rattle.meaning.specs.Judged.{Judged}
use Rattle.meaning.specs.Sets.{states_within}
use Rattle.meaning.specs.Statements.{Statement, statements}
use Rattle.meaning.proofs.Sets.{states_of, actions_of, within, within_actions}
use Rattle.meaning.specs.Rules.{Pattern, dead, ◌⊑◌, ◌⊑ᴬ◌, unsolvable, ◌⊢◌, rules, pattern_kind}
use Rattle.meaning.specs.Truth.{Says, SaysAll, SoundRule}
use Rattle.meaning.specs.Match.{Letters, no_letters, match_entries, match_step, match_premises}
use Rattle.meaning.specs.Step.{Check, statement, derivation, judgement_kind, premise_count, all_rules, rule_at, entries_fit, well_formed}
use Rattle.meaning.specs.Step.{check_by, check_step}
use Rattle.meaning.proofs.RulesSound.{rules_sound, sound_at}
use Rattle.meaning.proofs.Letters.{no_some, Told, told_map, told_same, told_given, told_then}
use Rattle.meaning.proofs.Same.{same_within, same_dead}
use Rattle.meaning.proofs.Matching.{state_letters, action_letters, matchedᴬ, matched}

-- ---- what a judgement says, by its kind

abbrev pub HoldsAs : File → ℕ → ℕ → ℕ → Type 0
HoldsAs f zero a b = DeadIn (system f.task) (states_of f a)
HoldsAs f (suc zero) a b = (s : (system f.task).State) → states_of f a s → states_of f b s
HoldsAs f (suc (suc zero)) a b = (i : (system f.task).Action) → actions_of f a i → actions_of f b i
HoldsAs f (suc (suc (suc j))) a b = UnsolvableIn (system f.task)

abbrev pub Holds : File → Step → Type 0
Holds f s = HoldsAs f s.kind s.left s.right

-- of the steps with these numbers
abbrev AllHold : File → List ℕ → Type 0
AllHold f [] = Unit {0}
AllHold f (k ∷ ks) = Holds f (step_at f k) × AllHold f ks

-- a pattern says the same, where the letters stand for their entries' sets
abbrev Agrees : File → Pattern → Type 0 → Letters → Type 0
Agrees f p J υ = Says (system f.task) (state_letters f υ) (action_letters f υ) p ↔ J

-- ---- tests and lists

first_third : (a b c d : Bool) → T (a && b && c && d) → T a × T c
first_third a b c d t =
    let u = and_left (a && b && c) d t in
    (and_left a b (and_left (a && b) c u), and_right (a && b) c u)

mapped_at : {A B : Type 0} (g : A → B) (l : List A) (k : ℕ) (c : B) → get_elem? (map g l) k ≡ some c
    → (r : A) × (get_elem? l k ≡ some r) × (g r ≡ c)
mapped_at g [] k c e = no_some c e
mapped_at g (r ∷ l) zero c e = (r, refl, cc)
mapped_at g (r ∷ l) (suc k) c e = mapped_at g l k c e

-- ---- a match: the pattern says what the judgement says

module _ (f : File) (o : Ordered f) (b : Bounded f.task) where
  matched_entries : (p : Pattern) (x y : ℕ) (σ τ : Letters) → match_entries f p x y σ ≡ some τ
      → Told (Agrees f p (HoldsAs f (pattern_kind p) x y)) σ τ
  unfolding match_entries pattern_kind
  matched_entries (dead p) x y σ τ h = told_map (matched f o b p x σ τ h) (λ υ w. same_dead (system f.task) w)
  matched_entries (p ⊑ q) x y σ τ h =
      told_map (told_then _ _ σ τ (matched f o b p x σ) (λ σ' k. matched f o b q y σ' τ k) h) (λ υ w. same_within w.0 w.1)
  matched_entries (p ⊑ᴬ q) x y σ τ h =
      told_map (told_then _ _ σ τ (matchedᴬ f o b p x σ) (λ σ' k. matchedᴬ f o b q y σ' τ k) h) (λ υ w. same_within w.0 w.1)
  matched_entries unsolvable x y σ τ h = let q : σ ≡ τ = cc in told_same q (λ υ. Iff.rfl)

  matched_step : (p : Pattern) (s : Step) (σ τ : Letters) → match_step f p s σ ≡ some τ → Told (Agrees f p (Holds f s)) σ τ
  unfolding match_step
  matched_step p s σ τ h =
      told_map (told_then _ _ σ τ (λ σ' k. told_given _ σ σ' k) (λ σ' k. matched_entries p s.left s.right σ' τ k) h)
      (λ υ w. subst (λ (j : ℕ). Agrees f p (HoldsAs f j s.left s.right) υ) (sym (eqb→eq s.kind (pattern_kind p) w.0)) w.1)

  matched_premises : (ps : List Pattern) (ks : List ℕ) (σ τ : Letters) → match_premises f ps ks σ ≡ some τ
      → Told (λ υ. AllHold f (take (length ps) ks) → SaysAll (system f.task) (state_letters f υ) (action_letters f υ) ps) σ τ
  unfolding match_premises
  matched_premises [] ks σ τ h = let q : σ ≡ τ = cc in told_same q (λ υ a. tt)
  matched_premises (p ∷ ps) [] σ τ h = no_some τ h
  matched_premises (p ∷ ps) (k ∷ ks) σ τ h =
      told_map (told_then _ _ σ τ (matched_step p (step_at f k) σ) (λ σ' m. matched_premises ps ks σ' τ m) h)
      (λ υ w a. (w.0.1 a.0, w.1 a.1))

-- ---- each rule's check is sound, and a basic statement's passes what is true

module _ (f : File) where
  abbrev SoundCheck : Check → Type 0
  SoundCheck (statement c) = (x y : ℕ) → (T (c.holds x y) → HoldsAs f c.kind x y) × (Judged f c.kind x y → T (c.holds x y))
  SoundCheck (derivation r) = (υ : Letters) → SoundRule (system f.task) (state_letters f υ) (action_letters f υ) r

  abbrev SoundStatements : List Statement → Type 0
  SoundStatements [] = Unit {0}
  SoundStatements (c ∷ cs) = SoundCheck (statement c) × SoundStatements cs

  statements_sound : SoundStatements (statements f)
  unfolding statements
  statements_sound = (states, (states, (states, (states, ((λ x y. ((within_actions f x y).0, λ h. h)), tt)))))
    where
      states : (x y : ℕ) → (T (states_within f x y) → HoldsAs f 1 x y) × (T (states_within f x y) → T (states_within f x y))
      states x y = ((within f x y).0, λ h. h)

  check_at : (cs : List Statement) → SoundStatements cs → (k : ℕ) (c : Check)
      → get_elem? (map statement cs ++ map derivation rules) k ≡ some c → SoundCheck c
  check_at [] a k c e =
      let m = mapped_at derivation rules k c e in
      subst SoundCheck m.2 (λ υ. sound_at (system f.task) (state_letters f υ) (action_letters f υ) rules (rules_sound _ _ _) k m.0
      m.1)
  check_at (c' ∷ cs) a zero c e = let q : statement c' ≡ c = cc in subst SoundCheck q a.0
  check_at (c' ∷ cs) a (suc k) c e = check_at cs a.1 k c e

  rule_sound : (n : ℕ) (c : Check) → rule_at f n ≡ some c → SoundCheck c
  unfolding rule_at all_rules
  rule_sound zero c e = no_some c e
  rule_sound (suc k) c e = check_at (statements f) statements_sound k c e

-- ---- one step, where the earlier ones hold

module _ (f : File) (o : Ordered f) (b : Bounded f.task) (i : ℕ) (earlier : (k : ℕ) → k < i → Holds f (step_at f k)) where
  all_hold : (ks : List ℕ) → T (every (λ p. ltb p i) ks) → AllHold f ks
  unfolding every
  all_hold [] t = tt
  all_hold (k ∷ ks) t = (
    earlier k (ltb→lt k i (and_left (ltb k i) (every (λ p. ltb p i) ks) t)),
    all_hold ks
        (and_right (ltb k i) (every (λ p. ltb p i) ks) t),
  )

  -- a well-formed step has the rule's judgement kind, and its premises hold
  well_formed_lem : (s : Step) (j k : ℕ) → T (well_formed f i s j k) → (s.kind ≡ j) × AllHold f (take k s.premises)
  unfolding well_formed
  well_formed_lem s j k w =
      let t = first_third (eqb s.kind j) (entries_fit f j s.left s.right) (every (λ p. ltb p i) (take k s.premises))
      (every (λ p. eqb p 0) (drop k s.premises)) w in
      (eqb→eq s.kind j t.0, all_hold (take k s.premises) t.1)

  checked : (s : Step) (c : Check) → SoundCheck f c → T (well_formed f i s (judgement_kind c) (premise_count c)) → check_by f i s c ≡ found tt
      → Holds f s
  unfolding check_by judgement_kind premise_count
  checked s (statement c) h w e =
      let d = bind_out (need (c.shape s.left s.right) 10 i) _ tt e in
      subst (λ (j : ℕ). HoldsAs f j s.left s.right) (sym (well_formed_lem s c.kind 0 w).0)
      ((h s.left s.right).0 (need_out _ 11 i tt d.2))
  checked s (derivation (ps ⊢ c)) h w e =
      let d = bind_out (known (match_step f c s no_letters) 9 i) _ tt e in
      let g = bind_out (known (match_premises f ps s.premises d.0) 9 i) _ tt d.2 in
      let m = matched_step f o b c s no_letters d.0 (known_out (match_step f c s no_letters) 9 i d.0 d.1) in
      let n = matched_premises f o b ps s.premises d.0 g.0
      (known_out (match_premises f ps s.premises d.0) 9 i g.0 g.1) in
      (m.shows g.0 n.keeps).0 (h g.0 (n.shows g.0 (λ x y p. p) (well_formed_lem s (pattern_kind c) (length ps) w).1))

-- A step that passes says what is true, where each step before it does.
pub step_holds : (f : File) → Ordered f → Bounded f.task → (i : ℕ) (s : Step) → check_step f i s ≡ found tt
    → ((k : ℕ) → k < i → Holds f (step_at f k)) → Holds f s
unfolding check_step
step_holds f o b i s e earlier =
    let r = bind_out (known (rule_at f s.rule) 8 i) _ tt e in
    let c : Check = r.0 in
    let w = bind_out (need (well_formed f i s (judgement_kind c) (premise_count c)) 8 i) _ tt r.2 in
    checked f o b i earlier s c (rule_sound f s.rule c (known_out (rule_at f s.rule) 8 i c r.1))
    (need_out (well_formed f i s (judgement_kind c) (premise_count c)) 8 i w.0 w.1) w.2

-- ---- a step that is refused with 11 says what is not true

module _ (f : File) (i : ℕ) (s : Step) (p : ℕ) where
  untrue_by : (c : Check) → SoundCheck f c → T (well_formed f i s (judgement_kind c) (premise_count c)) → check_by f i s c ≡ refuse 11 p
      → Judged f s.kind s.left s.right → ⊥
  unfolding check_by well_formed judgement_kind
  untrue_by (statement c) h w e j =
      let (k, _) = first_third (eqb s.kind c.kind) _ _ _ w in
      elim (bind_fails (need (c.shape s.left s.right) 10 i) _ 11 p e) [
        | inl q ↦ (let z = (need_fails _ 10 i 11 p q).1 in omega arith)
        | inr (u, _, q) ↦ (
            let z = (need_fails (c.holds s.left s.right) 11 i 11 p q).0 in
            subst T z ((h s.left s.right).1
            (subst (λ (n : ℕ). Judged f n s.left s.right) (eqb→eq s.kind c.kind k) j))
            )
      ]
  untrue_by (derivation (ps ⊢ c)) h w e j =
      elim (bind_fails (known (match_step f c s no_letters) 9 i) _ 11 p e) [
        | inl q ↦ (let z = known_fails _ 9 i 11 p q in omega arith)
        | inr (σ, _, q) ↦ elim (bind_fails (known (match_premises f ps s.premises σ) 9 i) _ 11 p q) [
          | inl m ↦ (let z = known_fails _ 9 i 11 p m in omega arith)
          | inr (_, _, m) ↦ no_found 11 p tt (sym m)
        ]
      ]

  pub untrue : check_step f i s ≡ refuse 11 p → Judged f s.kind s.left s.right → ⊥
  unfolding check_step
  untrue e j =
      elim (bind_fails (known (rule_at f s.rule) 8 i) _ 11 p e) [
        | inl q ↦ (let z = known_fails _ 8 i 11 p q in omega arith)
        | inr (c, known, q) ↦ elim (bind_fails (need (well_formed f i s (judgement_kind c) (premise_count c)) 8 i) _ 11 p q) [
          | inl m ↦ (let z = (need_fails _ 8 i 11 p m).1 in omega arith)
          | inr (u, formed, m) ↦ untrue_by c (rule_sound f s.rule c (known_out (rule_at f s.rule) 8 i c known))
              (need_out (well_formed f i s (judgement_kind c) (premise_count c)) 8 i u formed) m j
        ]
      ]

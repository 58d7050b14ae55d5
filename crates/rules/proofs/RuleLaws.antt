-- How a rule's match computes: a chain of tests, one after the other. A judgement of another kind matches nothing, also where only
-- a range of the rule's number is known.
-- Assumes nothing.
use mathlib.Core.Path.{◌≡◌, refl, sym}
use Prim.Native.Nat.{ℕ, zero, suc, ◌+◌, ◌-◌, ◌≤◌}
use native.Mathlib.Omega.{arith}
use mathlib.Core.Logic.{inl, inr}
use mathlib.Core.Bool.{Bool, true, false, ◌&&◌, ◌||◌}
use mathlib.Core.Option.{Option, none, some}
use mathlib.Core.List.{List, [], ◌∷◌}
use lib.Dec.{T, eqb, eqb→eq}
use lib.ListN.{get_or}
use Rattle.task.proofs.Tests.{both_ways, same, or_cases, each, each_at}
use Rattle.std.specs.Prelude.{Err}
use Rattle.certificate.specs.declared.StepFault.TheVariants.{NotDerived}
use Rattle.certificate.specs.declared.Judgement.{Judgement}
use Rattle.certificate.specs.declared.Judgement.TheVariants.{Dead, Within, ActionsWithin, Unsolvable}
use Rattle.meaning.specs.File.{File, action_kind, basic_kind, state_kind, first, second, first_action, second_action}
use Rattle.meaning.specs.Rules.{Rule, ◌⊢◌, Pattern, rules, pattern_kind}
use Rattle.meaning.specs.Match.{Letters, no_letters, ◌then◌, given, with_letter, stands_for}
use Rattle.meaning.specs.Match.{of_kind, of_action_kind, matchᴬ, match, match_entries, match_step}
use Rattle.patterns.specs.Tests.{of_sort, names, names_both, names_complement, names_goal, names_complement_goal, names_all}
use Rattle.rules.specs.Derives.{is_some, rule_numbered, kind_said, left_said, right_said, saying, match_said, follows, by_rule}
use Rattle.patterns.proofs.Views.{refused}

-- ---- a chain of tests

-- a test before the rest
pub some_given : {X Y : Type 0} (b : Bool) (x : X) (g : X → Option Y) → is_some (given b x then g) ≡ (b && is_some (g x))
unfolding is_some ◌then◌ given
some_given true x g = refl
some_given false x g = refl

pub then_assoc : {X Y Z : Type 0} (o : Option X) (g : X → Option Y) (h : Y → Option Z) → ((o then g) then h) ≡ (o then (λ x. g x then h))
unfolding ◌then◌
then_assoc none g h = refl
then_assoc (some x) g h = refl

pub and_assoc : (a b c : Bool) → ((a && b) && c) ≡ (a && (b && c))
and_assoc true b c = refl
and_assoc false b c = refl

pub and_true : (a : Bool) → (a && true) ≡ a
and_true true = refl
and_true false = refl

pub and_false : (a : Bool) → (a && false) ≡ false
and_false true = refl
and_false false = refl

pub and_comm : (a b : Bool) → (a && b) ≡ (b && a)
and_comm true b = sym (and_true b)
and_comm false b = sym (and_false b)

pub and_swap : (a b c : Bool) → (a && (b && c)) ≡ (b && (a && c))
and_swap true b c = refl
and_swap false b c = sym (and_false b)

pub and_reverse : (a b c : Bool) → (a && (b && c)) ≡ (c && (b && a))
and_reverse true b c = rw (and_true b) (and_comm b c)
and_reverse false b c = simp and_false

pub eqb_comm : (a b : ℕ) → eqb a b ≡ eqb b a
eqb_comm a b = both_ways (eqb a b) (eqb b a) (λ t. same (sym (eqb→eq a b t))) (λ t. same (sym (eqb→eq b a t)))

-- a match of a rule, as its tests in turn
pub ruleset chain = (some_given, then_assoc, and_assoc, and_true, and_false)

-- ---- a judgement of another kind

pub not_dead : (j : Judgement) → ((a : ℕ) → j ≡ Dead a → ⊥) → eqb (kind_said j) 0 ≡ false
unfolding kind_said
not_dead (Dead a) h = absurd (h a refl)
not_dead (Within a b) h = refl
not_dead (ActionsWithin a b) h = refl
not_dead Unsolvable h = refl

pub not_within : (j : Judgement) → ((a b : ℕ) → j ≡ Within a b → ⊥) → eqb (kind_said j) 1 ≡ false
unfolding kind_said
not_within (Dead a) h = refl
not_within (Within a b) h = absurd (h a b refl)
not_within (ActionsWithin a b) h = refl
not_within Unsolvable h = refl

pub not_actions : (j : Judgement) → ((a b : ℕ) → j ≡ ActionsWithin a b → ⊥) → eqb (kind_said j) 2 ≡ false
unfolding kind_said
not_actions (Dead a) h = refl
not_actions (Within a b) h = refl
not_actions (ActionsWithin a b) h = absurd (h a b refl)
not_actions Unsolvable h = refl

pub not_unsolvable : (j : Judgement) → (j ≡ Unsolvable → ⊥) → eqb (kind_said j) 3 ≡ false
unfolding kind_said
not_unsolvable (Dead a) h = refl
not_unsolvable (Within a b) h = refl
not_unsolvable (ActionsWithin a b) h = refl
not_unsolvable Unsolvable h = absurd (h refl)

-- a rule asks for kind k of its conclusion, i being 0, or of premise i, counted from 1
abbrev asked : List Pattern → ℕ → ℕ → Bool
asked [] i k = false
asked (p ∷ ps) zero k = eqb (pattern_kind p) k
asked (p ∷ ps) (suc i) k = asked ps i k

abbrev pub asks : Rule → ℕ → ℕ → Bool
asks (ps ⊢ c) i k = asked (c ∷ ps) i k

then_none : {X Y : Type 0} (o : Option X) (g : X → Option Y) → ((x : X) → g x ≡ none) → (o then g) ≡ none
unfolding ◌then◌
then_none none g h = refl
then_none (some x) g h = h x

module _ (f : File) (k : ℕ) where
  kind_unmatched : (p : Pattern) (j : Judgement) (σ : Letters) → T (eqb (pattern_kind p) k) → eqb (kind_said j) k ≡ false
      → match_step f p (saying j) σ ≡ none
  unfolding match_step saying given ◌then◌
  kind_unmatched p j σ t h = rw (eqb→eq (pattern_kind p) k t, h)

  premise_unmatched : (i : ℕ) (ps : List Pattern) (js : List Judgement) (σ : Letters) → T (asked ps i k)
      → eqb (kind_said (get_or js i Unsolvable)) k ≡ false → match_said f ps js σ ≡ none
  unfolding match_said ◌then◌
  premise_unmatched i [] js σ t h = absurd t
  premise_unmatched zero (p ∷ ps) [] σ t h = refl
  premise_unmatched zero (p ∷ ps) (j ∷ js) σ t h = rw (kind_unmatched p j σ t h)
  premise_unmatched (suc i) (p ∷ ps) [] σ t h = refl
  premise_unmatched (suc i) (p ∷ ps) (j ∷ js) σ t h =
      then_none (match_step f p (saying j) σ) (match_said f ps js) (λ τ. premise_unmatched i ps js τ t h)

  unmatched : (r : Rule) (i : ℕ) (j : Judgement) (js : List Judgement) → T (asks r i k)
      → eqb (kind_said (get_or (j ∷ js) i Unsolvable)) k ≡ false → false ≡ follows f r j js
  unfolding follows is_some ◌then◌
  unmatched (ps ⊢ c) zero j js t h = rw (kind_unmatched c j no_letters t h)
  unmatched (ps ⊢ c) (suc i) j js t h =
      rw (then_none (match_step f c (saying j) no_letters) (match_said f ps js) (λ τ. premise_unmatched i ps js τ t h))

-- a step or premise of another judgement kind than the rule asks for
pub other_said : (f : File) (n i k : ℕ) (j : Judgement) (js : List Judgement) → T (asks (rule_numbered n) i k)
    → eqb (kind_said (get_or (j ∷ js) i Unsolvable)) k ≡ false → Err NotDerived ≡ by_rule f n j js
other_said f n i k j js t h =
    refused _ (unmatched f k (rule_numbered n) i j js t h)

-- ---- a range of rules

-- what holds of each number from `from` to `last` holds of one among them
ranged : (t : ℕ → Bool) (from last k : ℕ) → T (each (λ m. t (from + m)) (suc last - from)) → (from ≤ k) × (k ≤ last) → T (t k)
ranged t from last k h (lo, hi) =
    let e : from + (k - from) ≡ k = omega arith in
    rw e at (each_at (λ m. t (from + m)) (suc last - from) (k - from) h (omega arith))

-- a step or premise of another judgement kind than each rule from `from` to `last` asks for
pub other_among : (f : File) (from last i k : ℕ) {rule : ℕ} (j : Judgement) (js : List Judgement)
    → T (each (λ m. asks (rule_numbered (from + m)) i k) (suc last - from))
    → (from ≤ rule) × (rule ≤ last) → eqb (kind_said (get_or (j ∷ js) i Unsolvable)) k ≡ false
    → Err NotDerived ≡ by_rule f rule j js
other_among f from last i k {rule} j js t h = other_said f rule i k j js (ranged (λ m. asks (rule_numbered m) i k) from last rule t h)

-- the same of these rules without rule x
pub other_but : (f : File) (from last x i k : ℕ) {rule : ℕ} (j : Judgement) (js : List Judgement)
    → T (each (λ m. eqb (from + m) x || asks (rule_numbered (from + m)) i k) (suc last - from))
    → (from ≤ rule) × (rule ≤ last) → (rule ≡ x → ⊥) → eqb (kind_said (get_or (j ∷ js) i Unsolvable)) k ≡ false
    → Err NotDerived ≡ by_rule f rule j js
other_but f from last x i k {rule} j js t h but =
    other_said f rule i k j js
    (elim (or_cases (eqb rule x) (asks (rule_numbered rule) i k) (ranged (λ m. eqb m x || asks (rule_numbered m) i k) from last rule t h)) [
      | inl e ↦ absurd (but (eqb→eq rule x e))
      | inr a ↦ a
    ])

-- `unfolding listed` opens the list of rules
unfoldable pub listed : Unit {0}
unfolding rules rule_numbered pattern_kind
listed = tt

-- `unfolding opened` opens the rules, their matching and the tests
unfoldable pub opened : Unit {0}
unfolding action_kind basic_kind state_kind first second first_action second_action rules pattern_kind no_letters ◌then◌ given
    with_letter stands_for of_kind of_action_kind matchᴬ match match_entries match_step is_some rule_numbered kind_said left_said right_said
    saying match_said follows of_sort names names_both names_complement names_goal names_complement_goal names_all
opened = tt

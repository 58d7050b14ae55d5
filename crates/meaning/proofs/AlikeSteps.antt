-- A file with another version, with other lists in its explicit sets, of the same members, and with other rules in its steps: its entries
-- hold the same states and have the same shapes, so a step is checked there alike.
-- Assumes nothing.
use mathlib.Core.Path.{◌≡◌, refl, ap, ◌∙◌, fun_ext}
use mathlib.Core.Bool.{Bool, false}
use mathlib.Core.Option.{Option}
use Prim.Native.Nat.{ℕ, zero, suc}
use mathlib.Core.List.{List, [], ◌∷◌}
use lib.ListN.{length, get_or}
use Rattle.task.specs.Reach.{member}
use Rattle.meaning.specs.Result.{known}
use Rattle.meaning.specs.File.{empty, explicit, StateSet, basic, complement, intersection, union, progression, regression, Step, File}
use Rattle.meaning.specs.File.{action_set_at, state_set_at, step_at, basic_kind, state_kind, first, second}
use Rattle.meaning.specs.Sets.{settled, in_actions, in_basic, state_node, in_set, states_within, actions_within}
use Rattle.meaning.specs.Shapes.{Sides, kind_at, child, leaf_node, leaves, is_basic, is_complement, is_literal, literal_kind, complements}
use Rattle.meaning.specs.Shapes.{others, moved_left, moved_right, bracket, used, of_literals, of_clauses, lists_init, of_states, permitted}
use Rattle.meaning.specs.Shapes.{shape₁, shape_with, shape₂, shape₃, mixed, shape₄}
use Rattle.meaning.specs.Statements.{statements}
use Rattle.meaning.specs.Rules.{StatePattern, letter, O, I, G, ∼◌, ◌∩◌, ◌∪◌, prog, regr, Pattern, dead, ◌⊑◌, ◌⊑ᴬ◌, unsolvable, ◌⊢◌}
use Rattle.meaning.specs.Match.{Letters, no_letters, of_kind, of_action_kind, matchᴬ, match, match_entries, match_step, match_premises}
use Rattle.meaning.specs.Step.{Check, statement, derivation, judgement_kind, all_rules, rule_at, entries_fit, well_formed}
use Rattle.meaning.specs.Step.{check_by, check_step}
use Rattle.meaning.specs.Reply.{check_steps}
use Rattle.meaning.specs.Numbering.{with_rule}
use Rattle.meaning.specs.Question.{depth_node, depth, progression_node, has_progression, askable}
use Rattle.meaning.proofs.Results.{bind_same}
use Rattle.meaning.proofs.Letters.{then_same}
use Rattle.meaning.proofs.Alike.{AlikeSet, same, listed, AlikeSets}

pub ext₂ : {A B C : Type 0} {h k : A → B → C} → ((a : A) (b : B) → h a b ≡ k a b) → h ≡ k
ext₂ p = fun_ext (λ a. fun_ext (p a))

-- ---- alike lists of state sets

pub all_same : (xs : List StateSet) → AlikeSets xs xs
all_same [] = tt
all_same (x ∷ xs) = (same x, all_same xs)

count_same : (xs ys : List StateSet) → AlikeSets xs ys → length xs ≡ length ys
count_same [] [] h = refl
count_same [] (y ∷ ys) h = absurd h
count_same (x ∷ xs) [] h = absurd h
count_same (x ∷ xs) (y ∷ ys) h = ap suc (count_same xs ys h.1)

alike_at : (xs ys : List StateSet) → AlikeSets xs ys → (e : ℕ) → AlikeSet (get_or xs e (basic empty)) (get_or ys e (basic empty))
alike_at [] [] h e = same (basic empty)
alike_at [] (y ∷ ys) h e = absurd h
alike_at (x ∷ xs) [] h e = absurd h
alike_at (x ∷ xs) (y ∷ ys) h zero = h.0
alike_at (x ∷ xs) (y ∷ ys) h (suc e) = alike_at xs ys h.1 e

-- what is said of an explicit set is said by its members
abbrev ByMembers : {R : Type 0} → (StateSet → R) → Type 0
ByMembers said = (ss ss' : List ℕ) → ((s : ℕ) → member s ss ≡ member s ss') → said (basic (explicit ss)) ≡ said (basic (explicit ss'))

of_alike : {R : Type 0} (said : StateSet → R) → ByMembers said → (x y : StateSet) → AlikeSet x y → said x ≡ said y
of_alike said m _ _ (same x) = refl
of_alike said m _ _ (listed ss ss' h) = m ss ss' h

-- ---- the file with this version, these state sets and these steps

abbrev pub varied : ℕ → File → List StateSet → List Step → File
varied v g xs ks = record { version = v; task = g.task; action_sets = g.action_sets; state_sets = xs; steps = ks }

module _ (v : ℕ) (g : File) (xs : List StateSet) (ks : List Step) (alike : AlikeSets xs g.state_sets) where
  abbrev f : File
  f = varied v g xs ks

  sets_same : length xs ≡ length g.state_sets
  sets_same = count_same xs g.state_sets alike

  same_at : {R : Type 0} (said : StateSet → R) → ByMembers said → (e : ℕ) → said (state_set_at f e) ≡ said (state_set_at g e)
  unfolding state_set_at
  same_at said m e = of_alike said m (state_set_at f e) (state_set_at g e) (alike_at xs g.state_sets alike e)

  settled_same : {R : Type 0} (node : (ℕ → R) → StateSet → R) (none : R) → ((h : ℕ → R) → ByMembers (node h))
      → settled (λ h e. node h (state_set_at f e)) none ≡ settled (λ h e. node h (state_set_at g e)) none
  settled_same node none m = ap (λ node. settled node none) (ext₂ (λ h. same_at (node h) (m h)))

  -- ---- states, and questions about them

  node_same : (h : ℕ → ℕ → Bool) (x : StateSet) → state_node f h x ≡ state_node g h x
  unfolding action_set_at in_actions state_node
  node_same h (basic b) = refl
  node_same h (complement a) = refl
  node_same h (intersection a b) = refl
  node_same h (union a b) = refl
  node_same h (progression a e) = refl
  node_same h (regression a e) = refl

  pub in_same : in_set f ≡ in_set g
  unfolding in_set in_basic state_node
  in_same =
      ap (λ node. settled (λ h e. node h (state_set_at f e)) (λ s. false)) (ext₂ node_same)
      ∙ settled_same (state_node g) (λ s. false) (λ h ss ss' m. fun_ext m)

  pub ask_same : askable f ≡ askable g
  unfolding askable depth has_progression depth_node progression_node
  ask_same =
      let deep = settled_same depth_node 0 (λ h ss ss' m. refl) in
      let progressing = settled_same progression_node false (λ h ss ss' m. refl) in
      ext₂ (λ e s. rw (sets_same, deep, progressing))

  -- ---- kinds, references and shapes

  kind_at_lem : (e : ℕ) → state_kind (state_set_at f e) ≡ state_kind (state_set_at g e)
  unfolding state_kind basic_kind
  kind_at_lem = same_at state_kind (λ ss ss' m. refl)

  first_at : (e : ℕ) → first (state_set_at f e) ≡ first (state_set_at g e)
  unfolding first
  first_at = same_at first (λ ss ss' m. refl)

  second_at : (e : ℕ) → second (state_set_at f e) ≡ second (state_set_at g e)
  unfolding second
  second_at = same_at second (λ ss ss' m. refl)

  kinds : kind_at f ≡ kind_at g
  unfolding kind_at
  kinds = fun_ext kind_at_lem

  children : child f ≡ child g
  unfolding child
  children = fun_ext first_at

  leaf_same : (k : ℕ) → leaf_node f k ≡ leaf_node g k
  unfolding leaf_node
  leaf_same k = ext₂ (λ h e. cc (kinds, children, second_at e))

  leaves_same : leaves f ≡ leaves g
  unfolding leaves
  leaves_same = ext₂ (λ k e. rw (leaf_same k))

  basics : is_basic f ≡ is_basic g
  unfolding is_basic
  basics = fun_ext (λ e. cc kinds)

  bars : is_complement f ≡ is_complement g
  unfolding is_complement
  bars = fun_ext (λ e. cc kinds)

  literals : is_literal f ≡ is_literal g
  unfolding is_literal
  literals = fun_ext (λ e. cc (basics, bars, children))

  literal_kinds : literal_kind f ≡ literal_kind g
  unfolding literal_kind
  literal_kinds = fun_ext (λ e. cc (kinds, bars, children))

  moved_same : moved_left f ≡ moved_left g
  unfolding complements others moved_left
  moved_same = fun_ext (λ x. rw (bars, literal_kinds))

  permitted_same : (m n : Sides → List ℕ) → m ≡ n → permitted f m ≡ permitted g n
  unfolding complements others moved_left moved_right bracket used of_literals of_clauses lists_init of_states permitted
  permitted_same m n h = fun_ext (λ x. rw (h, kinds, basics, bars, literals, literal_kinds))

  with_same : (k : ℕ) (m n : Sides → List ℕ) → m ≡ n → shape_with f k m ≡ shape_with g k n
  unfolding shape_with
  with_same k m n h = ext₂ (λ a b. rw (permitted_same m n h, leaves_same, kinds, children))

  statements_same : statements f ≡ statements g
  unfolding statements action_set_at in_actions states_within actions_within bracket shape₁ shape₂ shape₃ mixed shape₄
  statements_same =
      let one : shape₁ f ≡ shape₁ g = ext₂ (λ a b. rw (permitted_same _ _ moved_same, leaves_same)) in
      let two : shape₂ f ≡ shape₂ g = with_same 9 _ _ (fun_ext (λ x. rw kinds)) in
      let three : shape₃ f ≡ shape₃ g = with_same 10 _ _ moved_same in
      let four : shape₄ f ≡ shape₄ g = ext₂ (λ a b. cc (bars, literals, literal_kinds)) in
      let within : states_within f ≡ states_within g = ext₂ (λ a b. rw in_same) in
      rw (one, two, three, four, within)

  -- ---- patterns

  match_same : (p : StatePattern) → match f p ≡ match g p
  unfolding action_set_at of_kind of_action_kind matchᴬ match
  match_same (letter x) = refl
  match_same O = ext₂ (λ e σ. cc (kind_at_lem e))
  match_same I = ext₂ (λ e σ. cc (kind_at_lem e))
  match_same G = ext₂ (λ e σ. cc (kind_at_lem e))
  match_same (∼ p) = ext₂ (λ e σ. cc (kind_at_lem e, first_at e, match_same p))
  match_same (p ∩ q) = ext₂ (λ e σ. cc (kind_at_lem e, first_at e, second_at e, match_same p, match_same q))
  match_same (p ∪ q) = ext₂ (λ e σ. cc (kind_at_lem e, first_at e, second_at e, match_same p, match_same q))
  match_same (prog p q) = ext₂ (λ e σ. cc (kind_at_lem e, first_at e, second_at e, match_same p))
  match_same (regr p q) = ext₂ (λ e σ. cc (kind_at_lem e, first_at e, second_at e, match_same p))

  entries_same : (p : Pattern) (a b : ℕ) → match_entries f p a b ≡ match_entries g p a b
  unfolding action_set_at of_action_kind matchᴬ match_entries
  entries_same (dead p) a b = fun_ext (λ σ. cc (match_same p))
  entries_same (p ⊑ q) a b = fun_ext (λ σ. cc (match_same p, match_same q))
  entries_same (p ⊑ᴬ q) a b = refl
  entries_same unsolvable a b = refl

  step_same : (p : Pattern) (s : Step) (σ : Letters) → match_step f p s σ ≡ match_step g p s σ
  unfolding match_step
  step_same p s σ = rw (entries_same p s.left s.right)

  -- ---- checks

  rule_same : (n : ℕ) → rule_at f n ≡ rule_at g n
  unfolding rule_at all_rules
  rule_same zero = refl
  rule_same (suc n) = rw statements_same

  fit_same : (j a b : ℕ) → entries_fit f j a b ≡ entries_fit g j a b
  unfolding entries_fit
  fit_same zero a b = cc sets_same
  fit_same (suc zero) a b = cc sets_same
  fit_same (suc (suc zero)) a b = refl
  fit_same (suc (suc (suc j))) a b = refl

  module _ (steps : (k : ℕ) → with_rule 0 (step_at f k) ≡ with_rule 0 (step_at g k)) where
    -- a premise's rule is not looked at
    premise_same : (p : Pattern) (k : ℕ) (σ : Letters) → match_step f p (step_at f k) σ ≡ match_step g p (step_at g k) σ
    unfolding match_step
    premise_same p k σ = step_same p (step_at f k) σ ∙ ap (λ (s : Step). match_step g p s σ) (steps k)

    premises_same : (ps : List Pattern) (ns : List ℕ) (σ : Letters) → match_premises f ps ns σ ≡ match_premises g ps ns σ
    unfolding match_premises
    premises_same [] ns σ = refl
    premises_same (p ∷ ps) [] σ = refl
    premises_same (p ∷ ps) (n ∷ ns) σ = then_same _ _ _ _ (premise_same p n σ) (premises_same ps ns)

    by_same : (i : ℕ) (s : Step) (c : Check) → check_by f i s c ≡ check_by g i s c
    unfolding check_by
    by_same i s (statement b) = refl
    by_same i s (derivation (ps ⊢ c)) =
        bind_same (ap (λ (o : Option Letters). known o 9 i) (step_same c s no_letters))
        (λ σ. bind_same (ap (λ (o : Option Letters). known o 9 i) (premises_same ps s.premises σ)) (λ _. refl))

    pub step_checked : (i : ℕ) (s : Step) → check_step f i s ≡ check_step g i s
    unfolding check_step well_formed
    step_checked i s =
        bind_same (ap (λ (o : Option Check). known o 8 i) (rule_same s.rule))
        (λ r. bind_same (rw (fit_same (judgement_kind r) s.left s.right)) (λ _. by_same i s r))

    pub steps_checked : (i : ℕ) (ss : List Step) → check_steps f i ss ≡ check_steps g i ss
    unfolding check_steps
    steps_checked i [] = refl
    steps_checked i (s ∷ ss) = bind_same (step_checked i s) (λ _. steps_checked (suc i) ss)

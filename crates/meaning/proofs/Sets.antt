-- The entries as sets of the task's transition system: what each kind holds, and when an inclusion is true.
-- Assumes nothing.
use mathlib.Core.Path.{refl, subst, sym, ◌∙◌}
use mathlib.Core.Logic.{◌↔◌, ◌⊎◌, inl, inr}
use Prim.Native.Nat.{ℕ, ◌^◌, ◌<◌}
use mathlib.Core.Bool.{Bool, false, not, ◌&&◌, ◌||◌}
use lib.ListN.{get_or, length}
use lib.Dec.{T, eqb, eqb→eq, eqb_refl, lt→ltb}
use Rattle.task.specs.Task.{Task, action_at, applies, after}
use Rattle.task.specs.System.{States, Actions, Progression, Regression}
use Rattle.task.proofs.Tests.{and_left, and_right, and_both, or_cases, or_left, or_right, excluded, never, not_of, implied}
use Rattle.task.proofs.Moves.{Bounded, system}
use Rattle.meaning.specs.File.{File, action_set_at, state_set_at, action_kind, state_kind, first, second, first_action, second_action}
use Rattle.meaning.proofs.Order.{Ordered}
use Rattle.meaning.specs.Sets.{in_actions, some_action, progressed, regressed, in_set, states_within, actions_within}
use Rattle.meaning.proofs.Below.{all_at, all_of, some_at, some_of}
use Rattle.meaning.proofs.Nodes.{in_node, in_actions_lem, by_kind, node_by_kind, actions_by_kind, actions_by_kind_lem}

-- ---- tests as statements

pub not_iff : (b : Bool) → (T b → ⊥) ↔ T (not b)
not_iff b = (not_of b, (λ n t. never b t n))

pub and_iff : (a b : Bool) → (T a × T b) ↔ T (a && b)
and_iff a b = ((λ p. and_both a b p.0 p.1), (λ t. (and_left a b t, and_right a b t)))

pub or_iff : (a b : Bool) → (T a ⊎ T b) ↔ T (a || b)
or_iff a b = ((λ p. elim p [ inl s ↦ or_left a b s | inr s ↦ or_right a b s ]), or_cases a b)

pub implies_of : (a b : Bool) → (T a → T b) → T (not a || b)
implies_of a b h = elim (excluded a) [ inl t ↦ or_right (not a) b (h t) | inr n ↦ or_left (not a) b n ]

-- ---- one action

module _ (t : Task) (A : ℕ → Bool) (s : ℕ) (X : ℕ → Bool) where
  -- an action of A that applies at s and leads into X
  abbrev Enters : Type 0
  Enters = (i : ℕ) × (i < length t.actions) × T (A i) × T (applies (action_at t i) s) × T (X (after (action_at t i) s))

  enters : T (some_action t A s X) → Enters
  unfolding some_action
  enters h =
      let w = some_at (length t.actions) _ h in
      let i : ℕ = w.0 in
      let ca : T (A i && applies (action_at t i) s) = and_left (A i && applies (action_at t i) s) (X (after (action_at t i) s)) w.2 in (
        i,
        w.1,
        and_left (A i) (applies (action_at t i) s) ca,
        and_right (A i) (applies (action_at t i) s) ca,
        and_right (A i && applies (action_at t i) s) (X (after (action_at t i) s)) w.2,
      )

  entered : Enters → T (some_action t A s X)
  unfolding some_action
  entered (i, l, a, p, x) =
      some_of (length t.actions) _ i l
      (and_both (A i && applies (action_at t i) s) (X (after (action_at t i) s)) (and_both (A i) (applies (action_at t i) s) a p) x)

-- sets given by tests, as sets of the transition system
module _ (t : Task) where
  abbrev pub states_in : (ℕ → Bool) → States (system t)
  states_in X s = T (X s.0)

  abbrev pub actions_in : (ℕ → Bool) → Actions (system t)
  actions_in A i = T (A i.0)

  pub progression_iff : (X A : ℕ → Bool) (s : (system t).State)
      → Progression (system t) (states_in X) (actions_in A) s ↔ T (progressed t X A s.0)
  unfolding progressed
  progression_iff X A u = (
    (λ (s, a, x, c, m).
        some_of (2 ^ t.facts) _ s.0 s.1
        (and_both (X s.0) _ x (entered t A s.0 (λ v. eqb v u.0)
        (a.0, a.1, c, m.0, subst (λ (v : ℕ). T (eqb v u.0)) (sym m.1) (eqb_refl u.0))))),
    (λ h.
        let w = some_at (2 ^ t.facts) _ h in
        let v = enters t A w.0 (λ v. eqb v u.0) (and_right (X w.0) _ w.2) in
        ((w.0, w.1), (v.0, v.1), and_left (X w.0) _ w.2, v.2, (v.3, eqb→eq (after (action_at t v.0) w.0) u.0 v.4))),
  )

  pub regression_iff : Bounded t → (X A : ℕ → Bool) (s : (system t).State)
      → Regression (system t) (states_in X) (actions_in A) s ↔ T (regressed t X A s.0)
  unfolding regressed
  regression_iff b X A s = (
    (λ (u, a, x, c, m). entered t A s.0 X (a.0, a.1, c, m.0, subst (λ (v : ℕ). T (X v)) (sym m.1) x)),
    (λ h.
        let v = enters t A s.0 X h in
        ((after (action_at t v.0) s.0, b.after v.0 s.0 v.1 s.1), (v.0, v.1), v.4, v.2, (v.3, refl))),
  )

-- ---- entries

module _ (f : File) where
  abbrev pub states_of : ℕ → States (system f.task)
  states_of e = states_in f.task (in_set f e)

  abbrev pub actions_of : ℕ → Actions (system f.task)
  actions_of a = actions_in f.task (in_actions f a)

module _ (f : File) (o : Ordered f) (b : Bounded f.task) where
  -- the entry's kind, and a state of the task
  abbrev Kind : ℕ → ℕ → Type 0
  Kind e k = T (eqb (state_kind (state_set_at f e)) k)

  abbrev At : Type 0
  At = (system f.task).State

  -- what is shown of the kind's set is shown of the entry's
  by_kind_lem : (e k : ℕ) → Kind e k → (s : At) (P : Type 0) → P ↔ T (get_or (by_kind f (in_set f) (state_set_at f e)) k (λ x. false) s.0)
      → P ↔ states_of f e s
  by_kind_lem e k h s P p = subst (λ (X : ℕ → Bool). P ↔ T (X s.0)) (sym (in_node f o e ∙ node_by_kind f (in_set f) (state_set_at f e) k h)) p

  pub at_empty : (e : ℕ) → Kind e 0 → (s : At) → ⊥ ↔ states_of f e s
  at_empty e h s = by_kind_lem e 0 h s ⊥ ((λ x. x), (λ x. x))

  pub at_init_lem : (e : ℕ) → Kind e 1 → (s : At) → (system f.task).Init s ↔ states_of f e s
  at_init_lem e h s = by_kind_lem e 1 h s _ ((λ x. x), (λ x. x))

  pub at_goal_lem : (e : ℕ) → Kind e 2 → (s : At) → (system f.task).Goal s ↔ states_of f e s
  at_goal_lem e h s = by_kind_lem e 2 h s _ ((λ x. x), (λ x. x))

  pub at_complement : (e : ℕ) → Kind e 6 → (s : At) → (states_of f (first (state_set_at f e)) s → ⊥) ↔ states_of f e s
  at_complement e h s = by_kind_lem e 6 h s _ (not_iff (in_set f (first (state_set_at f e)) s.0))

  pub at_intersection : (e : ℕ) → Kind e 7 → (s : At)
      → (states_of f (first (state_set_at f e)) s × states_of f (second (state_set_at f e)) s) ↔ states_of f e s
  at_intersection e h s = by_kind_lem e 7 h s _ (and_iff (in_set f (first (state_set_at f e)) s.0) (in_set f (second (state_set_at f e)) s.0))

  pub at_union : (e : ℕ) → Kind e 8 → (s : At) → (states_of f (first (state_set_at f e)) s ⊎ states_of f (second (state_set_at f e)) s)
      ↔ states_of f e s
  at_union e h s = by_kind_lem e 8 h s _ (or_iff (in_set f (first (state_set_at f e)) s.0) (in_set f (second (state_set_at f e)) s.0))

  pub at_progression : (e : ℕ) → Kind e 9 → (s : At)
      → Progression (system f.task) (states_of f (first (state_set_at f e))) (actions_of f (second (state_set_at f e))) s ↔ states_of f e s
  at_progression e h s = by_kind_lem e 9 h s _ (progression_iff f.task (in_set f (first (state_set_at f e)))
      (in_actions f (second (state_set_at f e))) s)

  pub at_regression : (e : ℕ) → Kind e 10 → (s : At)
      → Regression (system f.task) (states_of f (first (state_set_at f e))) (actions_of f (second (state_set_at f e))) s ↔ states_of f e s
  at_regression e h s = by_kind_lem e 10 h s _ (regression_iff f.task b (in_set f (first (state_set_at f e)))
      (in_actions f (second (state_set_at f e))) s)

  abbrev ActionKind : ℕ → ℕ → Type 0
  ActionKind a k = T (eqb (action_kind (action_set_at f a)) k)

  by_action_kind : (a k : ℕ) → ActionKind a k → (i : (system f.task).Action) (P : Type 0)
      → P ↔ T (get_or (actions_by_kind f (in_actions f) (action_set_at f a)) k (λ x. false) i.0) → P ↔ actions_of f a i
  by_action_kind a k h i P p =
      subst (λ (X : ℕ → Bool). P ↔ T (X i.0)) (sym (in_actions_lem f o a ∙ actions_by_kind_lem f (in_actions f) (action_set_at f a) k h)) p

  pub at_all : (a : ℕ) → ActionKind a 0 → (i : (system f.task).Action) → Unit {0} ↔ actions_of f a i
  at_all a h i = by_action_kind a 0 h i _ ((λ u. lt→ltb i.0 (length f.task.actions) i.1), (λ x. tt))

  pub at_either : (a : ℕ) → ActionKind a 2 → (i : (system f.task).Action)
      → (actions_of f (first_action (action_set_at f a)) i ⊎ actions_of f (second_action (action_set_at f a)) i) ↔ actions_of f a i
  at_either a h i = by_action_kind a 2 h i _ (or_iff (in_actions f (first_action (action_set_at f a)) i.0)
      (in_actions f (second_action (action_set_at f a)) i.0))

-- ---- inclusions

module _ (f : File) where
  pub within : (a b : ℕ) → T (states_within f a b) ↔ ((s : (system f.task).State) → states_of f a s → states_of f b s)
  unfolding states_within
  within a b = (
    (λ h s x. implied (in_set f a s.0) (in_set f b s.0) (all_at (2 ^ f.task.facts) _ h s.0 s.1) x),
    (λ h. all_of (2 ^ f.task.facts) _ (λ s l. implies_of (in_set f a s) (in_set f b s) (h (s, l)))),
  )

  pub within_actions : (a b : ℕ) → T (actions_within f a b) ↔ ((i : (system f.task).Action) → actions_of f a i → actions_of f b i)
  unfolding actions_within
  within_actions a b = (
    (λ h i x. implied (in_actions f a i.0) (in_actions f b i.0) (all_at (length f.task.actions) _ h i.0 i.1) x),
    (λ h. all_of (length f.task.actions) _ (λ i l. implies_of (in_actions f a i) (in_actions f b i) (h (i, l)))),
  )

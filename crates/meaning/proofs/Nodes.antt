-- What an entry holds, from what the entries that it names hold; and an entry by its kind and references.
-- Assumes nothing.
use mathlib.Core.Path.{◌≡◌, refl, ap, ap₂, subst}
use Prim.Native.Nat.{ℕ, ◌<◌}
use mathlib.Core.Bool.{Bool, false, not, ◌&&◌, ◌||◌}
use mathlib.Core.List.{List, [], ◌∷◌}
use lib.ListN.{get_or, length}
use lib.Dec.{T, eqb, eqb→eq, ltb}
use Rattle.task.specs.Task.{is_init, is_goal}
use Rattle.meaning.specs.File.{ActionSet, all, listed, either, empty, init, goal, explicit, horn, two_cnf, StateSet, basic}
use Rattle.meaning.specs.File.{complement, intersection, union, progression, regression, File, action_set_at, state_set_at, action_kind}
use Rattle.meaning.specs.File.{state_kind, basic_kind, first, second, first_action, second_action}
use Rattle.meaning.proofs.Order.{Earlier, EarlierActions, Ordered}
use Rattle.meaning.specs.Sets.{action_node, in_actions, progressed, regressed, in_basic, state_node, in_set}
use Rattle.meaning.proofs.Settled.{settled_node}

-- set operations, as functions that a path can be put through
abbrev outside : (ℕ → Bool) → ℕ → Bool
outside X s = not (X s)

abbrev common : (ℕ → Bool) → (ℕ → Bool) → ℕ → Bool
common X Y s = X s && Y s

abbrev joined : (ℕ → Bool) → (ℕ → Bool) → ℕ → Bool
joined X Y s = X s || Y s

module _ (f : File) where
  node_same : (e : ℕ) (g h : ℕ → ℕ → Bool) (x : StateSet) → Earlier e x → ((a : ℕ) → a < e → g a ≡ h a) → state_node f g x ≡ state_node f h x
  unfolding state_node
  node_same e g h (basic b) l k = refl
  node_same e g h (complement a) l k = ap outside (k a l)
  node_same e g h (intersection a b) l k = ap₂ common (k a l.0) (k b l.1)
  node_same e g h (union a b) l k = ap₂ joined (k a l.0) (k b l.1)
  node_same e g h (progression a b) l k = ap (λ (X : ℕ → Bool). progressed f.task X (in_actions f b)) (k a l)
  node_same e g h (regression a b) l k = ap (λ (X : ℕ → Bool). regressed f.task X (in_actions f b)) (k a l)

  actions_same : (e : ℕ) (g h : ℕ → ℕ → Bool) (x : ActionSet) → EarlierActions e x → ((a : ℕ) → a < e → g a ≡ h a)
      → action_node f.task g x ≡ action_node f.task h x
  unfolding action_node
  actions_same e g h all l k = refl
  actions_same e g h (listed is) l k = refl
  actions_same e g h (either a b) l k = ap₂ joined (k a l.0) (k b l.1)

  module _ (o : Ordered f) where
    pub in_node : (e : ℕ) → in_set f e ≡ state_node f (in_set f) (state_set_at f e)
    unfolding in_set
    in_node e = settled_node _ (λ s. false) (λ a g h k. node_same a g h (state_set_at f a) (o.states a) k) e

    pub in_actions_lem : (a : ℕ) → in_actions f a ≡ action_node f.task (in_actions f) (action_set_at f a)
    unfolding in_actions
    in_actions_lem a = settled_node _ (λ i. false) (λ e g h k. actions_same e g h (action_set_at f e) (o.actions e) k) a

  -- ---- by kind

  -- what an entry of each kind holds; kinds 3 to 5 as they are
  abbrev pub by_kind : (ℕ → ℕ → Bool) → StateSet → List (ℕ → Bool)
  by_kind m x =
      (λ s. false)
      ∷ is_init f.task
      ∷ is_goal f.task
      ∷ state_node f m x
      ∷ state_node f m x
      ∷ state_node f m x
      ∷ outside (m (first x))
      ∷ common (m (first x)) (m (second x))
      ∷ joined (m (first x)) (m (second x))
      ∷ progressed f.task (m (first x)) (in_actions f (second x))
      ∷ regressed f.task (m (first x)) (in_actions f (second x))
      ∷ []

  kinds_agree : (m : ℕ → ℕ → Bool) (x : StateSet) → state_node f m x ≡ get_or (by_kind m x) (state_kind x) (λ s. false)
  unfolding state_node in_basic state_kind basic_kind first second
  kinds_agree m (basic empty) = refl
  kinds_agree m (basic init) = refl
  kinds_agree m (basic goal) = refl
  kinds_agree m (basic (explicit ss)) = refl
  kinds_agree m (basic (horn cs)) = refl
  kinds_agree m (basic (two_cnf cs)) = refl
  kinds_agree m (complement a) = refl
  kinds_agree m (intersection a b) = refl
  kinds_agree m (union a b) = refl
  kinds_agree m (progression a b) = refl
  kinds_agree m (regression a b) = refl

  pub node_by_kind : (m : ℕ → ℕ → Bool) (x : StateSet) (k : ℕ) → T (eqb (state_kind x) k)
      → state_node f m x ≡ get_or (by_kind m x) k (λ s. false)
  node_by_kind m x k t =
      subst (λ (j : ℕ). state_node f m x ≡ get_or (by_kind m x) j (λ s. false)) (eqb→eq (state_kind x) k t) (kinds_agree m x)

  abbrev pub actions_by_kind : (ℕ → ℕ → Bool) → ActionSet → List (ℕ → Bool)
  actions_by_kind m x =
      (λ i. ltb i (length f.task.actions))
      ∷ action_node f.task m x
      ∷ joined (m (first_action x)) (m (second_action x))
      ∷ []

  action_kinds_agree : (m : ℕ → ℕ → Bool) (x : ActionSet) → action_node f.task m x ≡ get_or (actions_by_kind m x) (action_kind x) (λ i. false)
  unfolding action_node action_kind first_action second_action
  action_kinds_agree m all = refl
  action_kinds_agree m (listed is) = refl
  action_kinds_agree m (either a b) = refl

  pub actions_by_kind_lem : (m : ℕ → ℕ → Bool) (x : ActionSet) (k : ℕ) → T (eqb (action_kind x) k)
      → action_node f.task m x ≡ get_or (actions_by_kind m x) k (λ i. false)
  actions_by_kind_lem m x k t =
      subst (λ (j : ℕ). action_node f.task m x ≡ get_or (actions_by_kind m x) j (λ i. false)) (eqb→eq (action_kind x) k t)
      (action_kinds_agree m x)

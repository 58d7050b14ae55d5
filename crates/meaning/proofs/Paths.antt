-- What stays true along the paths from an initial state to a goal state, and the sets that are dead by it.
-- Assumes nothing.
use mathlib.Core.Logic.{◌⊎◌, inl, inr}
use Rattle.task.specs.System.{System, States, Path, here, move, DeadIn, Progression, Regression}

module _ (y : System) where
  pub append : {s u v : y.State} → Path y s u → Path y u v → Path y s v
  append here q = q
  append (move a m p) q = move a m (append p q)

  pub snoc : {s u v : y.State} → Path y s u → (a : y.Action) → y.Move a u v → Path y s v
  snoc p a m = append p (move a m here)

  -- no move on a path from an initial state to a goal state leaves the set
  abbrev pub Kept : States y → Type 0
  Kept P =
      (i s u g : y.State) (a : y.Action) → y.Init i → Path y i s → P s → y.Move a s u → Path y u g → y.Goal g → P u

  pub along : (P : States y) → Kept P → (i s u g : y.State) → y.Init i → Path y i s → P s → Path y s u → Path y u g → y.Goal g → P u
  along P k i s u g h p x here r e = x
  along P k i s u g h p x (move {u = v} a m q) r e =
      along P k i v u g h (snoc p a m) (k i s v g a h p x m (append q r) e) q r e

  -- a kept set is dead where its goal states are, and what is outside of it where it has the initial states
  pub kept_goal : (P : States y) → Kept P → DeadIn y (λ s. P s × y.Goal s) → DeadIn y P
  kept_goal P k d i s g h p x q e = d i g g h (append p q) (along P k i s g g h p x q here e, e) here e

  pub kept_init : (P : States y) → Kept P → ((s : y.State) → y.Init s → P s) → DeadIn y (λ s. P s → ⊥)
  kept_init P k d i s g h p n q e = n (along P k i i s g h here (d i h) p q e)

  -- S[T] < S + U with U dead keeps S; [T]S < S + U with U dead keeps what is outside of S
  module _ (S U : States y) (dead : DeadIn y U) where
    pub forward : ((s : y.State) → Progression y S (λ a. Unit {0}) s → S s ⊎ U s) → Kept S
    forward w i s u g a h p x m q e =
        elim (w u (s, a, x, tt, m)) [ inl x' ↦ x' | inr z ↦ absurd (dead i u g h (snoc p a m) z q e) ]

    pub backward : ((s : y.State) → Regression y S (λ a. Unit {0}) s → S s ⊎ U s) → Kept (λ s. S s → ⊥)
    backward w i s u g a h p n m q e x =
        elim (w s (u, a, x, tt, m)) [ inl x' ↦ n x' | inr z ↦ dead i s g h p z (move a m q) e ]

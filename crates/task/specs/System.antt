-- A transition system in general, with the sets and the judgements that the proof system is about.
-- Assumes nothing.

pub record System : Type 1 where
  pub State : Type 0
  pub Action : Type 0
  -- the action applies in the first state and leads to the second
  pub Move : Action → State → State → Type 0
  pub Init : State → Type 0
  pub Goal : State → Type 0

module _ (y : System) where
  abbrev pub States : Type 1
  States = y.State → Type 0

  abbrev pub Actions : Type 1
  Actions = y.Action → Type 0

  -- moves, one after the other
  pub data Path : y.State → y.State → Type 0 where
    here : {s : y.State} → Path s s
    move : {s u v : y.State} (a : y.Action) → y.Move a s u → Path u v → Path s v

  -- no path from an initial state to a goal state passes a state of the set
  abbrev pub DeadIn : States → Type 0
  DeadIn X = (i s g : y.State) → y.Init i → Path i s → X s → Path s g → y.Goal g → ⊥

  -- no path leads from an initial state to a goal state
  abbrev pub UnsolvableIn : Type 0
  UnsolvableIn = (i g : y.State) → y.Init i → Path i g → y.Goal g → ⊥

  -- S[A]: what the actions of A make of states in S where they apply
  abbrev pub Progression : States → Actions → States
  Progression S A u = (s : y.State) × (a : y.Action) × S s × A a × y.Move a s u

  -- [A]S: the states from which some action of A applies and leads into S
  abbrev pub Regression : States → Actions → States
  Regression S A s = (u : y.State) × (a : y.Action) × S u × A a × y.Move a s u

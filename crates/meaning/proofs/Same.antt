-- Sets with the same elements: what is made of them has the same elements, and what is said of them is said alike.
-- Assumes nothing.
use mathlib.Core.Logic.{◌↔◌, ◌⊎◌, inl, inr}
use Rattle.task.specs.System.{System, States, Actions, DeadIn, Progression, Regression}

abbrev pub Within : {X : Type 0} → (X → Type 0) → (X → Type 0) → Type 0
Within {X} P Q = (x : X) → P x → Q x

abbrev pub Same : {X : Type 0} → (X → Type 0) → (X → Type 0) → Type 0
Same {X} P Q = (x : X) → P x ↔ Q x

or_map : {A B C D : Type 0} → (A → C) → (B → D) → A ⊎ B → C ⊎ D
or_map h k (inl a) = inl (h a)
or_map h k (inr b) = inr (k b)

pub same_or : {A B C D : Type 0} → A ↔ C → B ↔ D → (A ⊎ B) ↔ (C ⊎ D)
same_or h k = (or_map h.0 k.0, or_map h.1 k.1)

pub same_within : {X : Type 0} {P Q R S : X → Type 0} → Same P R → Same Q S → Within P Q ↔ Within R S
same_within h k = ((λ w x r. (k x).0 (w x ((h x).1 r))), (λ w x p. (k x).1 (w x ((h x).0 p))))

module _ (y : System) where
  -- some action of A at some state of X stands in the relation M
  abbrev Some : States y → Actions y → (y.Action → y.State → Type 0) → Type 0
  Some X A M = (s : y.State) × (a : y.Action) × X s × A a × M a s

  some_map : {X Z : States y} {A B : Actions y} {M : y.Action → y.State → Type 0} → Within X Z → Within A B → Some X A M → Some Z B M
  some_map h k m = (m.0, m.1, h m.0 m.2, k m.1 m.3, m.4)

  same_some : {X Z : States y} {A B : Actions y} → Same X Z → Same A B → (M : y.Action → y.State → Type 0) → Some X A M ↔ Some Z B M
  same_some h k M = (some_map (λ s. (h s).0) (λ a. (k a).0), some_map (λ s. (h s).1) (λ a. (k a).1))

  pub same_progression : {X Z : States y} {A B : Actions y} → Same X Z → Same A B → Same (Progression y X A) (Progression y Z B)
  same_progression h k u = same_some h k (λ a s. y.Move a s u)

  pub same_regression : {X Z : States y} {A B : Actions y} → Same X Z → Same A B → Same (Regression y X A) (Regression y Z B)
  same_regression h k s = same_some h k (λ a u. y.Move a s u)

  dead_map : {X Z : States y} → Within Z X → DeadIn y X → DeadIn y Z
  dead_map h d i s g a p x q e = d i s g a p (h s x) q e

  pub same_dead : {X Z : States y} → Same X Z → DeadIn y X ↔ DeadIn y Z
  same_dead h = (dead_map (λ s. (h s).1), dead_map (λ s. (h s).0))

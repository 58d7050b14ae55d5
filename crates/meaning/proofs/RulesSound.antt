-- The rules 6 to 28 are sound in any transition system, whatever sets their letters stand for.
-- Assumes nothing.
use mathlib.Core.Path.{◌≡◌, subst}
use mathlib.Core.Logic.{inl, inr}
use mathlib.Core.Option.{some}
use Prim.Native.Nat.{ℕ, zero, suc}
use mathlib.Core.List.{List, [], ◌∷◌}
use lib.ListN.{get_elem?}
use Rattle.task.specs.System.{System, States, Actions, here}
use Rattle.meaning.specs.Rules.{Rule, rules}
use Rattle.meaning.specs.Truth.{SoundRule, SoundRules}
use Rattle.meaning.proofs.Letters.{no_some}
use Rattle.meaning.proofs.Paths.{kept_goal, kept_init, forward, backward}

-- one rule, and the rest
infixr 5 ◌and◌
◌and◌ : {X Y : Type 0} → X → Y → X × Y
◌and◌ x y = (x, y)

-- what would lead to Z is outside where Z is
outside : {X Z : Type 0} → (Z → ⊥) → (X → Z) → X → ⊥
outside n h x = n (h x)

module _ (y : System) (ρ : ℕ → States y) (α : ℕ → Actions y) where
  -- Each rule of 6 to 28 is sound. In each line h has what the premises say, and x says that s is in the set meant;
  -- of a dead set, p leads from the initial state i to s and q from s to the goal state g
  pub rules_sound : SoundRules y ρ α rules
  unfolding rules ◌and◌
  rules_sound =
      (λ h i s g a p x q e. x)  -- 6 ED
      and (λ h i s g a p x q e. elim x [ inl z ↦ h.0 i s g a p z q e | inr z ↦ h.1.0 i s g a p z q e ])  -- 7 UD
      and (λ h i s g a p x q e. h.1.0 i s g a p (h.0 s x) q e)  -- 8 SD
      and (λ h. kept_goal y (ρ 0) (forward y (ρ 0) (ρ 1) h.1.0 h.0) h.1.1.0)  -- 9 PG
      and (λ h. kept_init y (ρ 0) (forward y (ρ 0) (ρ 1) h.1.0 h.0) h.1.1.0)  -- 10 PI
      and (λ h. kept_goal y (λ s. ρ 0 s → ⊥) (backward y (ρ 0) (ρ 1) h.1.0 h.0) h.1.1.0)  -- 11 RG
      and (λ h i s g a p x. kept_init y (λ s. ρ 0 s → ⊥) (backward y (ρ 0) (ρ 1) h.1.0 h.0) h.1.1.0 i s g a p (λ n. n x))
      -- 12 RI
      and (λ h i g a p e. h.0 i i g a here a p e)  -- 13 CI
      and (λ h i g a p e. h.0 i g g a p e here e)  -- 14 CG
      and (λ h s x. inl x)  -- 15 UR
      and (λ h s x. inr x)  -- 16 UL
      and (λ h s x. x.0)  -- 17 IR
      and (λ h s x. x.1)  -- 18 IL
      and (λ h s x. elim x.0 [ inl z ↦ inl (z, x.1) | inr z ↦ inr (z, x.1) ])  -- 19 DI
      and (λ h s x. elim x [ inl z ↦ h.0 s z | inr z ↦ h.1.0 s z ])  -- 20 SU
      and (λ h s x. (h.0 s x, h.1.0 s x))  -- 21 SI
      and (λ h s x. h.1.0 s (h.0 s x))  -- 22 ST
      and (λ h s x. h.0 s (x.0, x.1, x.2, h.1.0 x.1 x.3, x.4))  -- 23 AT
      and (λ h s x. elim x.3 [ inl z ↦ h.0 s (x.0, x.1, x.2, z, x.4) | inr z ↦ h.1.0 s (x.0, x.1, x.2, z, x.4) ])  -- 24 AU
      and (λ h s x. h.0 s (x.0, x.1, h.1.0 x.0 x.2, x.3, x.4))  -- 25 PT
      and (λ h s x. elim x.2 [ inl z ↦ h.0 s (x.0, x.1, z, x.3, x.4) | inr z ↦ h.1.0 s (x.0, x.1, z, x.3, x.4) ])  -- 26 PU
      and (λ h s x. outside x.2 (λ z. h.0 x.0 (s, x.1, z, x.3, x.4)))  -- 27 PR
      and (λ h s x. outside x.2 (λ z. h.0 x.0 (s, x.1, z, x.3, x.4)))  -- 28 RP
      and tt

  -- the rule with number k in a list of sound rules is sound
  pub sound_at : (rs : List Rule) → SoundRules y ρ α rs → (k : ℕ) (r : Rule) → get_elem? rs k ≡ some r → SoundRule y ρ α r
  sound_at [] a k r e = no_some r e
  sound_at (r' ∷ rs) a zero r e = let q : r' ≡ r = cc in subst (SoundRule y ρ α) q a.0
  sound_at (r' ∷ rs) a (suc k) r e = sound_at rs a.1 k r e

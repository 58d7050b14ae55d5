-- What makes the statement of a rule untrue, by its leaves and by its entries.
-- Assumes nothing.
use mathlib.Core.Path.{◌≡◌, refl, sym, subst}
use mathlib.Core.Logic.Iff
use mathlib.Core.Logic.{◌↔◌}
use Prim.Native.Nat.{ℕ, zero, suc, ◌≤◌}
use native.Mathlib.Omega.{arith}
use mathlib.Core.Bool.{true, false}
use mathlib.Core.List.{List}
use lib.Dec.{T}
use Rattle.task.specs.declared.Action.{Action}
use Rattle.task.specs.declared.Ends.{Ends}
use Rattle.task.specs.Inner.{no_action, ends_of}
use Rattle.certificate.specs.Known.{Known, decoded}
use Rattle.certificate.proofs.TableLaws.{NoneOf}
use Rattle.meaning.specs.File.{File}
use Rattle.counterexample.specs.Counter.{Asked, Counter, ActionsOf, Refuted}
use Rattle.leaves.specs.declared.Leaf.{Leaf}
use Rattle.kinds.specs.declared.Gathered.{Gathered}
use Rattle.parts.specs.Written.{actions_of_rule}
use Rattle.shapes.specs.Gathered.{left_of, right_of, Acts, Gathers}
use Rattle.inclusion.specs.Search.{has_bracket, CounteredBy, WithBracket, ByRule}
use Rattle.inclusion.proofs.Gathered.{countered_refuted}

-- what is left over of the rules has no bracket
pub bracket_left : (rule : ℕ) → NoneOf 2 2 rule → false ≡ has_bracket rule
unfolding has_bracket
bracket_left zero n = refl
bracket_left (suc zero) n = refl
bracket_left (suc (suc zero)) n = absurd (n.0.1 (omega arith))
bracket_left (suc (suc (suc zero))) n = absurd (n.1 (omega arith))
bracket_left (suc (suc (suc (suc k)))) n = refl

-- ---- entries

-- an action of those chosen makes the statement untrue
abbrev Refuting : File → (Action → Type 0) → List Asked → List Asked → Type 0
Refuting f acts xs ys = (a : Action) × acts a × Refuted f a xs ys

refuting : (f : File) (acts : Action → Type 0) (xs ys : List Asked) → Refuting f acts xs ys ↔ Counter f acts xs ys
refuting f acts xs ys = (
  (λ (a, c, w). record { action = a; chosen = c; state = w.0; low = w.1; allowed = w.2; holds = w.3; fails = w.4 }),
  (λ c. (c.action, c.chosen, (c.state, c.low, c.allowed, c.holds, c.fails))),
)

-- ---- leaves

-- the action set that was gathered is the bracket's
with_bracket : (rule : ℕ) → has_bracket rule ≡ true → (2 ≤ rule) × (rule ≤ 3)
unfolding has_bracket
with_bracket zero q = absurd (subst T (sym q) tt)
with_bracket (suc zero) q = absurd (subst T (sym q) tt)
with_bracket (suc (suc zero)) q = (omega arith, omega arith)
with_bracket (suc (suc (suc zero))) q = (omega arith, omega arith)
with_bracket (suc (suc (suc (suc n)))) q = absurd (subst T (sym q) tt)

pub action_set : (f : File) (index : List ℕ) (rule a b : ℕ) (left right : List Leaf) (g : Gathered) → Gathers f index rule a b left right g
    → has_bracket rule ≡ true → g.actions ≡ actions_of_rule f rule a
action_set f index rule a b left right g h q = let w = with_bracket rule q in h.action_set w.0 w.1

module _ (bytes : List ℕ) (index : List ℕ) (k : Known bytes index) (rule a b : ℕ) (left right : List Leaf) (g : Gathered)
    (h : Gathers (decoded bytes) index rule a b left right g) where
  abbrev f : File
  f = decoded bytes

  abbrev xs : List Asked
  xs = left_of f rule a b

  abbrev ys : List Asked
  ys = right_of f rule a b

  one : (c : Action) → CounteredBy bytes (ends_of f.task) left right g c ↔ Refuted f c xs ys
  one c = countered_refuted bytes index k c _ _ xs ys h.basic_left h.basic_right h.left_leaves_are h.right_leaves_are

  some : (x : ℕ) → ((c : Action) × ActionsOf f x c × CounteredBy bytes (ends_of f.task) left right g c) ↔ Counter f (ActionsOf f x) xs ys
  some x =
      Iff.trans ((λ (c, m, w). (c, m, (one c).0 w)), (λ (c, m, w). (c, m, (one c).1 w))) (refuting f (ActionsOf f x) xs ys)

  none : CounteredBy bytes (ends_of f.task) left right g no_action ↔ Counter f (λ c. c ≡ no_action) xs ys
  none =
      Iff.trans
      ((λ w. (no_action, refl, (one no_action).0 w)), (λ (c, m, w). (one no_action).1 (subst (λ (d : Action). Refuted f d xs ys) m w)))
      (refuting f (λ c. c ≡ no_action) xs ys)

  -- by the rule
  by_bracket : (r : ℕ) → (has_bracket r ≡ true → g.actions ≡ actions_of_rule f r a)
      → ByRule bytes (ends_of f.task) left right g r ↔ Counter f (Acts f r a) xs ys
  unfolding has_bracket
  by_bracket zero q = none
  by_bracket (suc zero) q = none
  by_bracket (suc (suc zero)) q =
      subst (λ (x : ℕ). WithBracket bytes (ends_of f.task) left right g true ↔ Counter f (ActionsOf f x) xs ys) (q refl)
      (some g.actions)
  by_bracket (suc (suc (suc zero))) q =
      subst (λ (x : ℕ). WithBracket bytes (ends_of f.task) left right g true ↔ Counter f (ActionsOf f x) xs ys) (q refl)
      (some g.actions)
  by_bracket (suc (suc (suc (suc n)))) q = none

  pub by_rule_lem : (ends : Ends) → ends ≡ ends_of f.task → ByRule bytes ends left right g rule ↔ Counter f (Acts f rule a) xs ys
  by_rule_lem ends e =
      subst (λ (n : Ends). ByRule bytes n left right g rule ↔ Counter f (Acts f rule a) xs ys) (sym e)
      (by_bracket rule (action_set f index rule a b left right g h))

-- That left leaves are clausal holds in one way only, so that a value may carry it. Only the code's inner promises speak of this.
-- Assumes nothing.
use Rattle.std.specs.Prelude.{ℕ, Bool, List, [], ◌∷◌}
use Rattle.std.specs.Coded.{×_prop, Unit-prop}
use Rattle.certificate.specs.declared.Span.{Span}
use Rattle.certificate.specs.declared.BasicEntry.{BasicEntry}
use Rattle.certificate.specs.declared.BasicEntry.TheVariants.{Empty, Init, Goal, Explicit, Horn, TwoCnf}
use Rattle.leaves.specs.declared.Leaf.{Leaf}
use Rattle.leaves.specs.Holds.{Ruled}
use Rattle.propagation.specs.Clauses.{ClausalSet, Usable}

module _ (bytes : List ℕ) (two : Bool) (ruled : (x : Span) → IsProp (Ruled bytes two x)) where
  clausal_prop : (x : BasicEntry) → IsProp (ClausalSet bytes two x)
  clausal_prop Empty = Unit-prop
  clausal_prop Init = Unit-prop
  clausal_prop Goal = Unit-prop
  clausal_prop (Explicit x) = λ p q. absurd p
  clausal_prop (Horn x) = ruled x
  clausal_prop (TwoCnf x) = ruled x

  pub usable_prop : (leaves : List Leaf) → IsProp (Usable bytes leaves two)
  usable_prop [] = Unit-prop
  usable_prop (x ∷ xs) = ×_prop (clausal_prop x.set) (usable_prop xs)

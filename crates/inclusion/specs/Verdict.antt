-- The verdict on a basic statement: whether it is permitted, and then whether it is true.
-- Assumes nothing.
use Rattle.std.specs.Prelude.{ℕ, ◌-◌, Bool, true, false, Result, Ok, Err}
use Rattle.std.proofs.Math.Option.{Option, none, some}
use Rattle.std.proofs.Math.ListN.{get_elem?}
use Rattle.meaning.specs.File.{File}
use Rattle.meaning.specs.Statements.{Statement, statements}
use Rattle.certificate.specs.declared.StepFault.{StepFault}
use Rattle.certificate.specs.declared.StepFault.TheVariants as fault
use Rattle.inclusion.specs.declared.Failure.{Failure}
use Rattle.inclusion.specs.declared.Failure.TheVariants.{Untrue, NotPermitted}

-- that it is permitted and true, or why not
abbrev pub Verdict : Type 0
Verdict = Result (Unit {0}) Failure

-- of a statement that is permitted
unfoldable pub verdict_but : Bool → Verdict
verdict_but true = Err Untrue
verdict_but false = Ok tt

-- the step's fault that a failure is, document 01's 11 and 10
unfoldable pub fault_of : Failure → StepFault
fault_of Untrue = fault.Untrue
fault_of NotPermitted = fault.NotPermitted

-- what a statement says of entries a and b
unfoldable pub verdict_by : Statement → ℕ → ℕ → Verdict
verdict_by x a b =
    elim (x.shape a b) [
      | true ↦ elim (x.holds a b) [ true ↦ Ok tt | false ↦ Err Untrue ]
      | false ↦ Err NotPermitted
    ]

unfoldable pub verdict_or : Option Statement → ℕ → ℕ → Verdict
verdict_or none a b = Err NotPermitted
verdict_or (some x) a b = verdict_by x a b

-- the verdict on rule 1 to 5 at entries a and b
unfoldable pub verdict_of : File → ℕ → ℕ → ℕ → Verdict
verdict_of f rule a b = verdict_or (get_elem? (statements f) (rule - 1)) a b

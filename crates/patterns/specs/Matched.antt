-- What a test of a rule's pattern gives: a pattern that is not matched is document 01's 9.
-- Assumes nothing.
use Rattle.std.specs.Prelude.{Bool, true, false, Result, Ok, Err}
use Rattle.certificate.specs.declared.StepFault.{StepFault}
use Rattle.certificate.specs.declared.StepFault.TheVariants.{NotDerived}

unfoldable pub matched : Bool → Result (Unit {0}) StepFault
matched true = Ok tt
matched false = Err NotDerived

-- The numbers of document 01 for the ways in which a step fails.
-- Assumes nothing.
use Rattle.std.specs.Prelude.{ℕ}
use Rattle.certificate.specs.declared.StepFault.{StepFault}
use Rattle.certificate.specs.declared.StepFault.TheVariants.{IllFormed, NotDerived, NotPermitted, Untrue}

unfoldable pub number_of : StepFault → ℕ
number_of IllFormed = 8
number_of NotDerived = 9
number_of NotPermitted = 10
number_of Untrue = 11

-- `u8::from` of a fault meets its contract: the variants stand in the order of their numbers, from 8 on.
-- Assumes nothing.
use Rattle.std.specs.Prelude.{◌≡◌, ◌+◌}
use Rattle.std.proofs.Common.{refl}
use denote.Enum.Declared.{tag_of}
use Rattle.certificate.specs.declared.StepFault.{StepFault}
use Rattle.certificate.specs.declared.StepFault.TheVariants.{IllFormed, NotDerived, NotPermitted, Untrue}
use Rattle.certificate.specs.contracts.StepFault as faults
use Rattle.certificate.specs.Faults.{number_of}
use Rattle.certificate.proofs.U8FromStepFault.from.Goals as goal

numbered : (fault : StepFault) → tag_of faults.the_type fault + 8 ≡ number_of fault
unfolding number_of
numbered IllFormed = refl
numbered NotDerived = refl
numbered NotPermitted = refl
numbered Untrue = refl

pub returns : goal.returns
returns c = numbered c.args.fault

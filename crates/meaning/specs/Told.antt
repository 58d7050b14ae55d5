-- A reading as the code answers it: an error is the refusal's number and place.
-- Assumes nothing.
use Rattle.std.specs.declared.result.Result as code
use Rattle.std.specs.declared.result.Result.TheVariants.{Ok, Err}
use Rattle.meaning.specs.declared.Fault.{Fault}
use Rattle.meaning.specs.Result.{Result, refuse, found}

abbrev pub told : {A B : Type 0} → (A → B) → Result A → code.Result B Fault
told make (refuse r p) = Err (record { number = r; place = p })
told make (found a) = Ok (make a)

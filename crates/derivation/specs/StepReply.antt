-- What the code finds of one step, and what that says by document 01.
-- Assumes nothing.
use Rattle.std.specs.Prelude.{ℕ, map, Result, Ok, Err}
use Rattle.meaning.specs.Result as document
use Rattle.meaning.specs.Result.{refuse, found}
use Rattle.meaning.specs.File.{File}
use Rattle.certificate.specs.declared.Step as code
use Rattle.certificate.specs.Views.{premise_list, judgement_at}
use Rattle.certificate.specs.Faults.{number_of}
use Rattle.rules.specs.Derives.{by_rule}
use Rattle.inclusion.specs.Verdict.{Verdict, fault_of}
use Rattle.certificate.specs.declared.StepFault.{StepFault}

-- of step i: it passed, or it is refused with the fault's number, at the step
unfoldable pub outcome : ℕ → Result (Unit {0}) StepFault → document.Result (Unit {0})
outcome i (Ok u) = found u
outcome i (Err fault) = refuse (number_of fault) i

-- what a step by a rule of 6 to 28 gives, from what it and its premises say
abbrev pub rule_reply : File → ℕ → code.Step → Result (Unit {0}) StepFault
rule_reply f rule s = by_rule f rule s.judgement (map (judgement_at f) (premise_list s.premises))

-- document 01 has 10 for a shape that is not permitted and 11 for what is untrue
unfoldable pub verdict_reply : Verdict → Result (Unit {0}) StepFault
verdict_reply (Ok u) = Ok tt
verdict_reply (Err failure) = Err (fault_of failure)

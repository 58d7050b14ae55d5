-- A step is derived by its rule where the judgement that it holds follows from its premises'.
-- Assumes nothing.
use mathlib.Core.Path.{◌≡◌, ap, ◌∙◌}
use Prim.Native.Nat.{ℕ, ◌≤◌}
use mathlib.Core.Bool.{true}
use mathlib.Core.List.{[], ◌∷◌}
use lib.Dec.{ltb}
use Rattle.certificate.specs.declared.Judgement.{Judgement}
use Rattle.certificate.specs.declared.Step as code
use Rattle.std.specs.Prelude.{Result}
use Rattle.certificate.specs.declared.StepFault.{StepFault}
use Rattle.meaning.specs.File.{File}
use Rattle.certificate.specs.Views.{judgement_at}
use Rattle.numbers.specs.Numbers.{premises_of}
use Rattle.patterns.specs.Matched.{matched}
use Rattle.rules.specs.Derives.{rule_numbered, by_rule}
use Rattle.rules.proofs.Dispatch.{read_premises}
use Rattle.derivation.specs.StepReply.{rule_reply}
use Rattle.formed.proofs.StepLaws.{derivation_premises}

-- from the answer of the rule's own function, which was given as many premises as the rule has
pub derived_by : (f : File) (rule : ℕ) (s : code.Step) {n : ℕ} {p q o : Judgement} {r : Result (Unit {0}) StepFault} → (6 ≤ rule) × (rule ≤ 28)
    → n ≡ premises_of rule
    → (ltb 0 n ≡ true → p ≡ judgement_at f s.premises.first)
    → (ltb 1 n ≡ true → q ≡ judgement_at f s.premises.second)
    → (ltb 2 n ≡ true → o ≡ judgement_at f s.premises.third)
    → r ≡ by_rule f rule s.judgement (p ∷ q ∷ o ∷ [])
    → r ≡ rule_reply f rule s
derived_by f rule s b m hp hq ho h =
    h ∙ ap matched (read_premises f (rule_numbered rule) s.judgement (m ∙ derivation_premises f rule b.0 b.1) hp hq ho)

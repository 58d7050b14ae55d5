-- When a step is derived by a rule, as one test; and the same of judgements as values, each with the entries it is about.
-- Assumes nothing.
use Rattle.std.specs.Prelude.{ℕ, ◌-◌, Bool, true, false, List, [], ◌∷◌, get_or, Result}
use Rattle.std.proofs.Math.Option.{Option, none, some}
use Rattle.certificate.specs.declared.StepFault.{StepFault}
use Rattle.certificate.specs.declared.Judgement.{Judgement}
use Rattle.certificate.specs.declared.Judgement.TheVariants.{Dead, Within, ActionsWithin, Unsolvable}
use Rattle.meaning.specs.File.{Step, File}
use Rattle.meaning.specs.Rules.{Rule, ◌⊢◌, Pattern, dead, O, rules}
use Rattle.meaning.specs.Match.{Letters, no_letters, ◌then◌, match_step, match_premises}
use Rattle.patterns.specs.Matched.{matched}

unfoldable pub is_some : {X : Type 0} → Option X → Bool
is_some none = false
is_some (some x) = true

-- the rule with a number, 6 to 28; another value stands where the number is above
unfoldable pub rule_numbered : ℕ → Rule
rule_numbered n = get_or rules (n - 6) ([] ⊢ dead O)

-- a judgement's number in the file, and its entries; 0 where it has none
unfoldable pub kind_said : Judgement → ℕ
kind_said (Dead a) = 0
kind_said (Within a b) = 1
kind_said (ActionsWithin a b) = 2
kind_said Unsolvable = 3

unfoldable pub left_said : Judgement → ℕ
left_said (Dead a) = a
left_said (Within a b) = a
left_said (ActionsWithin a b) = a
left_said Unsolvable = 0

unfoldable pub right_said : Judgement → ℕ
right_said (Dead a) = 0
right_said (Within a b) = b
right_said (ActionsWithin a b) = b
right_said Unsolvable = 0

-- a step that says this
unfoldable pub saying : Judgement → Step
saying j = record { rule = 0; kind = kind_said j; left = left_said j; right = right_said j; premises = [] }

module _ (f : File) where
  -- the conclusion matches the step, and then the premises match the steps that it names
  unfoldable pub derives : Rule → Step → Bool
  derives (ps ⊢ c) s = is_some (match_step f c s no_letters then match_premises f ps s.premises)

  unfoldable pub match_said : List Pattern → List Judgement → Letters → Option Letters
  match_said [] js σ = some σ
  match_said (p ∷ ps) [] σ = none
  match_said (p ∷ ps) (j ∷ js) σ = match_step f p (saying j) σ then match_said ps js

  -- a judgement follows from others by a rule
  unfoldable pub follows : Rule → Judgement → List Judgement → Bool
  follows (ps ⊢ c) j js = is_some (match_step f c (saying j) no_letters then match_said ps js)

  -- what the test of rule n's pattern gives, of what a step and its premises say
  abbrev pub by_rule : ℕ → Judgement → List Judgement → Result (Unit {0}) StepFault
  by_rule n j js = matched (follows (rule_numbered n) j js)

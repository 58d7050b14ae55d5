-- The conditions of reply 8 as one test: the rule is known and the step is well formed under it.
-- Assumes nothing.
use Rattle.std.specs.Prelude.{ℕ, ◌<◌, ◌≡◌, Bool, true, false, ◌&&◌, List, ltb, length}
use Rattle.std.proofs.Math.Option.{Option, none, some}
use Rattle.meaning.specs.File.{Step, File, step_at}
use Rattle.meaning.specs.Step.{Check, judgement_kind, premise_count, rule_at, well_formed}
use Rattle.certificate.specs.declared.Places.{Places}
use Rattle.certificate.specs.declared.Step as code
use Rattle.certificate.specs.declared.Judgement.{Judgement}
use Rattle.certificate.specs.declared.Judgement.TheVariants.{Dead, Within, ActionsWithin, Unsolvable}
use Rattle.certificate.specs.Views.{step_of}
use Rattle.certificate.specs.Known.{Placed, decoded}

module _ (f : File) where
  -- the entries that a judgement is about are in the file
  unfoldable pub entries_in : Judgement → Bool
  entries_in (Dead a) = ltb a (length f.state_sets)
  entries_in (Within a b) = ltb a (length f.state_sets) && ltb b (length f.state_sets)
  entries_in (ActionsWithin a b) = ltb a (length f.action_sets) && ltb b (length f.action_sets)
  entries_in Unsolvable = true

  unfoldable pub formed_under : ℕ → Step → Option Check → Bool
  formed_under i s none = false
  formed_under i s (some r) = well_formed f i s (judgement_kind r) (premise_count r)

  -- step i passes 8
  unfoldable pub formed : ℕ → Step → Bool
  formed i s = formed_under i s (rule_at f s.rule)

-- s is step k of a file that was read
pub record IsStep (bytes : List ℕ) (at : Places) (k : ℕ) (s : code.Step) : Type 0 where
  pub placed : Placed bytes at
  pub below : k < at.steps
  pub value : s ≡ step_of (step_at (decoded bytes) k)

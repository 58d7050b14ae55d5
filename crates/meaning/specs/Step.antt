-- The check of one step: replies 8 to 11.
-- Assumes nothing.
use Rattle.std.specs.Prelude.{ℕ, zero, suc, Bool, ◌&&◌, List, ◌++◌, map, length, take, drop, ltb, eqb}
use Rattle.std.proofs.Math.Option.{Option, none}
use Rattle.std.proofs.Math.ListN.{get_elem?}
use Rattle.task.specs.Reach.{every}
use Rattle.meaning.specs.Result.{Result, found, ◌>>=◌, need, known}
use Rattle.meaning.specs.File.{Step, File}
use Rattle.meaning.specs.Statements.{Statement, statements}
use Rattle.meaning.specs.Rules.{Rule, ◌⊢◌, rules, pattern_kind}
use Rattle.meaning.specs.Match.{no_letters, match_step, match_premises}

-- what a rule number stands for: a basic statement or a derivation
pub data Check : Type 0 where
  statement : Statement → Check
  derivation : Rule → Check

unfoldable pub judgement_kind : Check → ℕ
judgement_kind (statement b) = b.kind
judgement_kind (derivation (ps ⊢ c)) = pattern_kind c

unfoldable pub premise_count : Check → ℕ
premise_count (statement b) = 0
premise_count (derivation (ps ⊢ c)) = length ps

module _ (f : File) where
  -- the rules 1 to 28
  unfoldable pub all_rules : List Check
  all_rules = map statement (statements f) ++ map derivation rules

  unfoldable pub rule_at : ℕ → Option Check
  rule_at zero = none
  rule_at (suc k) = get_elem? all_rules k

  -- the entries that a judgement of kind j is about are in the file, and unused places are zero
  unfoldable pub entries_fit : ℕ → ℕ → ℕ → Bool
  entries_fit zero a b = ltb a (length f.state_sets) && eqb b 0
  entries_fit (suc zero) a b = ltb a (length f.state_sets) && ltb b (length f.state_sets)
  entries_fit (suc (suc zero)) a b = ltb a (length f.action_sets) && ltb b (length f.action_sets)
  entries_fit (suc (suc (suc j))) a b = eqb a 0 && eqb b 0

  -- step i is well formed under a rule with judgement kind j and k premises, which are earlier steps
  unfoldable pub well_formed : ℕ → Step → ℕ → ℕ → Bool
  well_formed i s j k =
      eqb s.kind j && entries_fit j s.left s.right
      && every (λ p. ltb p i) (take k s.premises) && every (λ p. eqb p 0) (drop k s.premises)

  -- a basic statement by its shape and its truth, a derivation by its rule's pattern
  unfoldable pub check_by : ℕ → Step → Check → Result (Unit {0})
  check_by i s (statement b) = do
    _ ← need (b.shape s.left s.right) 10 i
    need (b.holds s.left s.right) 11 i
  check_by i s (derivation (ps ⊢ c)) = do
    σ ← known (match_step f c s no_letters) 9 i
    _ ← known (match_premises f ps s.premises σ) 9 i
    found tt

  unfoldable pub check_step : ℕ → Step → Result (Unit {0})
  check_step i s = do
    r ← known (rule_at s.rule) 8 i
    _ ← need (well_formed i s (judgement_kind r) (premise_count r)) 8 i
    check_by i s r

-- The rule that a clause in the file passes, by its kind.
-- Assumes nothing.
use Rattle.std.specs.Prelude.{ℕ, Bool, true, false}
use Rattle.meaning.specs.Layout.{horn_rule, two_cnf_rule}

-- the rule of two-literal clauses, or of Horn clauses
unfoldable pub clause_rule : Bool → ℕ → ℕ → Bool
clause_rule true = two_cnf_rule
clause_rule false = horn_rule

-- Each rule's premise count and judgement kind, by its number.
-- Assumes nothing.
use Rattle.std.specs.Prelude.{ℕ, List, [], ◌∷◌, get_or}

-- of 0, which is no rule, and of the rules 1 to 28: how many premises and which judgement kind
unfoldable pub rule_table : List (ℕ × ℕ)
rule_table =
    (0, 0) ∷ (0, 1) ∷ (0, 1) ∷ (0, 1) ∷ (0, 1) ∷ (0, 2)
    ∷ (0, 0) ∷ (2, 0) ∷ (2, 0) ∷ (3, 0) ∷ (3, 0) ∷ (3, 0) ∷ (3, 0) ∷ (1, 3) ∷ (1, 3)
    ∷ (0, 1) ∷ (0, 1) ∷ (0, 1) ∷ (0, 1) ∷ (0, 1) ∷ (2, 1) ∷ (2, 1) ∷ (2, 1) ∷ (2, 1) ∷ (2, 1) ∷ (2, 1) ∷ (2, 1) ∷ (1, 1) ∷ (1, 1) ∷ []

-- 0 where a number names no rule
unfoldable pub premises_of : ℕ → ℕ
premises_of n = (get_or rule_table n (0, 0)).0

unfoldable pub judgement_kind_of : ℕ → ℕ
judgement_kind_of n = (get_or rule_table n (0, 0)).1

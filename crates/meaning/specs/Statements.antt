-- The basic statements, rules 1 to 5.
-- Assumes nothing.
use Rattle.std.specs.Prelude.{ℕ, Bool, true, List, [], ◌∷◌}
use Rattle.meaning.specs.File.{File}
use Rattle.meaning.specs.Sets.{states_within, actions_within}
use Rattle.meaning.specs.Shapes.{shape₁, shape₂, shape₃, shape₄}

-- the judgement kind, which two entries have a permitted shape, and whether what is said of them is true
pub record Statement : Type 0 where
  pub kind : ℕ
  pub shape : ℕ → ℕ → Bool
  pub holds : ℕ → ℕ → Bool

-- B1 to B5
unfoldable pub statements : File → List Statement
statements f =
    record { kind = 1; shape = shape₁ f; holds = states_within f }
    ∷ record { kind = 1; shape = shape₂ f; holds = states_within f }
    ∷ record { kind = 1; shape = shape₃ f; holds = states_within f }
    ∷ record { kind = 1; shape = shape₄ f; holds = states_within f }
    ∷ record { kind = 2; shape = λ a b. true; holds = actions_within f }
    ∷ []

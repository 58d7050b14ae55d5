-- The certificate that lists states: the sample's entries and eight steps, with set 3 as given.
-- Assumes nothing.
use Rattle.std.specs.Prelude.{ℕ, List, [], ◌∷◌}
use Rattle.meaning.specs.File.{ActionSet, all, StateSet, basic, empty, init, goal, explicit, progression, union, intersection, Step}
use Rattle.meaning.specs.Writing.{write_certificate}

abbrev pub step_of : ℕ → ℕ → ℕ → ℕ → ℕ → ℕ → ℕ → Step
step_of rule kind a b p q r = record { rule = rule; kind = kind; left = a; right = b; premises = p ∷ q ∷ r ∷ [] }

abbrev pub the_action_sets : List ActionSet
the_action_sets = all ∷ []

abbrev pub the_state_sets : List ℕ → List StateSet
the_state_sets ss =
    basic empty ∷ basic init ∷ basic goal ∷ basic (explicit ss) ∷ progression 3 0 ∷ union 3 0 ∷ intersection 3 2 ∷ []

abbrev pub the_steps : List Step
the_steps =
    step_of 6 0 0 0 0 0 0  -- 0 ED 0
    ∷ step_of 2 1 4 5 0 0 0  -- 1 B2 4<5
    ∷ step_of 1 1 6 0 0 0 0  -- 2 B1 6<0
    ∷ step_of 8 0 6 0 2 0 0  -- 3 SD 6 (2, 0)
    ∷ step_of 9 0 3 0 1 0 3  -- 4 PG 3 (1, 0, 3)
    ∷ step_of 1 1 1 3 0 0 0  -- 5 B1 1<3
    ∷ step_of 8 0 1 0 5 4 0  -- 6 SD 1 (5, 4)
    ∷ step_of 13 3 0 0 6 0 0  -- 7 CI (6)
    ∷ []

unfoldable pub certificate_of : List ℕ → List ℕ
certificate_of ss = write_certificate the_action_sets (the_state_sets ss) the_steps

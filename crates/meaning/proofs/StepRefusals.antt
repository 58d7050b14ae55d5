-- The numbers of refusals that do not come from the layout: 8 to 11 of a step, 12 of all steps, and 18 of a caller's list.
-- Assumes nothing.
use mathlib.Core.Path.{◌≡◌, refl}
use Prim.Native.Nat.{ℕ, suc, ◌≤◌}
use native.Mathlib.Omega.{arith}
use mathlib.Core.Bool.{◌&&◌}
use mathlib.Core.List.{List, [], ◌∷◌, ◌++◌}
use lib.ListN.{length}
use lib.Dec.{T, leb, ltb, leb→le}
use Rattle.meaning.specs.File.{Step, File}
use Rattle.meaning.specs.Rules.{◌⊢◌}
use Rattle.meaning.specs.Step.{Check, statement, derivation, check_by, check_step}
use Rattle.meaning.specs.Reply.{check_steps, check_from, check_file}
use Rattle.meaning.specs.Numbering.{check_unused, check_numbers}
use Rattle.meaning.specs.Rounds.{hand_back}
use Rattle.meaning.proofs.Results.{and_out}
use Rattle.meaning.proofs.Numbered.{given, Numbered, then_ok, need_ok, known_ok, either_ok, widen, forget}

-- ---- one step, 8 to 11 at its number

abbrev pub OfStep : ℕ → ℕ → ℕ → Type 0
OfStep i r p = (8 ≤ r) × (r ≤ 11) × (p ≡ i)

module _ (f : File) (i : ℕ) where
  of_step : (r : ℕ) → T (leb 8 r && leb r 11) → OfStep i r i
  of_step r t = let b = and_out (leb 8 r) (leb r 11) t in (leb→le 8 r b.0, leb→le r 11 b.1, refl)

  by_ok : (s : Step) (c : Check) → Numbered (OfStep i) (check_by f i s c)
  unfolding check_by
  by_ok s (statement b) = then_ok (need_ok _ 10 i (of_step 10 tt)) (λ _ _. forget (need_ok _ 11 i (of_step 11 tt)))
  by_ok s (derivation (ps ⊢ c)) =
      then_ok (known_ok _ 9 i (of_step 9 tt)) (λ _ _. then_ok (known_ok _ 9 i (of_step 9 tt)) (λ _ _. given tt))

  pub step_ok : (s : Step) → Numbered (OfStep i) (check_step f i s)
  unfolding check_step
  step_ok s = then_ok (known_ok _ 8 i (of_step 8 tt)) (λ r _. then_ok (need_ok _ 8 i (of_step 8 tt)) (λ _ _. by_ok s r))

-- ---- the steps, 8 to 12

abbrev pub OfSteps : ℕ → ℕ → Type 0
OfSteps r p = (8 ≤ r) × (r ≤ 12)

of_steps : (r : ℕ) → T (leb 8 r && leb r 12) → (8 ≤ r) × (r ≤ 12)
of_steps r t = let b = and_out (leb 8 r) (leb r 12) t in (leb→le 8 r b.0, leb→le r 12 b.1)

module _ (f : File) where
  pub steps_ok : (i : ℕ) (ss : List Step) → Numbered OfSteps (check_steps f i ss)
  unfolding check_steps
  steps_ok i [] = given tt
  steps_ok i (s ∷ ss) = then_ok (widen (λ r p h. (h.0, (let l = h.1 in omega arith))) (step_ok f i s)) (λ _ _. steps_ok (suc i) ss)

  pub check_ok : Numbered OfSteps (check_file f)
  unfolding check_file check_from
  check_ok = then_ok (steps_ok 0 _) (λ _ _. forget (need_ok _ 12 _ (of_steps 12 tt)))

  pub hand_back_ok : (n : ℕ) → Numbered OfSteps (hand_back f n)
  unfolding hand_back
  hand_back_ok n = either_ok (ltb n (length f.steps)) (given tt) (then_ok (need_ok _ 12 _ (of_steps 12 tt)) (λ _ _. given tt))

-- ---- a caller's list, 18

module _ (ok : ℕ → ℕ → Type 0) (h : (p : ℕ) → ok 18 p) where
  unused_ok : (earlier xs : List ℕ) → Numbered ok (check_unused earlier xs)
  unfolding check_unused
  unused_ok earlier [] = given tt
  unused_ok earlier (x ∷ xs) = then_ok (need_ok _ 18 _ (h _)) (λ _ _. unused_ok (earlier ++ x ∷ []) xs)

  pub numbers_ok : (numbers : List ℕ) → Numbered ok (check_numbers numbers)
  unfolding check_numbers
  numbers_ok numbers = then_ok (need_ok _ 18 _ (h _)) (λ _ _. unused_ok [] numbers)

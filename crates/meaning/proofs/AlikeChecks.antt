-- What is said of a file does not depend on its version, nor on how its explicit sets list their states: its checks, whole and in rounds,
-- and its questions.
-- Assumes nothing.
use mathlib.Core.Path.{◌≡◌, refl, ap, ◌∙◌}
use Prim.Native.Nat.{ℕ}
use mathlib.Core.List.{List, map}
use Rattle.meaning.specs.File.{StateSet, File, step_at}
use Rattle.meaning.specs.Sets.{in_set}
use Rattle.meaning.specs.Reply.{check_steps, check_from, check_file}
use Rattle.meaning.specs.Numbering.{with_rule, rewritten}
use Rattle.meaning.specs.Question.{askable}
use Rattle.meaning.specs.Rounds.{hand_back, check_round}
use Rattle.meaning.proofs.Alike.{AlikeSets, Alike}
use Rattle.meaning.proofs.AlikeSteps.{ext₂, varied, in_same, ask_same, steps_checked}

-- it is enough to look at files with the same other parts
by_sets : {R : Type 0} (said : File → R)
    → ((v : ℕ) (g : File) (xs : List StateSet) → AlikeSets xs g.state_sets → said (varied v g xs g.steps) ≡ said g)
    → (f g : File) → Alike f g → said f ≡ said g
by_sets said h f g a =
    ap said
    (λ i. record {
      version = f.version;
      task = a.task i;
      action_sets = a.action_sets_hold i;
      state_sets = f.state_sets;
      steps = a.steps i;
    })
    ∙ h f.version g f.state_sets a.state_sets_hold

steps_same : (v : ℕ) (g : File) (xs : List StateSet) → AlikeSets xs g.state_sets → check_steps (varied v g xs g.steps) ≡ check_steps g
unfolding step_at
steps_same v g xs h = ext₂ (steps_checked v g xs g.steps h (λ k. refl))

pub alike_from : (f g : File) → Alike f g → (from : ℕ) → check_from f from ≡ check_from g from
unfolding check_from step_at
alike_from f g a from = by_sets (λ x. check_from x from) (λ v g xs h. rw (steps_same v g xs h)) f g a

pub alike_check : (f g : File) → Alike f g → check_file f ≡ check_file g
unfolding check_file
alike_check f g a = alike_from f g a 0

pub alike_round : (f g : File) → Alike f g → (from count : ℕ) → check_round f from count ≡ check_round g from count
unfolding check_round hand_back step_at
alike_round f g a from count = by_sets (λ x. check_round x from count) (λ v g xs h. rw (steps_same v g xs h)) f g a

pub alike_askable : (f g : File) → Alike f g → (e s : ℕ) → askable f e s ≡ askable g e s
alike_askable f g a e s = by_sets (λ x. askable x e s) (λ v g xs h. rw (ask_same v g xs g.steps h)) f g a

pub alike_holds : (f g : File) → Alike f g → (e s : ℕ) → in_set f e s ≡ in_set g e s
alike_holds f g a e s = by_sets (λ x. in_set x e s) (λ v g xs h. rw (in_same v g xs g.steps h)) f g a

-- with their rules rewritten alike files stay alike
pub alike_rewritten : (to : ℕ → ℕ) (f g : File) → Alike f g → Alike (rewritten to f) (rewritten to g)
unfolding rewritten
alike_rewritten to f g a = record {
  task = a.task;
  action_sets_hold = a.action_sets_hold;
  state_sets_hold = a.state_sets_hold;
  steps = ap (map (λ s. with_rule (to s.rule) s)) a.steps;
}

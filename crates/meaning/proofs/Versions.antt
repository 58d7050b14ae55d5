-- Files of versions 1 and 2: each is read as its document says; in version 1 the one initial state is the start, and kind 1 gives leave.
-- Where no fact is needed off, the one mask of an action or of the goal tells, and where a fact is in both masks, none is met.
-- Assumes nothing.
use mathlib.Core.Path.{◌≡◌, refl, ap, ◌∙◌, fun_ext}
use Prim.Native.Nat.{ℕ, ◌+◌}
use native.Mathlib.Nat.{sub-zero}
use mathlib.Core.Bool.{Bool, true, false, ◌&&◌}
use mathlib.Core.List.{List}
use lib.Dec.{T, eqb}
use lib.Bits.{bit_and, and_zero_r}
use Rattle.task.specs.Facts.{all_on, all_off, without, ones_in}
use Rattle.task.specs.Task.{Task, is_init, is_goal, applies}
use Rattle.task.specs.declared.Action.{Action}
use Rattle.task.proofs.Tests.{is_true, is_false}
use Rattle.task.proofs.Names.{applies_never, goal_never, goal_everywhere}
use Rattle.meaning.specs.Result.{Result, found, ◌>>=◌, need}
use Rattle.meaning.specs.Bytes.{number, inside}
use Rattle.meaning.specs.File.{File}
use Rattle.meaning.specs.Layout.{items, goal_at, off_size, action_count_at, action_size, after_actions, field, mask, action}
use Rattle.meaning.specs.Layout.{unknown_mask, off_mask, read_task}
use Rattle.meaning.specs.Shapes.{lists_init}
use Rattle.meaning.specs.Versions.{action₁, read_task₁, read_task₂}
use Rattle.meaning.specs.Points.{VersionOne, VersionTwo, NeededBothWays}
use Rattle.meaning.proofs.Results.{bind_in, bind_same, bind_assoc}
use Rattle.meaning.proofs.Off.{read_no_off}
use Rattle.meaning.proofs.Numbered.{Yields, given, then_ok, then_same, need_ok}

-- ---- how they are read

-- the version, where it can be read
version_read : (bytes : List ℕ) (v : ℕ) → number 1 bytes 4 ≡ v → Yields (λ _ _. Unit {0}) (λ x. x ≡ v) (field bytes 1 4)
unfolding field
version_read bytes v e = then_ok (need_ok (inside 1 bytes 4) 3 4 tt) λ _ _. given e

task_one : (bytes : List ℕ) → number 1 bytes 4 ≡ 1 → read_task bytes ≡ read_task₁ bytes
unfolding read_task read_task₁ action action₁ unknown_mask off_mask goal_at off_size action_count_at action_size after_actions ◌>>=◌
task_one bytes e = then_same (version_read bytes 1 e) refl λ v i. rw i

after_found : {A B : Type 0} {r : Result A} {x : A} (g : A → Result B) → r ≡ found x → (r >>= g) ≡ g x
unfolding ◌>>=◌
after_found {A} g e = ap (λ (s : Result A). s >>= g) e

action_two : (bytes : List ℕ) (n p : ℕ) → action bytes 2 n p ≡ action₁ bytes n p
unfolding action action₁
action_two bytes n p =
    bind_same refl λ a. bind_same refl λ b. bind_same refl λ c. bind_in _ (read_no_off bytes 2 n (p + 24) refl) refl

task_two : (bytes : List ℕ) → number 1 bytes 4 ≡ 2 → read_task bytes ≡ read_task₂ bytes
unfolding read_task read_task₂ unknown_mask goal_at off_size action_count_at action_size after_actions
task_two bytes e =
    then_same (version_read bytes 2 e) refl λ v i. rw i
    (bind_same refl λ _.
    bind_same refl λ n.
    bind_same refl λ _.
    bind_same refl λ s.
    bind_assoc (mask bytes n 14) _ _ ∙ bind_same refl λ u.
    bind_assoc (need (eqb (bit_and s u) 0) 16 14) _ _ ∙ bind_same refl λ _.
    after_found _ refl ∙ bind_same refl λ g.
    after_found _ (read_no_off bytes 2 n 30 refl) ∙ bind_same refl λ m.
    bind_same (ap (λ (r : ℕ → Result Action). items r 24 32 m) (fun_ext (action_two bytes n))) λ _. refl)

-- ---- no unknown facts

start_one : (t : Task) → t.unknown ≡ 0 → (s : ℕ) → is_init t s ≡ eqb s t.init
unfolding is_init without
start_one t e s = rw (e, and_zero_r s, and_zero_r t.init, sub-zero s, sub-zero t.init)

leave_one : (f : File) → f.task.unknown ≡ 0 → T (lists_init f)
unfolding lists_init ones_in
leave_one f e = rw e tt

pub version_one : VersionOne
version_one = (task_one, start_one, leave_one)

-- ---- no fact is needed off

and_true : (b : Bool) → (b && true) ≡ b
and_true true = refl
and_true false = refl

-- of no fact each is off
no_facts_off : (b : Bool) (s : ℕ) → (b && all_off 0 s) ≡ b
unfolding all_off
no_facts_off b s = rw (and_zero_r s) (and_true b)

pub version_two : VersionTwo
unfolding applies is_goal
version_two = (
  task_two,
  (λ a e s. rw e (no_facts_off (all_on a.pre s) s)),
  (λ t e s. rw e (no_facts_off (all_on t.goal s) s)),
)

-- ---- a fact that is needed on and off

pub needed_both_ways : NeededBothWays
needed_both_ways = (
  (λ a l s. is_false (applies a s) (applies_never a s l)),
  (λ t l s. is_false (is_goal t s) (goal_never t s l)),
  (λ t z w s. is_true (is_goal t s) (goal_everywhere t s z w)),
)

-- A safe task with no more states within reach than a check's limits allow has a certificate: the sample's, with those states listed.
-- Assumes nothing.
use mathlib.Core.Path.{◌≡◌, refl, sym, ap, ◌∙◌, subst}
use mathlib.Core.Logic.{◌↔◌}
use Prim.Native.Nat.{ℕ, suc, ◌+◌, ◌*◌, ◌^◌, ◌≤◌, ◌<◌}
use native.Mathlib.Nat.{le_trans, mul-le-mul_right}
use native.Mathlib.Omega.{arith}
use mathlib.Core.Bool.{false, ◌&&◌, ◌||◌}
use mathlib.Core.List.{List, [], ◌∷◌}
use lib.ListN.{length, length-append}
use lib.Dec.{T, eqb, leb, ltb, le→leb}
use Rattle.task.specs.Facts.{ones_in}
use Rattle.task.specs.Task.{Task, action_at, is_init, is_goal}
use Rattle.task.specs.Reach.{member, Unsolvable, Reachable}
use Rattle.task.proofs.Tests.{and_left, and_right, or_left, never, member_first, member_rest}
use Rattle.task.proofs.Moves.{Bounded, applied, reach_init, reach_next, reach_lt, reach_safe, safe_unsolvable}
use Rattle.task.proofs.Closure.{reachable_list}
use Rattle.task.proofs.Initial.{few_unknown_facts, no_more}
use Rattle.meaning.specs.Result.{found, ◌>>=◌, need}
use Rattle.meaning.specs.Bytes.{bytes_of, number}
use Rattle.meaning.specs.File.{File, step_at}
use Rattle.meaning.specs.declared.Limits.{Limits}
use Rattle.meaning.specs.Limits.{full, small}
use Rattle.meaning.specs.Layout.{action_size, read_within, read_file}
use Rattle.meaning.specs.Writing.{AllFrom, FitsCertificate, FitsStep, each, write_entry, action_body, basic_body, state_body}
use Rattle.meaning.specs.Writing.{write_action_set, write_state_set, write_step, counted, file_of, write_certificate, listed_states, Allowed, Lawful}
use Rattle.meaning.proofs.Results.{bind_in, need_in, found_same}
use Rattle.meaning.proofs.Reading.{file_read, task_read, task_fits}
use Rattle.meaning.proofs.Places.{places, after_actions_lem}
use Rattle.meaning.proofs.Prefix.{lawful_reads}
use Rattle.meaning.proofs.Numbers.{length_bytes_of}
use Rattle.meaning.proofs.Suffix.{length_file}
use Rattle.meaning.proofs.Back.{length_each}
use Rattle.meaning.proofs.Written.{anything, certificate_reads}
use Rattle.meaning.proofs.WrittenBytes.{certificate_bytes}
use Rattle.meaning.specs.Sets.{in_set, progressed, states_within}
use Rattle.meaning.proofs.Sets.{within, progression_iff}
use Rattle.meaning.proofs.TaskBounds.{fits_bounded}
use Rattle.meaning.specs.Step.{check_step}
use Rattle.meaning.specs.declared.Reply.TheVariants.{Accepted}
use Rattle.meaning.specs.Reply.{check_steps, check_from, check_file, reply_to, reply_of}
use Rattle.meaning.specs.Certain.{step_of, the_action_sets, the_state_sets, the_steps, certificate_of}
use Rattle.meaning.specs.Small.{reply_within, reply_small}
use Rattle.meaning.specs.Points.{Certifies, SafeIsAccepted, CertifiesByList, CertainCertificate, CertainLength}
use Rattle.meaning.specs.Points.{SmallSafeIsAccepted, SmallCertainCertificate}
use Rattle.meaning.proofs.Computed.{computed}
use Rattle.meaning.proofs.Judgements.{accepted_is_safe}
use Rattle.meaning.proofs.Limited.{accepted_full}

abbrev the_file : ℕ → Task → List ℕ → File
the_file v t ss = record { version = v; task = t; action_sets = the_action_sets; state_sets = the_state_sets ss; steps = the_steps }

-- ---- its three basic statements are true

module _ (v : ℕ) (t : Task) (ss : List ℕ) (lists : (s : ℕ) → T (member s ss) ↔ Reachable t s) (few : length ss ≤ 2 ^ 12)
    (safe : Unsolvable t) where
  abbrev f : File
  f = the_file v t ss

  -- the sets by their numbers
  set_1 : in_set f 1 ≡ is_init t
  unfolding computed
  set_1 = refl

  set_3 : in_set f 3 ≡ (λ s. member s ss)
  unfolding computed
  set_3 = refl

  set_4 : in_set f 4 ≡ progressed t (λ s. member s ss) (λ i. ltb i (length t.actions))
  unfolding computed
  set_4 = refl

  set_5 : in_set f 5 ≡ (λ s. member s ss || false)
  unfolding computed
  set_5 = refl

  set_6 : in_set f 6 ≡ (λ s. member s ss && is_goal t s)
  unfolding computed
  set_6 = refl

  -- 1 < 3
  init_listed : T (states_within f 1 3)
  init_listed = (within f 1 3).1 (λ s x. rw set_3 ((lists s.0).1 (reach_init t s.0 (rw set_1 at x))))

  -- 6 < 0
  no_goal : T (states_within f 6 0)
  no_goal =
      (within f 6 0).1 (λ s x.
      let y : T (member s.0 ss && is_goal t s.0) = rw set_6 at x in
      absurd (never (is_goal t s.0) (and_right (member s.0 ss) (is_goal t s.0) y)
      (reach_safe t safe s.0 ((lists s.0).0 (and_left (member s.0 ss) (is_goal t s.0) y)))))

  -- 4 < 5
  closed : T (states_within f 4 5)
  closed =
      (within f 4 5).1 (λ s x.
      let (u, a, m, c, v) = (progression_iff t (λ y. member y ss) (λ i. ltb i (length t.actions)) s).1 (rw set_4 at x) in
      rw set_5 (or_left (member s.0 ss) false
      ((lists s.0).1 (subst (Reachable t) (applied (action_at t a.0) u.0 v.0 ∙ v.1)
      (reach_next t u.0 ((lists u.0).0 m) a.0 a.1)))))

  -- ---- its steps pass
  pass_1 : check_step f 1 (step_of 2 1 4 5 0 0 0) ≡ need (states_within f 4 5) 11 1
  unfolding computed
  pass_1 = refl

  pass_2 : check_step f 2 (step_of 1 1 6 0 0 0 0) ≡ need (states_within f 6 0) 11 2
  unfolding computed
  pass_2 = refl

  -- kind 1 lists its states, since these are all within reach
  few_unknown_lem : T (leb (ones_in 64 t.unknown) 12)
  few_unknown_lem = le→leb _ 12 (few_unknown_facts t 12 (λ xs d r. le_trans (no_more t ss (λ s. (lists s).1) xs d r) few))

  may_list : need (leb (ones_in 64 t.unknown) 12 || false) 10 5 ≡ found tt
  may_list = need_in _ 10 5 (or_left (leb (ones_in 64 t.unknown) 12) false few_unknown_lem)

  pass_5 : check_step f 5 (step_of 1 1 1 3 0 0 0)
      ≡ (need (leb (ones_in 64 t.unknown) 12 || false) 10 5 >>= λ _. need (states_within f 1 3) 11 5)
  unfolding computed
  pass_5 = refl

  -- a derivation step, and the last step's kind, by computing
  abbrev Passes : ℕ → Type 0
  Passes k = check_step f k (step_at f k) ≡ found tt

  derived : Passes 0 × Passes 3 × Passes 4 × Passes 6 × Passes 7 × (need (eqb (step_at f 7).kind 3) 12 7 ≡ found tt)
  unfolding computed
  derived = (refl, refl, refl, refl, refl, refl)

  steps_pass : check_file f ≡ found tt
  unfolding check_file check_from check_steps step_at
  steps_pass =
      let d = derived in
      bind_in _
      (bind_in _ d.0 (bind_in _ (pass_1 ∙ need_in (states_within f 4 5) 11 1 closed)
      (bind_in _ (pass_2 ∙ need_in (states_within f 6 0) 11 2 no_goal)
      (bind_in _ d.1 (bind_in _ d.2 (bind_in _ (pass_5 ∙ bind_in _ may_list (need_in (states_within f 1 3) 11 5 init_listed))
      (bind_in _ d.3 (bind_in _ d.4 refl))))))))
      d.5

-- ---- it fits the format

all_below_lem : (m : ℕ) (ss : List ℕ) (i : ℕ) → ((s : ℕ) → T (member s ss) → s < m) → AllFrom (λ _ s. s < m) i ss
all_below_lem m [] i h = tt
all_below_lem m (x ∷ ss) i h = (h x (member_first x x ss refl), all_below_lem m ss (suc i) (λ s k. h s (member_rest s x ss k)))

fits_step : (rule kind a b p q r : ℕ) → rule + kind + a + b + p + q + r < 256 → FitsStep (step_of rule kind a b p q r)
fits_step rule kind a b p q r h = record {
  rule = omega arith;
  kind = omega arith;
  left = omega arith;
  right = omega arith;
  three = refl;
  premises = (omega arith, (omega arith, (omega arith, tt)));
}

steps_fit : AllFrom (λ _. FitsStep) 0 the_steps
steps_fit = (
  fits_step 6 0 0 0 0 0 0 (omega arith),
  (
    fits_step 2 1 4 5 0 0 0 (omega arith),
    (
      fits_step 1 1 6 0 0 0 0 (omega arith),
      (
        fits_step 8 0 6 0 2 0 0 (omega arith),
        (
          fits_step 9 0 3 0 1 0 3 (omega arith),
          (
            fits_step 1 1 1 3 0 0 0 (omega arith),
            (fits_step 8 0 1 0 5 4 0 (omega arith), (fits_step 13 3 0 0 6 0 0 (omega arith), tt)),
          ),
        ),
      ),
    ),
  ),
)

-- limits that have room for eight steps, and for so many states beside the largest table
record Roomy (l : Limits) : Type 0 where
  states : l.states ≤ full.states
  steps : 8 ≤ l.steps
  least : 36 + 32 * 256 + 8 * l.states + 142 ≤ l.size
  most : l.size ≤ full.size

full_roomy : Roomy full
full_roomy = record { states = omega arith; steps = omega arith; least = omega arith; most = omega arith }

small_roomy : Roomy small
small_roomy = record { states = omega arith; steps = omega arith; least = omega arith; most = omega arith }

-- 142 bytes beside the table and the states
certificate_length : (table ss : List ℕ) → length (file_of table (certificate_of ss)) ≡ length table + 8 * length ss + 142
unfolding certificate_of write_certificate counted each write_action_set write_state_set write_entry action_body state_body basic_body write_step
certificate_length table ss =
    let a = length_file table (certificate_of ss) in
    let b : length (certificate_of ss) ≡ 138 + length (each (bytes_of 8) ss) = simp (length-append, length_bytes_of) (omega arith) in
    let c = length_each (λ _. Unit {0}) (bytes_of 8) 8 (λ x _. length_bytes_of 8 x) ss 0 (anything ss 0) in
    omega arith

pub certain_length : CertainLength
certain_length = (certificate_length, refl, refl, refl, omega arith)

module _ (l : Limits) (room : Roomy l) (table : List ℕ) (t : Task) (lawful : Lawful table t) (ss : List ℕ) (few : length ss ≤ l.states)
    (lists : (s : ℕ) → T (member s ss) ↔ Reachable t s) where
  bound : Bounded t
  bound = fits_bounded t (task_fits (file_of table []) t (4 + length table) lawful)

  fits : FitsCertificate t the_action_sets (the_state_sets ss) the_steps
  fits = record {
    few_action_sets = omega arith;
    action_sets_hold = (tt, tt);
    few_state_sets = omega arith;
    state_sets_hold = (
      tt,
      (
        tt,
        (
          tt,
          (
            (omega (arith, few, room.states), all_below_lem (2 ^ t.facts) ss 0 (λ s k. reach_lt bound ((lists s).0 k))),
            ((omega arith, omega arith), ((omega arith, omega arith), ((omega arith, omega arith), tt))),
          ),
        ),
      ),
    );
    some_steps = omega arith;
    few_steps = omega arith;
    steps = steps_fit;
  }

  allowed : Allowed l (the_state_sets ss) the_steps
  unfolding listed_states
  allowed =
      let none : 0 ≤ l.states = omega arith in
      record { states = (none, (none, (none, (few, (none, (none, (none, tt))))))); steps = room.steps }

  table_length : length table ≤ 36 + 32 * 256
  table_length =
      let r = task_read (file_of table []) t (4 + length table) lawful in
      let v : ℕ = number 1 (file_of table []) 4 in
      let o = places v in
      let e = after_actions_lem v (length t.actions) in
      let w : action_size v * length t.actions ≤ 32 * length t.actions = mul-le-mul_right (length t.actions) (omega arith) in
      omega (arith, r.ends, r.fits.few_actions)

  short : length (file_of table (certificate_of ss)) ≤ l.size
  short =
      let a = certificate_length table ss in
      let c = table_length in
      let e = room.least in
      omega arith

  reads : read_within l (file_of table (certificate_of ss)) ≡ found (the_file (number 1 (file_of table (certificate_of ss)) 4) t ss)
  unfolding certificate_of
  reads =
      let m = room.most in
      let n = short in
      certificate_reads l table t the_action_sets (the_state_sets ss) the_steps lawful fits allowed (omega arith, n)

  accepted : Unsolvable t → reply_within l (file_of table (certificate_of ss)) ≡ Accepted
  unfolding reply_within reply_to
  accepted safe = ap reply_to (bind_in check_file reads (steps_pass _ t ss lists (omega (arith, few, room.states)) safe))

-- ---- the theorems

by_list : (l : Limits) → Roomy l → CertifiesByList (reply_within l) l.states
unfolding certificate_of
by_list l room table t ss lawful safe few lists =
    (certificate_bytes the_action_sets (the_state_sets ss) the_steps 0 steps_fit, accepted l room table t lawful ss few lists safe)

certifies : (l : Limits) → Roomy l → Certifies (reply_within l) l.states
certifies l room table t lawful h = (
  (λ (c, _, e).
      let a = accepted_is_safe (file_of table c) (accepted_full l (file_of table c) e) in
      let w = file_read (file_of table c) a.0 a.1 in
      let q : a.0.task ≡ t = ap (λ (x : Task × ℕ). x.0) (found_same (sym w.table ∙ lawful_reads table c t lawful)) in
      subst Unsolvable q (safe_unsolvable a.0.task a.2)),
  (λ safe.
      let (ss, few, lists) = reachable_list t _ h in
      let c = by_list l room table t ss lawful safe few lists in
      (certificate_of ss, c.0, c.1)),
)

pub certain_certificate : CertainCertificate
unfolding reply_within reply_of read_file
certain_certificate = by_list full full_roomy

pub safe_is_accepted : SafeIsAccepted
unfolding reply_within reply_of read_file
safe_is_accepted = certifies full full_roomy

pub small_certain_certificate : SmallCertainCertificate
unfolding reply_small
small_certain_certificate = by_list small small_roomy

pub small_safe_is_accepted : SmallSafeIsAccepted
unfolding reply_small
small_safe_is_accepted = certifies small small_roomy

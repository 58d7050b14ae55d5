-- The layout check of the whole file, test by test.
-- Assumes nothing.
use mathlib.Core.Path.{◌≡◌, refl, sym, ap, ap₂, ◌∙◌}
use Prim.Native.Nat.{ℕ, ◌+◌, ◌≤◌}
use native.Mathlib.Omega.{arith}
use mathlib.Core.Bool.{Bool, true, false, ◌&&◌}
use mathlib.Core.List.{List}
use lib.ListN.{length}
use lib.Dec.{T, leb, eqb, leb→le}
use Rattle.std.specs.declared.result.Result as code
use Rattle.std.specs.declared.result.Result.TheVariants.{Ok, Err}
use Rattle.task.specs.Inner.{ends_of}
use Rattle.task.specs.Task.{Task}
use Rattle.task.specs.declared.Ends.{Ends}
use Rattle.task.proofs.Tests.{and_left, and_right, holds, is_true}
use Rattle.certificate.specs.declared.Places.{Places}
use Rattle.entries.specs.declared.Section.TheVariants.{ActionSets, StateSets}
use Rattle.meaning.specs.declared.Fault.{Fault}
use Rattle.meaning.specs.Told.{told}
use Rattle.meaning.specs.Result.{Result, refuse, found, ◌>>=◌, need}
use Rattle.meaning.specs.Bytes.{number}
use Rattle.meaning.specs.declared.Limits.{Limits}
use Rattle.meaning.specs.File.{File}
use Rattle.certificate.specs.Views.{places_of, outline_of}
use Rattle.file_numbers.specs.Numbers.{number_at}
use Rattle.meaning.specs.Layout.{count, goal_at, action_count_at, after_actions, read_task, read_within}
use Rattle.bodies.specs.Faults.{Answer, fault}
use Rattle.layout.specs.Sections.{is_whole, unknown_at, goal_off_at, section_at, step_count_at, steps_at, rest_at}
use Rattle.meaning.proofs.Results.{bind_case, found_same, and_out}
use Rattle.file_numbers.proofs.ByteLaws.{number_in}
use Rattle.bodies.proofs.Faults.{goes_on, passed, failed}
use Rattle.layout.proofs.ToldLaws.{told_ok, told_err, told_stops}
use Rattle.layout.proofs.SectionChecks.{count_is, step_count_is}
use Rattle.layout.proofs.OutlineLaws.{TaskIs, task_is, Agree, refusals, values, start, later, tail, placed, Placed, tail_agrees}

-- ---- a reading that agrees with the code's

agree_told : (l : Limits) (bytes : List ℕ) (t : Task) (same : number 1 bytes 4 ≡ number_at 1 bytes 4) (r : Result File) (s : Result (ℕ × ℕ))
    → Agree (Placed l bytes t same) r s → told (λ (x : ℕ × ℕ). placed l bytes t same x.0 x.1) s ≡ told (places_of bytes) r
agree_told l bytes t same (refuse m q) (found x) x6 = elim x6 [ ]
agree_told l bytes t same (found f) (refuse n p) x6 = elim x6 [ ]
agree_told l bytes t same (refuse m q) (refuse _ _) refusals = refl
agree_told l bytes t same (found f) (found x) (values h) = ap (λ (y : Places). Ok y) (sym h)

-- the counts of the action sets, of the state sets and of the steps lie in the file
pub rest_ends : (l : Limits) (bytes : List ℕ) (n m p : ℕ) {a b : ℕ} → rest_at bytes l n m p ≡ found (a, b)
    → (p + 2 ≤ length bytes) × (a + 2 ≤ length bytes) × (b + 2 ≤ length bytes)
unfolding rest_at section_at steps_at
rest_ends l bytes n m p {a = a} {b} e =
    bind_case (section_at bytes (ActionSets m) 256 p) _ (a, b) e λ es es! e₁.
    bind_case (section_at bytes (StateSets n (number_at 2 bytes p) l.states) 512 es.1)
    _ (a, b) e₁ λ ss ss! e₂.
    bind_case (steps_at bytes l.steps ss.1) _ (a, b) e₂ λ ks ks! q.
    bind_case (count bytes 0 256 p) _ es es! λ ac ac! _.
    bind_case (count bytes 0 512 es.1) _ ss ss! λ sc sc! _.
    bind_case (step_count_at bytes l.steps ss.1) _ ks ks! λ kc kc! _.
    let i : es.1 ≡ a = ap (λ (x : ℕ × ℕ). x.0) (found_same q) in
    let j : ss.1 ≡ b = ap (λ (x : ℕ × ℕ). x.1) (found_same q) in
    let h = (count_is bytes 0 512 es.1 sc sc!).1 in
    let g = (count_is bytes 1 2048 ss.1 kc (step_count_is bytes l.steps ss.1 kc kc!)).1 in
    ((count_is bytes 0 256 p ac ac!).1, omega arith, omega arith)

-- ---- the tests

module _ (l : Limits) (bytes : List ℕ) {w : Bool} (ew : w ≡ is_whole bytes) where
  -- the bytes' own number, where there are four of them
  length_read : 4 ≤ length bytes → number 4 bytes 0 ≡ number_at 4 bytes 0
  length_read h = sym (number_in 4 bytes 0 (omega arith))

  pub length_bad : w ≡ false → Err (record { number = 1; place = 0 }) ≡ outline_of l bytes
  unfolding outline_of read_within is_whole
  length_bad s = go (leb 4 (length bytes) && leb (length bytes) 65536) refl
    where
      go : (b : Bool) → (leb 4 (length bytes) && leb (length bytes) 65536) ≡ b → Err (record { number = 1; place = 0 }) ≡ outline_of l bytes
      go false g = sym (ap (told (places_of bytes)) (failed 1 0 _ g))
      go true g =
          sym (ap (told (places_of bytes)) (passed 1 0 _ g ∙ failed 1 0 _ (ap (λ (x : ℕ). eqb (x + 4) (length bytes))
          (length_read (leb→le 4 (length bytes) (and_left (leb 4 (length bytes)) (leb (length bytes) 65536) (holds g))))
          ∙ ap (λ (b : Bool). b && eqb (number_at 4 bytes 0 + 4) (length bytes)) (sym g) ∙ sym ew ∙ s)))

  module _ (s : w ≡ true) where
    both : T (leb 4 (length bytes) && leb (length bytes) 65536) × T (eqb (number_at 4 bytes 0 + 4) (length bytes))
    unfolding is_whole
    both =
        and_out (leb 4 (length bytes) && leb (length bytes) 65536) (eqb (number_at 4 bytes 0 + 4) (length bytes))
        (holds (sym ew ∙ s))

    length_good : (leb 4 (length bytes) && leb (length bytes) 65536) ≡ true
    length_good = is_true (leb 4 (length bytes) && leb (length bytes) 65536) both.0

    pub length_most : length bytes ≤ 65536
    length_most = leb→le (length bytes) 65536 (and_right (leb 4 (length bytes)) (leb (length bytes) 65536) both.0)

    length_same : eqb (number 4 bytes 0 + 4) (length bytes) ≡ true
    length_same =
        ap (λ (x : ℕ). eqb (x + 4) (length bytes))
        (length_read (leb→le 4 (length bytes) (and_left (leb 4 (length bytes)) (leb (length bytes) 65536) both.0)))
        ∙ is_true (eqb (number_at 4 bytes 0 + 4) (length bytes)) both.1

    module _ {u : Bool} (eu : u ≡ leb (length bytes) l.size) where
      pub length_over : u ≡ false → Err (record { number = 19; place = 0 }) ≡ outline_of l bytes
      unfolding outline_of read_within
      length_over z = sym (ap (told (places_of bytes)) (passed 1 0 _ length_good ∙ passed 1 0 _ length_same ∙ failed 19 0 _ (sym eu ∙ z)))

      module _ (z : u ≡ true) where
        -- the reading behind the tests of the length
        lengths_pass : (g : Unit {0} → Result File) → (need (leb 4 (length bytes) && leb (length bytes) 65536) 1 0
            >>= λ _. need (eqb (number 4 bytes 0 + 4) (length bytes)) 1 0 >>= λ _. need (leb (length bytes) l.size) 19 0 >>= g) ≡ g tt
        lengths_pass g = passed 1 0 _ length_good ∙ passed 1 0 _ length_same ∙ passed 19 0 g (sym eu ∙ z)

        pub task_bad : {v : Answer} {x : code.Result Places Fault} {e : Fault} → v ≡ fault (read_task bytes) → v ≡ Err e → x ≡ Err e
            → x ≡ outline_of l bytes
        unfolding outline_of read_within
        task_bad y g k =
            told_stops (λ _. tt) (places_of bytes) (read_task bytes) _ y g k ∙ sym (ap (told (places_of bytes)) (lengths_pass _))

        module _ {f : Answer} {d : Unit {0}} (h : f ≡ fault (read_task bytes)) (fine : f ≡ Ok d) {v n m p : ℕ} (ev : v ≡ number_at 1 bytes 4)
            (en : n ≡ number_at 1 bytes 5) (em : m ≡ number_at 2 bytes (action_count_at v)) (ep : p ≡ after_actions v m) where
          the_task : (r : Task × ℕ) × (read_task bytes ≡ found r)
          the_task = (let k = told_ok (λ _. tt) (read_task bytes) h fine in (k.0, k.1))

          abbrev t : Task
          t = the_task.0.0

          is : TaskIs bytes t the_task.0.1
          is = task_is bytes the_task.0 the_task.1

          abbrev same : number 1 bytes 4 ≡ number_at 1 bytes 4
          same = is.version

          outline_tail : told (places_of bytes) (tail l bytes t same) ≡ outline_of l bytes
          unfolding outline_of read_within later tail
          outline_tail =
              sym (ap (told (places_of bytes)) (lengths_pass _ ∙ goes_on _ (the_task.1 ∙ ap (λ (q : ℕ). found (t, q)) is.ends)))

          facts_same : n ≡ t.facts
          facts_same = en ∙ sym is.facts

          actions_same : m ≡ length t.actions
          actions_same = em ∙ ap (λ (x : ℕ). number_at 2 bytes (action_count_at x)) ev ∙ sym is.actions

          place_same : p ≡ start l bytes t same
          place_same = ep ∙ ap₂ after_actions ev actions_same

          -- what follows the actions, as the code finds it
          tail_told : told (λ (x : ℕ × ℕ). placed l bytes t same x.0 x.1) (rest_at bytes l n m p) ≡ outline_of l bytes
          tail_told =
              (λ i. told (λ (x : ℕ × ℕ). placed l bytes t same x.0 x.1) (rest_at bytes l (facts_same i) (actions_same i) (place_same i)))
              ∙ agree_told l bytes t same (tail l bytes t same) _ (tail_agrees l bytes t same)
              ∙ outline_tail

          pub rest_bad : {x : code.Result (ℕ × ℕ) Fault} {y : code.Result Places Fault} {e : Fault} → x ≡ told (λ x. x) (rest_at bytes l n m p)
              → x ≡ Err e → y ≡ Err e → y ≡ outline_of l bytes
          rest_bad says g k =
              let r = told_err (λ (x : ℕ × ℕ). x) (rest_at bytes l n m p) says g in
              k ∙ sym (ap (told (λ (x : ℕ × ℕ). placed l bytes t same x.0 x.1)) r) ∙ tail_told

          module _ {ends : Ends} {i o a b ac sc kc : ℕ} (ei : i ≡ number_at 8 bytes 6) (eo : o ≡ number_at 8 bytes (goal_at v))
              (ex : ends ≡ record { facts = n; init = i; unknown = unknown_at bytes v; goal = o; off = goal_off_at bytes v })
              (ea : ac ≡ number_at 2 bytes p)
              (es : sc ≡ number_at 2 bytes a) (ek : kc ≡ number_at 2 bytes b) where
            pub lawful : rest_at bytes l n m p ≡ found (a, b)
                → Ok (record {
                  ends = ends;
                  actions = m;
                  action_sets = ac;
                  state_sets = sc;
                  steps = kc;
                  action_sets_at = p + 2;
                  state_sets_at = a + 2;
                  steps_at = b + 2;
                }) ≡ outline_of l bytes
            unfolding ends_of
            lawful r =
                let pi : i ≡ t.init = ei ∙ sym is.init in
                let pu : unknown_at bytes v ≡ t.unknown = ap (unknown_at bytes) ev ∙ sym is.unknown in
                let po : o ≡ t.goal = eo ∙ ap (λ (x : ℕ). number_at 8 bytes (goal_at x)) ev ∙ sym is.goal in
                let pf : goal_off_at bytes v ≡ t.off = ap (goal_off_at bytes) ev ∙ sym is.off in
                let px : ends ≡ ends_of t =
                ex ∙ (λ j. record { facts = facts_same j; init = pi j; unknown = pu j; goal = po j; off = pf j }) in
                let pa : ac ≡ number_at 2 bytes (start l bytes t same) = ea ∙ ap (number_at 2 bytes) place_same in
                ap (λ (y : Places). Ok y) (λ j. record {
                  ends = px j;
                  actions = actions_same j;
                  action_sets = pa j;
                  state_sets = es j;
                  steps = ek j;
                  action_sets_at = place_same j + 2;
                  state_sets_at = a + 2;
                  steps_at = b + 2;
                })
                ∙ sym (ap (told (λ (x : ℕ × ℕ). placed l bytes t same x.0 x.1)) r)
                ∙ tail_told

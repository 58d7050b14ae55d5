-- What is read and said of two files that list their explicit states otherwise (document 02, b): the same, or 5 at a state of the same set;
-- and 7 is not said of an explicit set.
-- Assumes nothing.
use mathlib.Core.Path.{◌≡◌, refl, ap}
use mathlib.Core.Logic.{◌⊎◌, inl, inr}
use Prim.Native.Nat.{ℕ, ◌+◌, ◌*◌, ◌<◌}
use native.Mathlib.Omega.{arith}
use mathlib.Core.Option.{some}
use mathlib.Core.List.{List}
use lib.ListN.{length, get_elem?}
use lib.Dec.{T, eqb, eqb→eq}
use Rattle.task.proofs.Tests.{or_cases}
use Rattle.meaning.specs.Result.{Result, refuse, found, ◌>>=◌, need}
use Rattle.meaning.specs.Bytes.{number}
use Rattle.meaning.specs.declared.Limits.{Limits}
use Rattle.meaning.specs.Limits.{full}
use Rattle.meaning.specs.File.{File}
use Rattle.meaning.specs.Layout.{count, action_kinds, state_kinds, entries, read_within, read_file}
use Rattle.meaning.specs.Structure.{after_entries, action_set_count, state_set_count, step_count, set_at}
use Rattle.meaning.specs.Relisted.{wrong_in, InState, Relisted}
use Rattle.meaning.specs.Sets.{in_set}
use Rattle.meaning.specs.declared.Reply.TheVariants.{Refused}
use Rattle.meaning.specs.declared.Round.TheVariants as round
use Rattle.meaning.specs.declared.Answer.TheVariants as answer
use Rattle.meaning.specs.Reply.{check_file, reply_to, reply_of}
use Rattle.meaning.specs.Small.{reply_within}
use Rattle.meaning.specs.Numbering.{check_numbers, rule_meant, rewritten, check_rewritten, reply_numbered}
use Rattle.meaning.specs.Rounds.{check_round, round_to, round_of}
use Rattle.meaning.specs.Question.{askable, answer_to, answer_of}
use Rattle.meaning.specs.Points.{SameInAnyOrder, OrderAlike, LimitedOrderAlike, NumberedOrderAlike, RoundOrderAlike}
use Rattle.meaning.specs.Points.{AnswerOrderAlike, FirstWrongState, NoOrderFault}
use Rattle.meaning.proofs.LayoutFaults.{count_in, items_in, step_in, task_in}
use Rattle.meaning.proofs.Breaches.{action_table_lem, entry_stage}
use Rattle.meaning.proofs.StepRefusals.{check_ok}
use Rattle.meaning.proofs.Refusals.{reply_number}
use Rattle.meaning.proofs.Relisted.{set_count, before_sets, action_set_ends, Free, free_before, free_head, free_rest}
use Rattle.meaning.proofs.Relisted.{number_same}
use Rattle.meaning.proofs.RelistedParts.{items_eq, count_eq, step_eq, task_eq, entry_eq, action_kinds_eq}
use Rattle.meaning.proofs.Twins.{OfStates, Twin, alike, wrong, both, bind, same, same_then, need_then, none_in, none_first, entries_twin}
use Rattle.meaning.proofs.RelistedSets.{state_entry}
use Rattle.meaning.proofs.Alike.{AlikeSet, AlikeSets, Alike}
use Rattle.meaning.proofs.AlikeChecks.{alike_check, alike_round, alike_askable, alike_holds, alike_rewritten}

-- ---- what is read

module _ {a b : List ℕ} (r : Relisted a b) where
  action_sets_twin : (m : ℕ) → Twin a b (λ u v. (u.0 ≡ v.0) × (u.1 ≡ state_set_count a) × (v.1 ≡ state_set_count a))
      (entries a (action_kinds a m) 0 (action_set_count a + 2) (number 2 a (action_set_count a)))
      (entries b (action_kinds b m) 0 (action_set_count a + 2) (number 2 a (action_set_count a)))
  unfolding state_set_count after_entries
  action_sets_twin m =
      let p : ℕ = action_set_count a + 2 in
      let k : ℕ = number 2 a (action_set_count a) in
      let S : ℕ = state_set_count a in
      entries_twin (λ x y. x ≡ y) (λ xs ys. xs ≡ ys) refl (λ _ _ _ _ e h. cc) _ _ p k
      (λ i l. let h = action_set_ends a i l in number_same r 2 (after_entries a p i) (λ q _ u. free_before a q (omega arith) (omega arith)))
      (λ i l.
      let h = action_set_ends a i l in
      same (none_first a (λ q _ u. free_before a q (omega arith) (omega arith)) (entry_stage a 0 (action_table_lem 0 a m i) _))
      (entry_eq r 0 (S + 5) (free_before a) (action_kinds_eq r 0 (S + 5) (free_before a) m i) (after_entries a p i)
      (omega arith) (omega arith) (omega arith)) (λ u _. refl))
      k 0 (omega arith)

  state_sets_twin : (most m : ℕ) → Twin a b (λ u v. AlikeSets u.0 v.0 × (u.1 ≡ step_count a) × (v.1 ≡ step_count a))
      (entries a (state_kinds a most (number 1 a 5) m) 0 (state_set_count a + 2) (set_count a))
      (entries b (state_kinds b most (number 1 a 5) m) 0 (state_set_count a + 2) (set_count a))
  unfolding step_count set_at after_entries
  state_sets_twin most m =
      entries_twin AlikeSet AlikeSets tt (λ _ _ _ _ x xs. (x, xs)) _ _ (state_set_count a + 2) (set_count a)
      (λ i _. number_same r 2 (set_at a i) (λ q l u. free_head a i q l (omega arith)))
      (state_entry r most m) (set_count a) 0 (omega arith)

  -- a count that is in no state
  count_then : {B : Type 0} {Good : B → B → Type 0} {g h : ℕ → Result B} (low high p : ℕ) → Free a p (p + 2)
      → ((k : ℕ) → k ≡ number 2 a p → Twin a b Good (g k) (h k)) → Twin a b Good (count a low high p >>= g) (count b low high p >>= h)
  count_then low high p free k =
      same_then (none_in a (λ q l u. free q l (omega arith)) (count_in p p a low high p (omega arith) (omega arith)))
      (count_eq r p (p + 2) free low high p (omega arith) (omega arith)) (λ c e. k c e.0)

  pub reads_twin : (l : Limits) → Twin a b Alike (read_within l a) (read_within l b)
  unfolding read_within action_set_count step_count set_at
  reads_twin l =
      let A : ℕ = action_set_count a in
      let S : ℕ = state_set_count a in
      let K : ℕ = step_count a in
      let n : ℕ = number 2 a K in
      let o = before_sets a in
      let free : Free a 0 (S + 5) = free_before a in
      let rest : (hi : ℕ) → Free a K hi = free_rest a in
      rw (← r.size, ← number_same r 4 0 (λ q _ u. free q (omega arith) (omega arith)))
      (need_then _ 1 0 tt λ _ _.
      need_then _ 1 0 tt λ _ _.
      need_then _ 19 0 tt λ _ _.
      same_then (none_in a (λ q _ u. free q (omega arith) (omega arith)) (task_in 1 A a (omega arith) (omega arith)))
      (task_eq r 0 (S + 5) free (omega arith) (omega arith)) λ t e. rw (e.0, e.1)
      (count_then 0 256 A (λ q _ u. free q (omega arith) (omega arith)) λ ac c. rw c
      (bind (action_sets_twin (length t.0.actions)) λ es es' h. rw (h.1, h.2)
      (count_then 0 512 S (λ q _ u. free q (omega arith) (omega arith)) λ sc c. rw c
      (bind (state_sets_twin l.states (number 2 a A)) λ ss ss' g. rw (g.1, g.2)
      (count_then 1 2048 K (rest (K + 2)) λ kc c. rw c
      (need_then _ 19 K tt λ _ _.
      same_then (none_in a (rest _) (items_in K (K + 2 + 12 * n) _ 12 (step_in _ _ a) n (K + 2) (omega arith) (omega arith)))
      (items_eq r K (K + 2 + 12 * n) (rest _) 12 (step_eq r _ _ (rest _)) n (K + 2) (omega arith) (omega arith)) λ ks _.
      need_then _ 3 _ tt λ _ _.
      both (record { task = refl; action_sets_hold = h.0; state_sets_hold = g.0; steps = refl }))))))))

-- ---- what is said of them

-- what is said after a check that is the same of files that are alike
module _ {A R : Type 0} (say : ℕ → ℕ → R) (finish : Result A → R) (refusals : (r p : ℕ) → finish (refuse r p) ≡ say r p)
    (check : File → Result A) (checks : (f g : File) → Alike f g → check f ≡ check g) where
  said : {a b : List ℕ} {x y : Result File} → Twin a b Alike x y
      → (finish (x >>= check) ≡ finish (y >>= check))
      ⊎ ((e : ℕ) × (p : ℕ) × (q : ℕ) × (e < set_count a)
      × (get_elem? (wrong_in a e) 0 ≡ some p) × (get_elem? (wrong_in b e) 0 ≡ some q)
      × (finish (x >>= check) ≡ say 5 p) × (finish (y >>= check) ≡ say 5 q))
  unfolding ◌>>=◌
  said (alike n) = inl refl
  said (wrong e {p} {q} l v w) = inr (e, p, q, l, v, w, refusals 5 p, refusals 5 q)
  said (both {x = f} {y = g} h) = inl (ap finish (checks f g h))

  any_order : (l : Limits) → SameInAnyOrder say (λ bytes. finish (read_within l bytes >>= check))
  any_order l a b r = said (reads_twin r l)

pub limited_order_alike : LimitedOrderAlike
unfolding reply_within reply_to
limited_order_alike = any_order Refused reply_to (λ r p. refl) check_file alike_check

pub order_alike : OrderAlike
unfolding reply_of reply_within read_file
order_alike = limited_order_alike full

pub round_order_alike : RoundOrderAlike
unfolding round_of round_to read_file
round_order_alike from count =
    any_order round.Refused round_to (λ r p. refl) (λ f. check_round f from count) (λ f g h. alike_round f g h from count) full

pub answer_order_alike : AnswerOrderAlike
unfolding answer_of answer_to read_file
answer_order_alike e s =
    any_order answer.Refused answer_to (λ r p. refl) (λ f. need (askable f e s) 13 0 >>= λ _. found (in_set f e s))
    (λ f g h. rw (alike_askable f g h e s, alike_holds f g h e s)) full

-- a list's own fault is the same of all files
numbered : (to : ℕ → ℕ) (x : Result (Unit {0})) → SameInAnyOrder Refused (λ bytes. reply_to (x >>= λ _. check_rewritten to bytes))
unfolding reply_to check_rewritten read_file ◌>>=◌
numbered to (refuse r p) = λ a b h. inl refl
numbered to (found u) =
    any_order Refused reply_to (λ r p. refl) (λ f. check_file (rewritten to f))
    (λ f g h. alike_check (rewritten to f) (rewritten to g) (alike_rewritten to f g h)) full

pub numbered_order_alike : NumberedOrderAlike
unfolding reply_numbered
numbered_order_alike numbers = numbered (rule_meant numbers) (check_numbers numbers)

-- ---- 5 and 7 in a listed state

-- a file lists its states as it does
itself : (bytes : List ℕ) → Relisted bytes bytes
itself bytes = record { size = refl; others = λ _ _. refl; states = λ _ _ _. refl }

-- a refusal with one of them there is 5 at the first wrong state of a set
first_wrong : {a b : List ℕ} {x y : Result File} → Twin a b Alike x y
    → (r p : ℕ) → T (OfStates r) → reply_to (x >>= check_file) ≡ Refused r p → InState a p
    → (r ≡ 5) × ((e : ℕ) × (e < set_count a) × (get_elem? (wrong_in a e) 0 ≡ some p))
unfolding reply_to ◌>>=◌
first_wrong (alike {r = k} {p = q} n) r p o e s = let i : k ≡ r = cc in let j : q ≡ p = cc in absurd (n (rw i o) (rw j s))
first_wrong (wrong e {p = q} l v w) r p o i s = let j : q ≡ p = cc in (cc, (e, l, rw (← j) v))
first_wrong (both {x = f} g) r p o e s =
    let h = reply_number (check_ok f) r p e in
    absurd (elim (or_cases (eqb r 5) (eqb r 7) o) [
      | inl t ↦ let i = eqb→eq r 5 t in omega arith
      | inr t ↦ let i = eqb→eq r 7 t in omega arith
    ])

pub first_wrong_state : FirstWrongState
unfolding reply_of read_file
first_wrong_state bytes p e s = (first_wrong (reads_twin (itself bytes) full) 5 p tt e s).1

pub no_order_fault : NoOrderFault
unfolding reply_of read_file
no_order_fault bytes p e s =
    let z : ◌≡◌ {A = ℕ} 7 5 = (first_wrong (reads_twin (itself bytes) full) 7 p tt e s).0 in
    omega arith

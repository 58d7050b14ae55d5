-- Entries one after the other, with their places, and where the parts of a file that is read stand.
-- Assumes nothing.
use mathlib.Core.Path.{◌≡◌, refl, sym, ap, ◌∙◌, subst}
use Prim.Native.Nat.{ℕ, zero, suc, ◌+◌, ◌*◌, ◌≤◌, ◌<◌}
use native.Mathlib.Omega.{arith}
use native.Mathlib.Decide.{dec_lt}
use mathlib.Core.List.{List, [], ◌∷◌}
use lib.ListN.{length, get_or}
use Rattle.task.specs.Task.{Task}
use Rattle.meaning.specs.Result.{found}
use Rattle.meaning.specs.Bytes.{number}
use Rattle.meaning.specs.File.{ActionSet, StateSet, Step, File}
use Rattle.meaning.specs.Limits.{full}
use Rattle.meaning.specs.Layout.{action, step, Kind, action_kinds, state_kinds, entry, entries, read_task, read_file}
use Rattle.meaning.specs.Layout.{action_count_at, action_size, after_actions}
use Rattle.file_numbers.specs.Numbers.{number_at}
use Rattle.certificate.specs.Views.{after_entry, entry_place, places_of, action_in, step_read}
use Rattle.meaning.proofs.Reading.{task_walked, file_walked}
use Rattle.meaning.proofs.Again.{field_out}
use Rattle.meaning.proofs.Results.{found_same, bind_case}
use Rattle.file_numbers.proofs.ByteLaws.{number_in}
use Rattle.certificate.proofs.ItemLaws.{Items, items_stand, count_stands, action_stands, step_stands}
use Rattle.certificate.proofs.EntryLaws.{StateSetStands, ActionSetStands, Ends, state_set_stands, action_set_stands}

-- entry j of those that start at place p is what stands at its place; they end within the file
pub record Entries {A : Type 0} (bytes : List ℕ) (Stands : ℕ → A → Type 0) (p : ℕ) (xs : List A) : Type 0 where
  pub inside : entry_place bytes p (length xs) ≤ length bytes
  pub here : (d : A) (j : ℕ) → j < length xs → Stands (entry_place bytes p j) (get_or xs j d)

-- the places of the entries after the first one
place_next : (bytes : List ℕ) (p j : ℕ) → entry_place bytes (after_entry bytes p) j ≡ entry_place bytes p (suc j)
unfolding entry_place
place_next bytes p zero = refl
place_next bytes p (suc j) = ap (after_entry bytes) (place_next bytes p j)

-- they do not go back
pub place_le : (bytes : List ℕ) (p j : ℕ) → p ≤ entry_place bytes p j
unfolding entry_place after_entry
place_le bytes p zero = omega arith
place_le bytes p (suc j) = let h = place_le bytes p j in omega arith

-- one of n entries ends before the place after all of them
pub place_before : (bytes : List ℕ) (p j n : ℕ) → j < n → entry_place bytes p j + 2 ≤ entry_place bytes p n
unfolding entry_place after_entry
place_before bytes p j zero l = absurd (omega arith)
place_before bytes p j (suc n) l =
    elim (dec_lt j n) [
      | yes m ↦ (let h = place_before bytes p j n m in omega arith)
      | no m ↦ (let e : j ≡ n = omega arith in rw e (omega arith))
    ]

module _ {A : Type 0} (bytes : List ℕ) (S : ℕ → A → Type 0) where
  entries_none : (p : ℕ) → p ≤ length bytes → Entries bytes S p []
  unfolding entry_place
  entries_none p b = record { inside = b; here = λ d j n. absurd (omega arith) }

  cons_here : (p : ℕ) (x : A) (xs : List A) → S p x → Entries bytes S (after_entry bytes p) xs
      → (d : A) (j : ℕ) → j < suc (length xs) → S (entry_place bytes p j) (get_or (x ∷ xs) j d)
  unfolding entry_place
  cons_here p x xs s h d zero l = s
  cons_here p x xs s h d (suc j) l = subst (λ (q : ℕ). S q (get_or xs j d)) (place_next bytes p j) (h.here d j (omega arith))

  module _ (kinds : ℕ → List (Kind A)) (stands : (i p : ℕ) (x : A) → entry bytes (kinds i) p ≡ found x → Ends bytes p × S p x) where
    -- entries that are read stand one after the other, and the place after them is that of the next
    entries_stand : (k i p : ℕ) (r : List A × ℕ) → p ≤ length bytes → entries bytes kinds i p k ≡ found r
        → (length r.0 ≡ k) × (r.1 ≡ entry_place bytes p (length r.0)) × Entries bytes S p r.0
    unfolding entries entry_place after_entry
    entries_stand zero i p r b e =
        subst (λ (s : List A × ℕ). (length s.0 ≡ 0) × (s.1 ≡ entry_place bytes p (length s.0)) × Entries bytes S p s.0)
        (found_same e)
        (refl, refl, entries_none p b)
    entries_stand (suc k) i p r b e =
        bind_case (entry bytes (kinds i) p) _ r e λ x x! e₁.
        bind_case (entries bytes kinds (suc i) (p + 2 + number 2 bytes p) k) _ r e₁ λ s s! q.
        let a = stands i p x x! in
        let n : p + 2 + number 2 bytes p ≡ after_entry bytes p = ap (λ (m : ℕ). p + 2 + m) (sym (number_in 2 bytes p (omega arith))) in
        let h = entries_stand k (suc i) (after_entry bytes p) s a.0 (ap (λ (m : ℕ). entries bytes kinds (suc i) m k) (sym n) ∙ s!) in
        subst (λ (z : List A × ℕ). (length z.0 ≡ suc k) × (z.1 ≡ entry_place bytes p (length z.0)) × Entries bytes S p z.0)
        (found_same q) (
          ap suc h.0,
          h.1 ∙ place_next bytes p (length s.0),
          record {
            inside = subst (λ (m : ℕ). m ≤ length bytes) (place_next bytes p (length s.0)) h.2.inside;
            here = cons_here p x s.0 a.1 h.2;
          },
        )

-- ---- the file

-- the task's actions stand behind their count, where the version has it
record TaskStands (bytes : List ℕ) (v : ℕ) (t : Task) (end : ℕ) : Type 0 where
  end! : end ≡ after_actions v (length t.actions)
  count : number_at 2 bytes (action_count_at v) ≡ length t.actions
  actions : Items bytes (action_size v) (action_in bytes (action_size v)) (action_count_at v + 2) t.actions
  inside : 5 ≤ length bytes

task_stands : (bytes : List ℕ) (r : Task × ℕ) → read_task bytes ≡ found r → TaskStands bytes (number 1 bytes 4) r.0 r.1
task_stands bytes r e =
    let w = task_walked bytes r e in
    let v : ℕ = w.v in
    let o = field_out bytes 1 4 v w.v! in
    let c = count_stands bytes 0 256 (action_count_at v) w.m w.m! in
    let h = items_stand bytes (action_size v) (action_in bytes (action_size v)) (action bytes v w.n) (action_stands bytes v w.n) w.m
    (action_count_at v + 2) w.acts c.0 w.acts! in
    subst (λ (x : Task × ℕ). TaskStands bytes (number 1 bytes 4) x.0 x.1) w.whole
    (rw o.1
    (record { end! = ap (after_actions v) (sym h.0); count = c.1 ∙ sym h.0; actions = h.1; inside = o.0 }))

-- where everything stands; the steps end the file
pub record Parts (bytes : List ℕ) (f : File) : Type 0 where
  pub short : length bytes ≤ 65536
  pub version : number_at 1 bytes 4 ≡ f.version
  pub action_count : number_at 2 bytes (action_count_at f.version) ≡ length f.task.actions
  pub actions : let s = action_size f.version in Items bytes s (action_in bytes s) (action_count_at f.version + 2) f.task.actions
  pub action_sets : Entries bytes (ActionSetStands bytes) (places_of bytes f).action_sets_at f.action_sets
  pub state_sets : Entries bytes (StateSetStands bytes) (places_of bytes f).state_sets_at f.state_sets
  pub steps : Items bytes 12 (step_read bytes) (places_of bytes f).steps_at f.steps
  pub end : length bytes ≡ (places_of bytes f).steps_at + 12 * length f.steps

-- the same for a file put together from its parts, at the places after them
parts_at : (bytes : List ℕ) (t : Task) (es : List ActionSet) (ss : List StateSet) (ks : List Step) (a s k : ℕ)
    → TaskStands bytes (number 1 bytes 4) t a → s ≡ entry_place bytes (a + 2) (length es) → k ≡ entry_place bytes (s + 2) (length ss)
    → length bytes ≤ 65536
    → Entries bytes (ActionSetStands bytes) (a + 2) es
    → Entries bytes (StateSetStands bytes) (s + 2) ss → Items bytes 12 (step_read bytes) (k + 2) ks → length bytes ≤ k + 2 + 12 * length ks
    → Parts bytes (record { version = number 1 bytes 4; task = t; action_sets = es; state_sets = ss; steps = ks })
unfolding places_of
parts_at bytes t es ss ks a s k h s! k! short aes sss kks end =
    let p : ℕ = after_actions (number 1 bytes 4) (length t.actions) + 2 in
    let n : a + 2 ≡ p = ap (λ (q : ℕ). q + 2) h.end! in
    let s₁ : s + 2 ≡ entry_place bytes p (length es) + 2 =
    ap (λ (q : ℕ). q + 2) (s! ∙ ap (λ (q : ℕ). entry_place bytes q (length es)) n) in
    let k₁ : k + 2 ≡ entry_place bytes (entry_place bytes p (length es) + 2) (length ss) + 2 =
    ap (λ (q : ℕ). q + 2) (k! ∙ ap (λ (q : ℕ). entry_place bytes q (length ss)) s₁) in
    let i = kks.inside in
    record {
      short = short;
      version = number_in 1 bytes 4 h.inside;
      action_count = h.count;
      actions = h.actions;
      action_sets = subst (λ (q : ℕ). Entries bytes (ActionSetStands bytes) q es) n aes;
      state_sets = subst (λ (q : ℕ). Entries bytes (StateSetStands bytes) q ss) s₁ sss;
      steps = subst (λ (q : ℕ). Items bytes 12 (step_read bytes) q ks) k₁ kks;
      end = subst (λ (q : ℕ). length bytes ≡ q + 12 * length ks) k₁ (omega arith);
    }

-- a file that is read has its parts where the places say
pub file_parts : (bytes : List ℕ) (f : File) → read_file bytes ≡ found f → Parts bytes f
file_parts bytes f e =
    let w = file_walked bytes f e in
    let t = w.t in
    let a = task_stands bytes t w.t! in
    let b = entries_stand bytes (ActionSetStands bytes) (action_kinds bytes (length t.0.actions))
    (action_set_stands bytes (length t.0.actions)) w.ac 0 (t.1 + 2) w.es
    (count_stands bytes 0 256 t.1 w.ac w.ac!).0 w.es! in
    let c = entries_stand bytes (StateSetStands bytes) (state_kinds bytes full.states t.0.facts w.ac)
    (state_set_stands bytes full.states t.0.facts w.ac) w.sc 0 (w.es.1 + 2) w.ss
    (count_stands bytes 0 512 w.es.1 w.sc w.sc!).0 w.ss! in
    let d = items_stand bytes 12 (step_read bytes) (step bytes) (step_stands bytes) w.kc (w.ss.1 + 2) w.ks
    (count_stands bytes 1 full.steps w.ss.1 w.kc w.kc!).0 w.ks! in
    let n = d.0 in
    let l = w.last in
    subst (Parts bytes) w.whole
    (parts_at bytes t.0 w.es.0 w.ss.0 w.ks t.1 w.es.1 w.ss.1 a b.1 c.1 w.short b.2
    c.2 d.1 (omega arith))

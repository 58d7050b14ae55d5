-- Reading what was written gives it back: a task, a certificate after any lawful table, a file.
-- Assumes nothing.
use mathlib.Core.Path.{◌≡◌, refl, sym, ap, ◌∙◌, subst}
use Prim.Native.Nat.{ℕ, suc, ◌+◌, ◌*◌, ◌≤◌}
use native.Mathlib.Omega.{arith}
use mathlib.Core.List.{List, [], ◌∷◌, ◌++◌, append_assoc, append-nil}
use lib.ListN.{length, length-append}
use mathlib.Core.Bool.{false}
use lib.Dec.{T, eqb, leb, le→leb, eqb_refl}
use Rattle.task.specs.Task.{Task}
use Rattle.task.specs.declared.Action.{Action}
use Rattle.meaning.specs.Result.{found}
use Rattle.meaning.specs.Bytes.{bytes_of, number}
use Rattle.meaning.specs.File.{ActionSet, StateSet, Step, File}
use Rattle.meaning.specs.declared.Limits.{Limits}
use Rattle.meaning.specs.Limits.{full}
use Rattle.meaning.specs.Layout.{action, step, goal_at, off_size, action_count_at, action_size, after_actions, read_task, read_within}
use Rattle.meaning.specs.Writing.{each, write_off, write_action, write_action_set, write_state_set, write_step, counted, write_unknown}
use Rattle.meaning.specs.Writing.{write_task, write_certificate, file_of, write_file, AllFrom, FitsAction}
use Rattle.meaning.specs.Writing.{FitsTask, FitsVersion, FitsStateSet}
use Rattle.meaning.specs.Writing.{FitsStep, FitsCertificate, listed_states, Allowed, Fits, FitsSize, Lawful}
use Rattle.meaning.proofs.Results.{bind_in, need_in, and_in}
use Rattle.meaning.proofs.Numbers.{length_bytes_of}
use Rattle.meaning.proofs.Reading.{task_fits}
use Rattle.meaning.proofs.Suffix.{At, at_next, after_number, byte_back, after_byte, number_back, whole, file_at, length_file}
use Rattle.meaning.proofs.Prefix.{lawful_reads}
use Rattle.meaning.proofs.Unknown.{version_known, unknown_back}
use Rattle.meaning.proofs.Places.{places}
use Rattle.meaning.proofs.Off.{FitsActionOf, length_off, goal_off, actions_off}
use Rattle.meaning.proofs.Back.{byte_field, count_back, mask_back, off_back, action_back, step_back, length_step, length_each}
use Rattle.meaning.proofs.Back.{items_back}
use Rattle.meaning.proofs.BackEntries.{action_sets_back, state_sets_back}

-- ---- tasks

length_action : (v : ℕ) (a : Action) → length (write_action v a) ≡ action_size v
unfolding write_action
length_action v a =
    let e : length (write_action v a) ≡ 24 + off_size v = simp (length-append, length_bytes_of, length_off) in omega (arith, (places v).size)

pub anything : {A : Type 0} (xs : List A) (i : ℕ) → AllFrom (λ _ _. Unit {0}) i xs
anything [] i = tt
anything (x ∷ xs) i = (tt, anything xs (suc i))

-- two properties of each item, as one
both_of : {A : Type 0} (P Q : ℕ → A → Type 0) (i : ℕ) (xs : List A) → AllFrom P i xs → AllFrom Q i xs → AllFrom (λ i x. P i x × Q i x) i xs
both_of P Q i [] h k = tt
both_of P Q i (x ∷ xs) h k = ((h.0, k.0), both_of P Q (suc i) xs h.1 k.1)

-- wherever a file has the bytes of a task that fits behind its length, it reads as that task
task_back : (b rest : List ℕ) (v : ℕ) (t : Task) → FitsTask t → FitsVersion v t → At b 4 (write_task v t ++ rest)
    → (read_task b ≡ found (t, after_actions v (length t.actions))) × At b (after_actions v (length t.actions)) rest
unfolding read_task write_task counted action_count_at after_actions
task_back b rest v t h k w =
    let m : ℕ = length t.actions in
    let w₅ = after_byte b 4 v _ w 5 refl in
    let acts : List ℕ = each (write_action v) t.actions in
    let w₆ : At b 6 (bytes_of 8 t.init
    ++ (write_unknown v t ++ (bytes_of 8 t.goal ++ (write_off v t.off ++ (bytes_of 2 m ++ (acts ++ rest)))))) =
    simp append_assoc at (after_byte b 5 t.facts
    (bytes_of 8 t.init ++ write_unknown v t ++ bytes_of 8 t.goal ++ write_off v t.off ++ counted (write_action v) t.actions ++ rest)
    w₅ 6 refl) in
    let w₁₄ = after_number b 6 8 t.init _ w₆ 14 refl in
    let (unknown, w₁₅) = unknown_back b _ v t h k w₁₄ in
    let w₂₂ = after_number b (goal_at v) 8 t.goal _ w₁₅ (goal_at v + 8) refl in
    let w₂₃ = at_next b (goal_at v + 8) (write_off v t.off) _ w₂₂ (action_count_at v) (omega (arith, length_off v t.off)) in
    let w₂₄ = after_number b (action_count_at v) 2 m _ w₂₃ (action_count_at v + 2) refl in
    let size : length acts ≡ action_size v * m =
    length_each (λ _. Unit {0}) (write_action v) (action_size v) (λ a _. length_action v a) t.actions 0 (anything t.actions 0) in
    let n : ℕ = t.facts in
    let fit = both_of (λ _. FitsAction n) (λ _ a. eqb v 3 ≡ false → a.off ≡ 0) 0 t.actions h.actions (actions_off v t k) in (
      bind_in _ (byte_field b v 4 _ w)
          (bind_in _ (need_in _ 2 4 (version_known v t k))
          (bind_in _ (byte_field b t.facts 5 _ w₅)
          (bind_in _ (need_in _ 4 5 (and_in (leb 1 t.facts) (leb t.facts 64) (le→leb 1 t.facts h.some_facts)
          (le→leb t.facts 64 h.few_facts)))
          (bind_in _ (mask_back b t.facts h.few_facts t.init h.init 6 _ w₆)
          (bind_in _ unknown
          (bind_in _ (mask_back b t.facts h.few_facts t.goal h.goal (goal_at v) _ w₁₅)
          (bind_in _ (off_back b v t.facts h.few_facts t.off (h.off, goal_off v t k) (goal_at v + 8) _ w₂₂)
          (bind_in _ (count_back b 0 256 (omega arith) m (omega arith, h.few_actions) (action_count_at v) _ w₂₃)
          (bind_in _ (items_back (FitsActionOf v n) (write_action v) (action_size v) (λ a _. length_action v a) b (action b v n)
          (action_back b v n h.few_facts) t.actions 0 fit (action_count_at v + 2) rest w₂₄)
          refl))))))))),
      at_next b (action_count_at v + 2) acts rest w₂₄ (action_count_at v + 2 + action_size v * m) (omega arith),
    )

-- the bytes of a task that fits are a lawful table
pub task_lawful : (v : ℕ) (t : Task) → FitsTask t → FitsVersion v t → Lawful (write_task v t) t
task_lawful v t h k =
    let table : List ℕ = write_task v t in
    let (reads, ends) = task_back (file_of table []) [] v t h k (file_at table []) in
    let n = length_file table [] in
    let s = ends.size in
    let e : after_actions v (length t.actions) ≡ 4 + length table = omega arith in
    reads ∙ ap (λ (k : ℕ). found (t, k)) e

-- ---- files

-- a certificate that stands behind the task is read back
certificate_back : (l : Limits) (b : List ℕ) (t : Task) (q : ℕ) (es : List ActionSet) (ss : List StateSet) (ks : List Step)
    → 4 ≤ length b → FitsSize l (length b) → number 4 b 0 + 4 ≡ length b → read_task b ≡ found (t, q)
    → FitsCertificate t es ss ks → Allowed l ss ks
    → At b q (write_certificate es ss ks ++ [])
    → read_within l b ≡ found (record { version = number 1 b 4; task = t; action_sets = es; state_sets = ss; steps = ks })
unfolding read_within write_certificate counted
certificate_back l b t q es ss ks low fits size t! h a w =
    let ft : FitsTask t = task_fits b t q t! in
    let w₀ : At b q (bytes_of 2 (length es) ++ (each write_action_set es
    ++ (bytes_of 2 (length ss) ++ (each write_state_set ss ++ (bytes_of 2 (length ks) ++ (each write_step ks ++ [])))))) =
    simp append_assoc at w in
    let w₁ = after_number b q 2 (length es) _ w₀ (q + 2) refl in
    let q₁ : ℕ = q + 2 + length (each write_action_set es) in
    let w₂ = at_next b (q + 2) (each write_action_set es) _ w₁ q₁ refl in
    let w₃ = after_number b q₁ 2 (length ss) _ w₂ (q₁ + 2) refl in
    let q₂ : ℕ = q₁ + 2 + length (each write_state_set ss) in
    let w₄ = at_next b (q₁ + 2) (each write_state_set ss) _ w₃ q₂ refl in
    let w₅ = after_number b q₂ 2 (length ks) _ w₄ (q₂ + 2) refl in
    let k : length (each write_step ks) ≡ 12 * length ks = length_each FitsStep write_step 12 length_step ks 0 h.steps in
    let last : length b ≤ q₂ + 2 + 12 * length ks = (let s = w₅.size in let n = length-append (each write_step ks) [] in omega arith) in
    let sets = both_of (FitsStateSet t.facts (length es)) (λ _ x. listed_states x ≤ l.states) 0 ss h.state_sets_hold a.states in
    bind_in _ (need_in _ 1 0 (and_in (leb 4 (length b)) (leb (length b) full.size) (le→leb 4 (length b) low)
    (le→leb (length b) full.size fits.0)))
    (bind_in _ (need_in _ 1 0 (subst (λ (x : ℕ). T (eqb (number 4 b 0 + 4) x)) size (eqb_refl (number 4 b 0 + 4))))
    (bind_in _ (need_in _ 19 0 (le→leb (length b) l.size fits.1))
    (bind_in _ t!
    (bind_in _ (count_back b 0 256 (omega arith) (length es) (omega arith, h.few_action_sets) q _ w₀)
    (bind_in _ (action_sets_back b (length t.actions) ft.few_actions es h.few_action_sets h.action_sets_hold (q + 2) _ w₁)
    (bind_in _ (count_back b 0 512 (omega arith) (length ss) (omega arith, h.few_state_sets) q₁ _ w₂)
    (bind_in _ (state_sets_back b l.states t.facts (length es) ft.few_facts h.few_action_sets ss h.few_state_sets sets
    (q₁ + 2) _ w₃)
    (bind_in _ (count_back b 1 full.steps (omega arith) (length ks) (h.some_steps, h.few_steps) q₂ _ w₄)
    (bind_in _ (need_in _ 19 q₂ (le→leb (length ks) l.steps a.steps))
    (bind_in _ (items_back FitsStep write_step 12 length_step b (step b) (step_back b) ks 0 h.steps (q₂ + 2) [] w₅)
    (bind_in _ (need_in _ 3 (q₂ + 2 + 12 * length ks) (le→leb (length b) (q₂ + 2 + 12 * length ks) last)) refl)))))))))))

-- a file's length field
file_number : (table certificate : List ℕ) → length (file_of table certificate) ≤ full.size
    → number 4 (file_of table certificate) 0 + 4 ≡ length (file_of table certificate)
unfolding file_of
file_number table certificate short =
    let n : ℕ = length (table ++ certificate) in
    let e : 4 + n ≡ length (file_of table certificate) = (file_at table certificate).size in
    ap (λ (k : ℕ). k + 4) (number_back (file_of table certificate) 0 4 n _ (whole (file_of table certificate)) (omega arith)) ∙ omega arith

-- a certificate that fits is read back behind any lawful table
pub certificate_reads : (l : Limits) (table : List ℕ) (t : Task) (es : List ActionSet) (ss : List StateSet) (ks : List Step)
    → Lawful table t → FitsCertificate t es ss ks → Allowed l ss ks → FitsSize l (length (file_of table (write_certificate es ss ks)))
    → read_within l (file_of table (write_certificate es ss ks))
    ≡ found (record {
      version = number 1 (file_of table (write_certificate es ss ks)) 4;
      task = t;
      action_sets = es;
      state_sets = ss;
      steps = ks;
    })
certificate_reads l table t es ss ks law h a fits =
    let c : List ℕ = write_certificate es ss ks in
    let b : List ℕ = file_of table c in
    let n : length b ≡ 4 + (length table + length c) = length_file table c in
    let w : At b (4 + length table) c = at_next b 4 table c (file_at table c) (4 + length table) refl in
    certificate_back l b t (4 + length table) es ss ks (omega arith) fits (file_number table c fits.0) (lawful_reads table c t law)
    h a (subst (At b (4 + length table)) (sym (append-nil c)) w)

-- the version that was written
version_back : (v : ℕ) (t : Task) (c : List ℕ) → number 1 (file_of (write_task v t) c) 4 ≡ v
unfolding write_task
version_back v t c = byte_back (file_of (write_task v t) c) 4 v _ (file_at (write_task v t) c)

-- a file that fits is read back
pub reads_back : (l : Limits) (f : File) → Fits l f → FitsSize l (length (write_file f)) → read_within l (write_file f) ≡ found f
unfolding write_file
reads_back l f h size =
    let table : List ℕ = write_task f.version f.task in
    let c : List ℕ = write_certificate f.action_sets f.state_sets f.steps in
    let v : number 1 (file_of table c) 4 ≡ f.version = version_back f.version f.task c in
    certificate_reads l table f.task f.action_sets f.state_sets f.steps
    (task_lawful f.version f.task h.task h.version) h.certificate h.allowed size
    ∙ (λ i. found (record {
      version = v i;
      task = f.task;
      action_sets = f.action_sets;
      state_sets = f.state_sets;
      steps = f.steps;
    }))

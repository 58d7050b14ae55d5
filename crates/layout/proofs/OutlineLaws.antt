-- What is read of a file, beside what the code reads of it.
-- Assumes nothing.
use mathlib.Core.Path.{◌≡◌, refl, sym, ap, ap₂, ◌∙◌, subst}
use Prim.Native.Nat.{ℕ, zero, suc, ◌+◌, ◌*◌}
use native.Mathlib.Omega.{arith}
use mathlib.Core.List.{List}
use lib.ListN.{length}
use lib.Dec.{leb}
use Rattle.task.specs.Inner.{ends_of}
use Rattle.task.specs.Task.{Task}
use Rattle.certificate.specs.declared.Places.{Places}
use Rattle.meaning.specs.Result.{Result, refuse, found, ◌>>=◌, need}
use Rattle.meaning.specs.Bytes.{number}
use Rattle.meaning.specs.declared.Limits.{Limits}
use Rattle.meaning.specs.File.{File, ActionSet, StateSet, Step}
use Rattle.certificate.specs.Views.{after_entry, entry_place, places_of}
use Rattle.file_numbers.specs.Numbers.{number_at}
use Rattle.meaning.specs.Layout.{items, count, action, step, Kind, action_kinds, state_kinds, entry, entries}
use Rattle.meaning.specs.Layout.{goal_at, action_count_at, action_size, after_actions, read_task}
use Rattle.entries.specs.declared.Section.TheVariants.{StateSets}
use Rattle.layout.specs.Sections.{unknown_at, goal_off_at, section_at, step_count_at, steps_at, rest_at}
use Rattle.meaning.proofs.Reading.{task_walked}
use Rattle.meaning.proofs.Results.{bind_case, found_same}
use Rattle.meaning.proofs.Given.{items_give, action_sets_give, state_sets_give}
use Rattle.file_numbers.proofs.ByteLaws.{number_in}
use Rattle.layout.proofs.SectionChecks.{field_is, count_is, entry_fine}
use Rattle.layout.proofs.TaskLaws.{mask_is, unknown_is, goal_off_is}

-- ---- where the entries end

place_next : (bytes : List ℕ) (p k : ℕ) → entry_place bytes (after_entry bytes p) k ≡ entry_place bytes p (suc k)
unfolding entry_place
place_next bytes p zero = refl
place_next bytes p (suc k) = ap (after_entry bytes) (place_next bytes p k)

entries_place : (bytes : List ℕ) {A : Type 0} (kinds : ℕ → List (Kind A)) (k i p : ℕ) (r : List A × ℕ)
    → entries bytes kinds i p k ≡ found r
    → r.1 ≡ entry_place bytes p k
unfolding entries entry_place after_entry
entries_place bytes kinds zero i p r e = ap (λ (s : List _ × ℕ). s.1) (sym (found_same e))
entries_place bytes kinds (suc k) i p r e =
    bind_case (entry bytes (kinds i) p) _ r e λ x x! e₁.
    bind_case (entries bytes kinds (suc i) (p + 2 + number 2 bytes p) k) _ r e₁ λ s s! q.
    let h = entry_fine bytes (kinds i) p x x! in
    let w : number 2 bytes p ≡ number_at 2 bytes p = sym (number_in 2 bytes p (omega arith)) in
    ap (λ (t : List _ × ℕ). t.1) (sym (found_same q))
    ∙ entries_place bytes kinds k (suc i) (p + 2 + number 2 bytes p) s s!
    ∙ ap (λ (m : ℕ). entry_place bytes (p + 2 + m) k) w
    ∙ place_next bytes p k

-- ---- the task's numbers

pub record TaskIs (bytes : List ℕ) (t : Task) (end : ℕ) : Type 0 where
  pub version : number 1 bytes 4 ≡ number_at 1 bytes 4
  pub facts : t.facts ≡ number_at 1 bytes 5
  pub init : t.init ≡ number_at 8 bytes 6
  pub unknown : t.unknown ≡ unknown_at bytes (number_at 1 bytes 4)
  pub goal : t.goal ≡ number_at 8 bytes (goal_at (number_at 1 bytes 4))
  pub off : t.off ≡ goal_off_at bytes (number_at 1 bytes 4)
  pub actions : length t.actions ≡ number_at 2 bytes (action_count_at (number_at 1 bytes 4))
  pub ends : end ≡ after_actions (number_at 1 bytes 4) (length t.actions)

pub task_is : (bytes : List ℕ) (r : Task × ℕ) → read_task bytes ≡ found r → TaskIs bytes r.0 r.1
task_is bytes r e =
    let w = task_walked bytes r e in
    let o = field_is bytes 1 4 w.v w.v! in
    let h : length w.acts ≡ w.m =
    (items_give (λ _. Unit {0}) (action bytes w.v w.n) (action_size w.v) (λ p x e. tt) w.m 0 _ w.acts w.acts!).0 in
    subst (λ (x : Task × ℕ). TaskIs bytes x.0 x.1) w.whole
    (record {
      version = sym (number_in 1 bytes 4 o.1);
      facts = (field_is bytes 1 5 w.n w.n!).0;
      init = (mask_is bytes w.n 6 w.s w.s!).0;
      unknown = rw (← o.0) (unknown_is bytes w.v w.n w.s w.u w.s! w.u!).0;
      goal = rw (← o.0) (mask_is bytes w.n (goal_at w.v) w.g w.g!).0;
      off = rw (← o.0) (goal_off_is bytes w.v w.n w.o w.o!);
      actions = rw (← o.0) (h ∙ (count_is bytes 0 256 (action_count_at w.v) w.m w.m!).0);
      ends = rw (← o.0, h) refl;
    })

-- ---- two readings that refuse alike, and find what goes together

pub data Agree {A B : Type 0} (P : A → B → Type 0) : Result A → Result B → Type 0 where
  refusals : {n p : ℕ} → Agree P (refuse n p) (refuse n p)
  values : {a : A} {b : B} → P a b → Agree P (found a) (found b)

agree_bind : {A B C : Type 0} {P : B → C → Type 0} (r : Result A) (g : A → Result B) (h : A → Result C)
    → ((x : A) → r ≡ found x → Agree P (g x) (h x)) → Agree P (r >>= g) (r >>= h)
unfolding ◌>>=◌
agree_bind (refuse n p) g h f = refusals
agree_bind (found x) g h f = f x refl

-- the second may be grouped otherwise
agree_group : {A B C D : Type 0} {P : B → C → Type 0} (s : Result B) (r : Result A) (k : A → Result D) (h : D → Result C)
    → Agree P s (r >>= λ x. k x >>= h) → Agree P s ((r >>= k) >>= h)
unfolding ◌>>=◌
agree_group s (refuse n p) k h a = a
agree_group s (found x) k h a = a

agree_found : {B C D : Type 0} {P : B → C → Type 0} {s : Result B} (x : D) (h : D → Result C) → Agree P s (h x) → Agree P s (found x >>= h)
unfolding ◌>>=◌
agree_found x h a = a

-- ---- the certificate

module _ (l : Limits) (bytes : List ℕ) (t : Task) (same : number 1 bytes 4 ≡ number_at 1 bytes 4) where
  -- the place after the actions
  abbrev pub start : ℕ
  start = after_actions (number_at 1 bytes 4) (length t.actions)

  -- what is read after the action sets, and what is read from the place after the actions on
  unfoldable pub later : ℕ → List ActionSet × ℕ → Result File
  later ac es = do
    sc ← count bytes 0 512 es.1
    ss ← entries bytes (state_kinds bytes l.states t.facts ac) 0 (es.1 + 2) sc
    kc ← count bytes 1 2048 ss.1
    _ ← need (leb kc l.steps) 19 ss.1
    ks ← items (step bytes) 12 (ss.1 + 2) kc
    _ ← need (leb (length bytes) (ss.1 + 2 + 12 * kc)) 3 (ss.1 + 2 + 12 * kc)
    found (record { version = number 1 bytes 4; task = t; action_sets = es.0; state_sets = ss.0; steps = ks })

  unfoldable pub tail : Result File
  tail = do
    ac ← count bytes 0 256 start
    es ← entries bytes (action_kinds bytes (length t.actions)) 0 (start + 2) ac
    later ac es

  -- where its parts are, by the places after the action sets and the state sets
  abbrev pub placed : ℕ → ℕ → Places
  placed a s = record {
    ends = ends_of t;
    actions = length t.actions;
    action_sets = number_at 2 bytes start;
    state_sets = number_at 2 bytes a;
    steps = number_at 2 bytes s;
    action_sets_at = start + 2;
    state_sets_at = a + 2;
    steps_at = s + 2;
  }

  module _ (ac sc kc : ℕ) (es : List ActionSet × ℕ) (ss : List StateSet × ℕ) (ks : List Step) (ac! : count bytes 0 256 start ≡ found ac)
      (es! : entries bytes (action_kinds bytes (length t.actions)) 0 (start + 2) ac ≡ found es)
      (sc! : count bytes 0 512 es.1 ≡ found sc)
      (ss! : entries bytes (state_kinds bytes l.states t.facts ac) 0 (es.1 + 2) sc ≡ found ss)
      (kc! : count bytes 1 2048 ss.1 ≡ found kc)
      (ks! : items (step bytes) 12 (ss.1 + 2) kc ≡ found ks) where
    places_are : places_of bytes (record { version = number 1 bytes 4; task = t; action_sets = es.0; state_sets = ss.0; steps = ks })
        ≡ placed es.1 ss.1
    unfolding places_of
    places_are =
        let la : length es.0 ≡ ac = (action_sets_give bytes (length t.actions) ac (start + 2) es es!).0 in
        let ls : length ss.0 ≡ sc = (state_sets_give bytes l.states t.facts ac sc (es.1 + 2) ss ss!).0 in
        let lk : length ks ≡ kc = (items_give (λ _. Unit {0}) (step bytes) 12 (λ p x e. tt) kc 0 (ss.1 + 2) ks ks!).0 in
        let p : ℕ = after_actions (number 1 bytes 4) (length t.actions) + 2 in
        let a : p ≡ start + 2 = ap (λ (v : ℕ). after_actions v (length t.actions) + 2) same in
        let b : entry_place bytes p (length es.0) + 2 ≡ es.1 + 2 =
        ap₂ (λ (p k : ℕ). entry_place bytes p k + 2) a la
        ∙ ap (λ (p : ℕ). p + 2) (sym (entries_place bytes (action_kinds bytes (length t.actions)) ac 0 (start + 2) es es!)) in
        let c : entry_place bytes (entry_place bytes p (length es.0) + 2) (length ss.0) + 2 ≡ ss.1 + 2 =
        ap₂ (λ (p k : ℕ). entry_place bytes p k + 2) b ls
        ∙ ap (λ (p : ℕ). p + 2) (sym (entries_place bytes (state_kinds bytes l.states t.facts ac) sc 0 (es.1 + 2) ss ss!)) in
        let na : length es.0 ≡ number_at 2 bytes start = la ∙ (count_is bytes 0 256 start ac ac!).0 in
        let ns : length ss.0 ≡ number_at 2 bytes es.1 = ls ∙ (count_is bytes 0 512 es.1 sc sc!).0 in
        let nk : length ks ≡ number_at 2 bytes ss.1 = lk ∙ (count_is bytes 1 2048 ss.1 kc kc!).0 in
        λ i. record {
          ends = ends_of t;
          actions = length t.actions;
          action_sets = na i;
          state_sets = ns i;
          steps = nk i;
          action_sets_at = a i;
          state_sets_at = b i;
          steps_at = c i;
        }

  abbrev pub Placed : File → ℕ × ℕ → Type 0
  Placed f x = places_of bytes f ≡ placed x.0 x.1

  -- the file that is read has its parts where the code finds them, and what is refused is refused alike
  pub tail_agrees : Agree Placed tail (rest_at bytes l t.facts (length t.actions) start)
  unfolding later tail rest_at section_at step_count_at steps_at
  tail_agrees =
      agree_group tail (count bytes 0 256 start) _ _
      (agree_bind (count bytes 0 256 start) _ _ λ ac ac!.
      agree_bind (entries bytes (action_kinds bytes (length t.actions)) 0 (start + 2) ac) _ _ λ es es!.
      subst (λ (o : ℕ). Agree {A = File} {B = ℕ × ℕ} Placed (later ac es)
      (section_at bytes (StateSets t.facts o l.states) 512 es.1
      >>= λ ss. steps_at bytes l.steps ss.1 >>= λ _. found (es.1, ss.1)))
      (count_is bytes 0 256 start ac ac!).0
      (agree_group _ (count bytes 0 512 es.1) _ _
      (agree_bind (count bytes 0 512 es.1) _ _ λ sc sc!.
      agree_bind (entries bytes (state_kinds bytes l.states t.facts ac) 0 (es.1 + 2) sc) _ _ λ ss ss!.
      agree_group _ (step_count_at bytes l.steps ss.1) _ _
      (agree_group _ (count bytes 1 2048 ss.1) _ _
      (agree_bind (count bytes 1 2048 ss.1) _ _ λ kc kc!.
      agree_group _ (need (leb kc l.steps) 19 ss.1) _ _
      (agree_bind (need (leb kc l.steps) 19 ss.1) _ _ λ _ _.
      agree_found kc _ (
      agree_group _ (items (step bytes) 12 (ss.1 + 2) kc) _ _
      (agree_bind (items (step bytes) 12 (ss.1 + 2) kc) _ _ λ ks ks!.
      agree_group _ (need (leb (length bytes) (ss.1 + 2 + 12 * kc)) 3 (ss.1 + 2 + 12 * kc)) _ _
      (agree_bind (need (leb (length bytes) (ss.1 + 2 + 12 * kc)) 3 (ss.1 + 2 + 12 * kc)) _ _ λ _ _.
      agree_found ks _ (values (places_are ac sc kc es ss ks ac! es! sc! ss! kc! ks!)))))))))))

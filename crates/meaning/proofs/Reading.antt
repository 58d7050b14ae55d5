-- What is known of a file that is read: all of it is within the format's limits.
-- Assumes nothing.
use mathlib.Core.Path.{◌≡◌, refl, sym, subst}
use Prim.Native.Nat.{ℕ, suc, ◌+◌, ◌*◌, ◌≤◌}
use mathlib.Core.Bool.{false, ◌&&◌}
use mathlib.Core.List.{List, [], ◌∷◌}
use lib.ListN.{length}
use lib.Dec.{T, eqb, leb, eqb→eq, leb→le}
use Rattle.task.specs.declared.Action.{Action}
use Rattle.task.specs.Task.{Task}
use Rattle.meaning.specs.Result.{found}
use Rattle.meaning.specs.Bytes.{number, inside, AreBytes}
use Rattle.meaning.specs.File.{ActionSet, StateSet, Step, File}
use Rattle.meaning.specs.declared.Limits.{Limits}
use Rattle.meaning.specs.Limits.{full}
use Rattle.meaning.specs.Layout.{items, field, count, mask, action, step, action_kinds, state_kinds, entries, read_within}
use Rattle.meaning.specs.Layout.{goal_at, action_count_at, action_size, after_actions, unknown_mask, off_mask, read_task}
use Rattle.meaning.specs.Layout.{read_file}
use Rattle.meaning.specs.Writing.{AllFrom, All, FitsAction, FitsTask, FitsVersion, FitsActionSet, FitsStateSet, FitsStep}
use Rattle.meaning.specs.Writing.{listed_states, Allowed, Fits, FitsSize}
use Rattle.meaning.proofs.Results.{found_same, bind_case, need_case, and_out}
use Rattle.meaning.proofs.Numbers.{number_lt}
use Rattle.meaning.proofs.Again.{field_out}
use Rattle.meaning.proofs.Unknown.{Unknown, unknown_out, unknown_fits, version_fits}
use Rattle.meaning.proofs.Off.{FitsActionOf, none_off}
use Rattle.meaning.proofs.Given.{Gives, mask_gives, off_gives, count_gives, action_gives, items_give, action_sets_give}
use Rattle.meaning.proofs.Given.{state_sets_give}

-- of two properties of each item, each
each_of : {A : Type 0} (P Q : ℕ → A → Type 0) (i : ℕ) (xs : List A) → AllFrom (λ i x. P i x × Q i x) i xs → AllFrom P i xs × AllFrom Q i xs
each_of P Q i [] h = (tt, tt)
each_of P Q i (x ∷ xs) h = let r = each_of P Q (suc i) xs h.1 in ((h.0.0, r.0), (h.0.1, r.1))

-- the parts of a task that is read
pub record TaskWalked (bytes : List ℕ) (r : Task × ℕ) : Type 0 where
  pub v : ℕ
  pub v! : field bytes 1 4 ≡ found v
  pub known : T (leb 1 v && leb v 3)
  pub n : ℕ
  pub n! : field bytes 1 5 ≡ found n
  pub some_facts : 1 ≤ n
  pub few_facts : n ≤ 64
  pub s : ℕ
  pub s! : mask bytes n 6 ≡ found s
  pub u : ℕ
  pub u! : Unknown bytes v n s u
  pub g : ℕ
  pub g! : mask bytes n (goal_at v) ≡ found g
  pub o : ℕ
  pub o! : off_mask bytes v n (goal_at v + 8) ≡ found o
  pub m : ℕ
  pub m! : count bytes 0 256 (action_count_at v) ≡ found m
  pub acts : List Action
  pub acts! : items (action bytes v n) (action_size v) (action_count_at v + 2) m ≡ found acts
  pub whole : ◌≡◌ {A = Task × ℕ} (record { facts = n; init = s; unknown = u; goal = g; off = o; actions = acts }, after_actions v m) r

pub task_walked : (bytes : List ℕ) (r : Task × ℕ) → read_task bytes ≡ found r → TaskWalked bytes r
unfolding read_task
task_walked bytes r e =
    bind_case (field bytes 1 4) _ r e λ v v! e₁.
    need_case (leb 1 v && leb v 3) 2 4 _ r e₁ λ known e₂.
    bind_case (field bytes 1 5) _ r e₂ λ n n! e₃.
    need_case (leb 1 n && leb n 64) 4 5 _ r e₃ λ h e₄.
    bind_case (mask bytes n 6) _ r e₄ λ s s! e₅.
    bind_case (unknown_mask bytes v n s) _ r e₅ λ u u! e₆.
    bind_case (mask bytes n (goal_at v)) _ r e₆ λ g g! e₇.
    bind_case (off_mask bytes v n (goal_at v + 8)) _ r e₇ λ o o! e₈.
    bind_case (count bytes 0 256 (action_count_at v)) _ r e₈ λ m m! e₉.
    bind_case (items (action bytes v n) (action_size v) (action_count_at v + 2) m) _ r e₉ λ acts acts! q.
    let b = and_out (leb 1 n) (leb n 64) h in
    record {
      v = v;
      v! = v!;
      known = known;
      n = n;
      n! = n!;
      some_facts = leb→le 1 n b.0;
      few_facts = leb→le n 64 b.1;
      s = s;
      s! = s!;
      u = u;
      u! = unknown_out bytes v n s u u!;
      g = g;
      g! = g!;
      o = o;
      o! = o!;
      m = m;
      m! = m!;
      acts = acts;
      acts! = acts!;
      whole = found_same q;
    }

-- it fits the format and the version, and ends where its actions do
pub record TaskRead (bytes : List ℕ) (t : Task) (end : ℕ) : Type 0 where
  pub fits : FitsTask t
  pub version : FitsVersion (number 1 bytes 4) t
  pub ends : end ≡ after_actions (number 1 bytes 4) (length t.actions)

pub task_read : (bytes : List ℕ) (t : Task) (end : ℕ) → read_task bytes ≡ found (t, end) → TaskRead bytes t end
task_read bytes t end e =
    let w = task_walked bytes (t, end) e in
    let v : ℕ = w.v in
    let n : ℕ = w.n in
    let h = items_give (FitsActionOf v n) (action bytes v n) (action_size v) (action_gives bytes v n) w.m 0 _ w.acts w.acts! in
    let (fit, off) = each_of (λ _. FitsAction n) (λ _ a. eqb v 3 ≡ false → a.off ≡ 0) 0 w.acts h.1 in
    let o = off_gives bytes v n (goal_at v + 8) w.o w.o! in
    let u = unknown_fits bytes w.v w.n w.s w.u! in
    let i : w.v ≡ number 1 bytes 4 = sym (field_out bytes 1 4 w.v w.v!).1 in
    let r : Task = record { facts = w.n; init = w.s; unknown = w.u; goal = w.g; off = w.o; actions = w.acts } in
    subst (λ (x : Task × ℕ). TaskRead bytes x.0 x.1) w.whole
    (record {
      fits = record {
        some_facts = w.some_facts;
        few_facts = w.few_facts;
        init = mask_gives bytes w.n 6 w.s w.s!;
        unknown = u.0;
        apart = u.1;
        goal = mask_gives bytes w.n (goal_at w.v) w.g w.g!;
        off = o.0;
        few_actions = subst (λ (l : ℕ). l ≤ 256) (sym h.0) (count_gives bytes 0 256 _ w.m w.m!).1;
        actions = fit;
      };
      version = rw (← i) (version_fits bytes v n w.s r w.known w.u! (none_off v n r o off));
      ends = rw (← i, h.0) refl;
    })

-- a task that is read is within the limits
pub task_fits : (bytes : List ℕ) (t : Task) (end : ℕ) → read_task bytes ≡ found (t, end) → FitsTask t
task_fits bytes t end e = (task_read bytes t end e).fits

-- what is known of a file without a bound on the list's numbers
pub record Read (bytes : List ℕ) (f : File) : Type 0 where
  pub end : ℕ
  pub table : read_task bytes ≡ found (f.task, end)
  pub task : FitsTask f.task
  pub few_action_sets : length f.action_sets ≤ 256
  pub action_sets_hold : AllFrom (FitsActionSet (length f.task.actions)) 0 f.action_sets
  pub few_state_sets : length f.state_sets ≤ 512
  pub state_sets_hold : AllFrom (FitsStateSet f.task.facts (length f.action_sets)) 0 f.state_sets
  pub some_steps : 1 ≤ length f.steps
  pub few_steps : length f.steps ≤ full.steps
  pub three : All (λ s. length s.premises ≡ 3) f.steps

three_gives : (bytes : List ℕ) → Gives (λ s. length s.premises ≡ 3) (step bytes)
unfolding step
three_gives bytes p s e =
    need_case (inside 12 bytes p) 3 p _ s e λ _ q.
    subst (λ (x : Step). length x.premises ≡ 3) (found_same q) refl

step_gives : (bytes : List ℕ) → AreBytes bytes → Gives FitsStep (step bytes)
unfolding step
step_gives bytes h p s e =
    need_case (inside 12 bytes p) 3 p _ s e λ _ q.
    subst FitsStep (found_same q)
    (record {
      rule = number_lt bytes h 1 p;
      kind = number_lt bytes h 1 (p + 1);
      left = number_lt bytes h 2 (p + 2);
      right = number_lt bytes h 2 (p + 4);
      three = refl;
      premises = (number_lt bytes h 2 (p + 6), (number_lt bytes h 2 (p + 8), (number_lt bytes h 2 (p + 10), tt)));
    })

-- the parts of a file that is read, each from where the one before it ends
pub record Walked (l : Limits) (bytes : List ℕ) (f : File) : Type 0 where
  pub long : 4 ≤ length bytes
  pub size : number 4 bytes 0 + 4 ≡ length bytes
  pub short : length bytes ≤ full.size
  pub allowed_size : length bytes ≤ l.size
  pub t : Task × ℕ
  pub t! : read_task bytes ≡ found t
  pub ac : ℕ
  pub ac! : count bytes 0 256 t.1 ≡ found ac
  pub es : List ActionSet × ℕ
  pub es! : entries bytes (action_kinds bytes (length t.0.actions)) 0 (t.1 + 2) ac ≡ found es
  pub sc : ℕ
  pub sc! : count bytes 0 512 es.1 ≡ found sc
  pub ss : List StateSet × ℕ
  pub ss! : entries bytes (state_kinds bytes l.states t.0.facts ac) 0 (es.1 + 2) sc ≡ found ss
  pub kc : ℕ
  pub kc! : count bytes 1 full.steps ss.1 ≡ found kc
  pub allowed_steps : kc ≤ l.steps
  pub ks : List Step
  pub ks! : items (step bytes) 12 (ss.1 + 2) kc ≡ found ks
  pub last : length bytes ≤ ss.1 + 2 + 12 * kc
  pub whole : record { version = number 1 bytes 4; task = t.0; action_sets = es.0; state_sets = ss.0; steps = ks } ≡ f

pub within_walked : (l : Limits) (bytes : List ℕ) (f : File) → read_within l bytes ≡ found f → Walked l bytes f
unfolding read_within
within_walked l bytes f e =
    need_case (leb 4 (length bytes) && leb (length bytes) full.size) 1 0 _ f e λ long e₁.
    need_case (eqb (number 4 bytes 0 + 4) (length bytes)) 1 0 _ f e₁ λ size e₂.
    need_case (leb (length bytes) l.size) 19 0 _ f e₂ λ small e₃.
    bind_case (read_task bytes) _ f e₃ λ t t! e₄.
    bind_case (count bytes 0 256 t.1) _ f e₄ λ ac ac! e₅.
    bind_case (entries bytes (action_kinds bytes (length t.0.actions)) 0 (t.1 + 2) ac) _ f e₅ λ es es! e₆.
    bind_case (count bytes 0 512 es.1) _ f e₆ λ sc sc! e₇.
    bind_case (entries bytes (state_kinds bytes l.states t.0.facts ac) 0 (es.1 + 2) sc) _ f e₇ λ ss ss! e₈.
    bind_case (count bytes 1 full.steps ss.1) _ f e₈ λ kc kc! e₉.
    need_case (leb kc l.steps) 19 ss.1 _ f e₉ λ few e₁₀.
    bind_case (items (step bytes) 12 (ss.1 + 2) kc) _ f e₁₀ λ ks ks! e₁₁.
    need_case (leb (length bytes) (ss.1 + 2 + 12 * kc)) 3 (ss.1 + 2 + 12 * kc) _ f e₁₁ λ last q.
    let b = and_out (leb 4 (length bytes)) (leb (length bytes) full.size) long in
    record {
      long = leb→le 4 (length bytes) b.0;
      size = eqb→eq (number 4 bytes 0 + 4) (length bytes) size;
      short = leb→le (length bytes) full.size b.1;
      allowed_size = leb→le (length bytes) l.size small;
      t = t;
      t! = t!;
      ac = ac;
      ac! = ac!;
      es = es;
      es! = es!;
      sc = sc;
      sc! = sc!;
      ss = ss;
      ss! = ss!;
      kc = kc;
      kc! = kc!;
      allowed_steps = leb→le kc l.steps few;
      ks = ks;
      ks! = ks!;
      last = leb→le (length bytes) (ss.1 + 2 + 12 * kc) last;
      whole = found_same q;
    }

pub file_walked : (bytes : List ℕ) (f : File) → read_file bytes ≡ found f → Walked full bytes f
unfolding read_file
file_walked bytes f e = within_walked full bytes f e

-- what is read is within the limits, with one more property of the steps
read_with : (l : Limits) (bytes : List ℕ) (Q : Step → Type 0) → Gives Q (step bytes) → (f : File) → read_within l bytes ≡ found f
    → Read bytes f × Allowed l f.state_sets f.steps × All Q f.steps
read_with l bytes Q given f e =
    let w = within_walked l bytes f e in
    let a = action_sets_give bytes (length w.t.0.actions) w.ac (w.t.1 + 2) w.es w.es! in
    let x = state_sets_give bytes l.states w.t.0.facts w.ac w.sc (w.es.1 + 2) w.ss w.ss! in
    let y = each_of (FitsStateSet w.t.0.facts w.ac) (λ _ s. listed_states s ≤ l.states) 0 w.ss.0 x.1 in
    let k = items_give (λ (s : Step). length s.premises ≡ 3) (step bytes) 12 (three_gives bytes) w.kc 0 (w.ss.1 + 2) w.ks
    w.ks! in
    let c = count_gives bytes 1 full.steps w.ss.1 w.kc w.kc! in
    subst (λ (g : File). Read bytes g × Allowed l g.state_sets g.steps × All Q g.steps) w.whole (
      record {
        end = w.t.1;
        table = w.t!;
        task = task_fits bytes w.t.0 w.t.1 w.t!;
        few_action_sets = subst (λ (l : ℕ). l ≤ 256) (sym a.0) (count_gives bytes 0 256 w.t.1 w.ac w.ac!).1;
        action_sets_hold = a.1;
        few_state_sets = subst (λ (l : ℕ). l ≤ 512) (sym x.0) (count_gives bytes 0 512 w.es.1 w.sc w.sc!).1;
        state_sets_hold = subst (λ (m : ℕ). AllFrom (FitsStateSet w.t.0.facts m) 0 w.ss.0) (sym a.0) y.0;
        some_steps = subst (λ (l : ℕ). 1 ≤ l) (sym k.0) c.0;
        few_steps = subst (λ (l : ℕ). l ≤ full.steps) (sym k.0) c.1;
        three = k.1;
      },
      record { states = y.1; steps = subst (λ (n : ℕ). n ≤ l.steps) (sym k.0) w.allowed_steps },
      (items_give Q (step bytes) 12 given w.kc 0 (w.ss.1 + 2) w.ks w.ks!).1,
    )

pub file_read : (bytes : List ℕ) (f : File) → read_file bytes ≡ found f → Read bytes f
unfolding read_file
file_read bytes f e = (read_with full bytes (λ s. length s.premises ≡ 3) (three_gives bytes) f e).0

-- a file that is read from bytes is within the limits
pub reads_within : (l : Limits) (bytes : List ℕ) (f : File) → AreBytes bytes → read_within l bytes ≡ found f
    → Fits l f × FitsSize l (length bytes)
reads_within l bytes f h e =
    let r = read_with l bytes FitsStep (step_gives bytes h) f e in
    let w = within_walked l bytes f e in (
      record {
        version =
            subst (λ (g : File). FitsVersion g.version g.task) w.whole (task_read bytes w.t.0 w.t.1 w.t!).version;
        task = r.0.task;
        certificate = record {
          few_action_sets = r.0.few_action_sets;
          action_sets_hold = r.0.action_sets_hold;
          few_state_sets = r.0.few_state_sets;
          state_sets_hold = r.0.state_sets_hold;
          some_steps = r.0.some_steps;
          few_steps = r.0.few_steps;
          steps = r.2;
        };
        allowed = r.1;
      },
      (w.short, w.allowed_size),
    )

-- Writing what was read gives the bytes back: a task, a file.
-- Assumes nothing.
use mathlib.Core.Path.{◌≡◌, refl, sym, ap, ◌∙◌, subst}
use Prim.Native.Nat.{ℕ, ◌+◌, ◌*◌, ◌≤◌}
use native.Mathlib.Omega.{arith}
use mathlib.Core.List.{List, ◌++◌, append-nil}
use lib.ListN.{length, drop_of_length-le}
use Rattle.task.specs.Task.{Task}
use Rattle.meaning.specs.Result.{Result, found}
use Rattle.meaning.specs.Bytes.{bytes_of, number, AreBytes}
use Rattle.meaning.specs.File.{File}
use Rattle.meaning.specs.Limits.{full}
use Rattle.meaning.specs.Layout.{items, count, action, step, goal_at, action_count_at, action_size, after_actions, read_task, read_file}
use Rattle.meaning.specs.Writing.{each, write_action, write_action_set, write_state_set, write_step, counted, write_task, write_certificate}
use Rattle.meaning.specs.Writing.{file_of, write_file}
use Rattle.meaning.proofs.Given.{items_give, action_sets_give, state_sets_give}
use Rattle.meaning.proofs.Reading.{task_walked, file_walked}
use Rattle.meaning.proofs.Unknown.{unknown_again}
use Rattle.meaning.proofs.Again.{field_out}
use Rattle.meaning.proofs.Again.{Spans, joined, spans_length, Again, number_spans, byte_again, count_again, mask_again, off_again}
use Rattle.meaning.proofs.Again.{action_again}
use Rattle.meaning.proofs.Again.{step_again, items_again}
use Rattle.meaning.proofs.AgainEntries.{action_sets_again, state_sets_again}

module _ (bytes : List ℕ) (h : AreBytes bytes) where
  -- a count, and as many items behind it
  counted_again : {A : Type 0} (write : A → List ℕ) (low high p q c : ℕ) (xs : List A) → count bytes low high p ≡ found c → length xs ≡ c
      → Spans bytes (p + 2) q (each write xs) → Spans bytes p q (counted write xs)
  unfolding counted
  counted_again write low high p q c xs c! n w =
      joined (subst (λ (k : ℕ). Spans bytes p (p + 2) (bytes_of 2 k)) (sym n) (count_again bytes h low high p (p + 2) refl c c!)) w

  -- the same of items of one size
  counted_items : {A : Type 0} (write : A → List ℕ) (size : ℕ) (read : ℕ → Result A) → Again bytes write size read
      → (low high p c : ℕ) (xs : List A) → count bytes low high p ≡ found c → items read size (p + 2) c ≡ found xs
      → Spans bytes p (p + 2 + size * c) (counted write xs)
  counted_items write size read again low high p c xs c! xs! =
      counted_again write low high p (p + 2 + size * c) c xs c!
      (items_give (λ _. Unit {0}) read size (λ _ _ _. tt) c 0 (p + 2) xs xs!).0
      (items_again bytes write size read again c (p + 2) (p + 2 + size * c) refl xs xs!)

  task_again : (r : Task × ℕ) → read_task bytes ≡ found r → Spans bytes 4 r.1 (write_task (number 1 bytes 4) r.0)
  unfolding write_task action_count_at after_actions
  task_again r e =
      let w = task_walked bytes r e in
      let n : ℕ = w.n in
      let v : ℕ = w.v in
      let t : Task = record { facts = n; init = w.s; unknown = w.u; goal = w.g; off = w.o; actions = w.acts } in
      rw (field_out bytes 1 4 v w.v!).1
      (subst (λ (x : Task × ℕ). Spans bytes 4 x.1 (write_task v x.0)) w.whole
      (joined (joined (joined (joined (joined (joined (byte_again bytes h 4 5 refl v w.v!) (byte_again bytes h 5 6 refl n w.n!))
      (mask_again bytes h n 6 14 refl w.s w.s!)) (unknown_again bytes h v n w.s t w.u!))
      (mask_again bytes h n (goal_at v) (goal_at v + 8) refl w.g w.g!))
      (off_again bytes h v n (goal_at v + 8) (action_count_at v) refl w.o w.o!))
      (counted_items (write_action v) (action_size v) (action bytes v n) (action_again bytes h v n) 0 256 (action_count_at v) w.m w.acts
      w.m! w.acts!)))

  -- the bytes between the length field and a place that is not before the end
  abbrev Behind : File → Type 0
  Behind f = (end : ℕ) × (length bytes ≤ end)
      × Spans bytes 4 end (write_task f.version f.task ++ write_certificate f.action_sets f.state_sets f.steps)

  file_again : (f : File) → read_file bytes ≡ found f → Behind f
  unfolding write_certificate
  file_again f e =
      let w = file_walked bytes f e in
      let p : ℕ = w.t.1 in
      let q : ℕ = w.es.1 in
      let r : ℕ = w.ss.1 in
      let m : ℕ = length w.t.0.actions in
      let n : ℕ = w.t.0.facts in
      let es : Spans bytes p q (counted write_action_set w.es.0) =
      counted_again write_action_set 0 256 p q w.ac w.es.0 w.ac! (action_sets_give bytes m w.ac (p + 2) w.es w.es!).0
      (action_sets_again bytes h m w.ac (p + 2) w.es w.es!) in
      let ss : Spans bytes q r (counted write_state_set w.ss.0) =
      counted_again write_state_set 0 512 q r w.sc w.ss.0 w.sc!
      (state_sets_give bytes full.states n w.ac w.sc (q + 2) w.ss w.ss!).0
      (state_sets_again bytes h full.states n w.ac w.sc (q + 2) w.ss w.ss!) in
      let ks = counted_items write_step 12 (step bytes) (step_again bytes h) 1 2048 r w.kc w.ks w.kc! w.ks! in
      subst Behind w.whole (r + 2 + 12 * w.kc, w.last, joined (task_again w.t w.t!) (joined (joined es ss) ks))

-- a file has no other bytes than those that are written of what is read
pub writes_back : (bytes : List ℕ) (f : File) → AreBytes bytes → read_file bytes ≡ found f → write_file f ≡ bytes
unfolding write_file file_of
writes_back bytes f h e =
    let x : List ℕ = write_task f.version f.task ++ write_certificate f.action_sets f.state_sets f.steps in
    let c : Behind bytes h f = file_again bytes h f e in
    let l : length bytes ≤ c.0 = c.1 in
    let w₀ = file_walked bytes f e in
    let size : number 4 bytes 0 + 4 ≡ length bytes = w₀.size in
    let n : number 4 bytes 0 ≡ length x = (let m = spans_length c.2 in omega arith) in
    let w : Spans bytes 0 c.0 (bytes_of 4 (length x) ++ x) =
    subst (λ (i : ℕ). Spans bytes 0 c.0 (bytes_of 4 i ++ x)) n (joined (number_spans bytes h 4 0 4 refl w₀.long) c.2) in
    sym (w.split ∙ ap (λ (y : List ℕ). bytes_of 4 (length x) ++ x ++ y) (drop_of_length-le bytes l)
    ∙ append-nil (bytes_of 4 (length x) ++ x))

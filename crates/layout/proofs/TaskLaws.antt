-- The fields up to and with the actions, test by test. The masks of the start, the goal and the actions are read as runs of masks.
-- Assumes nothing.
use mathlib.Core.Path.{◌≡◌, refl, sym, ap, ap₂, ◌∙◌}
use Prim.Native.Nat.{ℕ, zero, suc, ◌+◌, ◌*◌, ◌/◌, ◌^◌, ◌≤◌}
use native.Mathlib.Nat.{mul-suc}
use native.Mathlib.Omega.{arith}
use mathlib.Core.Bool.{Bool, true, false, ◌&&◌}
use mathlib.Core.List.{List, [], ◌∷◌}
use lib.ListN.{length}
use lib.Bits.{bit_and}
use lib.Dec.{leb, ltb, eqb}
use borrow.Author.Tests.{eq-eqb, ne_eqb}
use Rattle.task.specs.Task.{Task}
use Rattle.std.specs.declared.result.Result as code
use Rattle.std.specs.declared.result.Result.TheVariants.{Ok, Err}
use Rattle.meaning.specs.declared.Fault.{Fault}
use Rattle.meaning.specs.Told.{told}
use Rattle.meaning.specs.Result.{Result, refuse, found, ◌>>=◌, need}
use Rattle.meaning.specs.Bytes.{inside}
use Rattle.file_numbers.specs.Numbers.{number_at}
use Rattle.meaning.specs.Layout.{items, field, count, mask, off_mask, action, goal_at, off_size, action_count_at, action_size, after_actions}
use Rattle.meaning.specs.Layout.{unknown_mask, read_task}
use Rattle.bodies.specs.Faults.{Answer, fault}
use Rattle.layout.specs.Sections.{facts_at, start_at, unknown_at, goals_at, goal_off_at}
use Rattle.meaning.proofs.Results.{bind_case, bind_same, need_case, found_same}
use Rattle.meaning.proofs.Places.{by_test, goal_first, goal_later, off_none, off_some, places}
use Rattle.meaning.proofs.Off.{read_off, read_no_off}
use Rattle.meaning.proofs.Unknown.{Unknown, none, some, unknown_out}
use Rattle.file_numbers.proofs.ByteLaws.{inside_out}
use Rattle.bodies.proofs.Faults.{forget, told_alike, goes_on, stops, passed, failed, forget_after}
use Rattle.layout.proofs.ToldLaws.{told_ok, told_err, told_stops}
use Rattle.bodies.proofs.FieldLaws.{field_in}
use Rattle.layout.proofs.SectionChecks.{field_is}

-- readings one within the other, and one after the other
in_turn : {A B D : Type 0} (r : Result A) (f : A → Result B) (g : B → Result D) (h : A → Result D) → ((x : A) → (f x >>= g) ≡ h x)
    → ((r >>= f) >>= g) ≡ (r >>= h)
unfolding ◌>>=◌
in_turn (refuse n p) f g h e = refl
in_turn (found x) f g h e = e x

-- ---- runs of masks

-- a mask by itself is one of a run
one_mask : (read : ℕ → Result ℕ) (p : ℕ) → forget (items read 8 p 1) ≡ forget (read p)
unfolding items ◌>>=◌
one_mask read p = forget_after (read p) (λ x. x ∷ [])

-- the first item of a run and what comes after it, where only refusals count
forget_on : {A B : Type 0} (r : Result A) (g : A → Result B) (u : Result (Unit {0})) → ((x : A) → forget (g x) ≡ u)
    → forget (r >>= g) ≡ (forget r >>= λ _. u)
unfolding ◌>>=◌
forget_on (refuse m p) g u h = refl
forget_on (found x) g u h = h x

run_first : {A : Type 0} (read : ℕ → Result A) (size p k : ℕ)
    → forget (items read size p (suc k)) ≡ (forget (read p) >>= λ _. forget (items read size (p + size) k))
unfolding items
run_first read size p k = forget_on (read p) _ _ (λ x. forget_after (items read size (p + size) k) (λ xs. x ∷ xs))

-- the first j items, and the others
run_apart : {A : Type 0} (read : ℕ → Result A) (size j k p : ℕ)
    → forget (items read size p (j + k)) ≡ (forget (items read size p j) >>= λ _. forget (items read size (p + size * j) k))
unfolding items ◌>>=◌
run_apart read size zero k p =
    let e : p ≡ p + size * 0 = omega arith in
    let d : 0 + k ≡ k = omega arith in
    λ i. forget (items read size (e i) (d i))
run_apart read size (suc j) k p =
    let d : suc j + k ≡ suc (j + k) = omega arith in
    let e : p + size + size * j ≡ p + size * suc j = omega (arith, mul-suc size j) in
    let f = sym (run_first read size p j) in
    ap (λ (l : ℕ). forget (items read size p l)) d
    ∙ run_first read size p (j + k)
    ∙ ap (λ (u : Result (Unit {0})). forget (read p) >>= λ _. u) (run_apart read size j k (p + size))
    ∙ sym (in_turn (forget (read p)) _ _ _ λ _. refl)
    ∙ (λ i. f i >>= λ _. forget (items read size (e i) k))

-- items that are k masks each are one run of masks
one_run : {A : Type 0} (read : ℕ → Result A) (each : ℕ → Result ℕ) (size k : ℕ) → 8 * k ≡ size
    → ((p : ℕ) → forget (items each 8 p k) ≡ forget (read p)) → (m p : ℕ) → forget (items each 8 p (k * m)) ≡ forget (items read size p m)
unfolding items
one_run read each size k e h zero p = let d : k * 0 ≡ 0 = omega arith in ap (λ (l : ℕ). forget (items each 8 p l)) d
one_run read each size k e h (suc m) p =
    let d : k * suc m ≡ k + k * m = omega (arith, mul-suc k m) in
    ap (λ (l : ℕ). forget (items each 8 p l)) d
    ∙ run_apart each 8 k (k * m) p
    ∙ (λ i. h p i >>= λ _. forget (items each 8 (p + e i) (k * m)))
    ∙ ap (λ (u : Result (Unit {0})). forget (read p) >>= λ _. u) (one_run read each size k e h m (p + size))
    ∙ sym (run_first read size p m)

-- a mask, and what is read behind it
mask_then : {B : Type 0} (read : ℕ → Result ℕ) (p k q : ℕ) (g : ℕ → Result B) → p + 8 ≡ q
    → ((x : ℕ) → forget (items read 8 q k) ≡ forget (g x)) → forget (items read 8 p (suc k)) ≡ forget (read p >>= g)
mask_then read p k q g e h =
    run_first read 8 p k
    ∙ ap (λ (j : ℕ). forget (read p) >>= λ _. forget (items read 8 j k)) e
    ∙ sym (forget_on (read p) g _ (λ x. sym (h x)))

-- a field of facts that are off is a run of one mask or of none; the goal's masks and an action's end with it
module _ (bytes : List ℕ) (v n : ℕ) where
  off_run : (p : ℕ) → forget (items (mask bytes n) 8 p (off_size v / 8)) ≡ forget (off_mask bytes v n p)
  unfolding items
  off_run p =
      by_test (eqb v 3)
      (λ t. rw (off_some v t, read_off bytes v n p t) (one_mask (mask bytes n) p))
      (λ f. rw (off_none v f, read_no_off bytes v n p f) refl)

  goals_run : forget (items (mask bytes n) 8 (goal_at v) (1 + off_size v / 8)) ≡ forget (goals_at bytes v n)
  unfolding goals_at
  goals_run =
      let d : 1 + off_size v / 8 ≡ suc (off_size v / 8) = omega arith in
      ap (λ (k : ℕ). forget (items (mask bytes n) 8 (goal_at v) k)) d
      ∙ mask_then (mask bytes n) (goal_at v) _ (goal_at v + 8) _ refl λ g.
      off_run (goal_at v + 8) ∙ sym (forget_after (off_mask bytes v n (goal_at v + 8)) _)

  action_run : (p : ℕ) → forget (items (mask bytes n) 8 p (action_size v / 8)) ≡ forget (action bytes v n p)
  unfolding action
  action_run p =
      let d : action_size v / 8 ≡ suc (suc (suc (off_size v / 8))) = omega (arith, (places v).size) in
      ap (λ (k : ℕ). forget (items (mask bytes n) 8 p k)) d
      ∙ mask_then (mask bytes n) p _ (p + 8) _ refl λ a.
      mask_then (mask bytes n) (p + 8) _ (p + 16) _ (omega arith) λ b.
      mask_then (mask bytes n) (p + 16) _ (p + 24) _ (omega arith) λ c.
      off_run (p + 24) ∙ sym (forget_after (off_mask bytes v n (p + 24)) _)

  actions_run : (m p : ℕ) → forget (items (mask bytes n) 8 p (action_size v / 8 * m)) ≡ forget (items (action bytes v n) (action_size v) p m)
  actions_run =
      let d : 8 * (action_size v / 8) ≡ action_size v =
      by_test (eqb v 3) (λ t. omega (arith, (places v).size, off_some v t)) (λ f. omega (arith, (places v).size, off_none v f)) in
      one_run (action bytes v n) (mask bytes n) (action_size v) (action_size v / 8) d action_run

-- ---- the version and the number of facts

module _ (bytes : List ℕ) {t : Bool} (q : t ≡ inside 1 bytes 4) where
  pub version_cut : t ≡ false → facts_at bytes ≡ refuse 3 4
  unfolding facts_at field
  version_cut s = stops _ (failed 3 4 _ (sym q ∙ s))

  module _ (s : t ≡ true) {v : ℕ} (ev : v ≡ number_at 1 bytes 4) where
    version_read : field bytes 1 4 ≡ found v
    version_read = field_in bytes 4 1 (inside_out 1 bytes 4 (sym q ∙ s)) ev

    pub version_other : (leb 1 v && leb v 3) ≡ false → facts_at bytes ≡ refuse 2 4
    unfolding facts_at
    version_other g = goes_on _ version_read ∙ failed 2 4 _ g

    module _ (g : (leb 1 v && leb v 3) ≡ true) {u : Bool} (q' : u ≡ inside 1 bytes 5) where
      pub facts_cut : u ≡ false → facts_at bytes ≡ refuse 3 5
      unfolding facts_at field
      facts_cut s' = goes_on _ version_read ∙ passed 2 4 _ g ∙ stops _ (failed 3 5 _ (sym q' ∙ s'))

      module _ (s' : u ≡ true) {n : ℕ} (en : n ≡ number_at 1 bytes 5) where
        facts_read : field bytes 1 5 ≡ found n
        facts_read = field_in bytes 5 1 (inside_out 1 bytes 5 (sym q' ∙ s')) en

        pub facts_bad : (leb 1 n && leb n 64) ≡ false → facts_at bytes ≡ refuse 4 5
        unfolding facts_at
        facts_bad x = goes_on _ version_read ∙ passed 2 4 _ g ∙ goes_on _ facts_read ∙ failed 4 5 _ x

        pub facts_good : (leb 1 n && leb n 64) ≡ true → facts_at bytes ≡ found (v, n)
        unfolding facts_at
        facts_good x = goes_on _ version_read ∙ passed 2 4 _ g ∙ goes_on _ facts_read ∙ passed 4 5 _ x

-- ---- the start and the unknown facts

-- a mask that is read is the number that stands there, within the file
pub mask_is : (bytes : List ℕ) (n p x : ℕ) → mask bytes n p ≡ found x → (x ≡ number_at 8 bytes p) × (p + 8 ≤ length bytes)
unfolding mask
mask_is bytes n p x e =
    bind_case (field bytes 8 p) _ x e λ y y! e₁.
    need_case (ltb y (2 ^ n)) 5 p _ x e₁ λ _ q.
    let h = field_is bytes 8 p y y! in
    (sym (found_same q) ∙ h.0, h.1)

pub unknown_none : (bytes : List ℕ) (v : ℕ) → eqb v 1 ≡ true → 0 ≡ unknown_at bytes v
unfolding unknown_at
unknown_none bytes v e = rw (unknown_at, e) refl

pub unknown_some : (bytes : List ℕ) (v : ℕ) → eqb v 1 ≡ false → number_at 8 bytes 14 ≡ unknown_at bytes v
unfolding unknown_at
unknown_some bytes v e = rw (unknown_at, e) refl

-- what is read of the unknown facts is the number that stands for them, and ends where the goal's mask stands
pub unknown_is : (bytes : List ℕ) (v n s u : ℕ) → mask bytes n 6 ≡ found s → Unknown bytes v n s u
    → (u ≡ unknown_at bytes v) × (goal_at v ≤ length bytes)
unknown_is bytes v n s u s! (none e z) =
    (z ∙ unknown_none bytes v e, (let h = (mask_is bytes n 6 s s!).1 in omega (arith, goal_first v e)))
unknown_is bytes v n s u s! (some e u! a) =
    let h = mask_is bytes n 14 u u! in
    (h.0 ∙ unknown_some bytes v e, (let l = h.1 in omega (arith, goal_later v e)))

-- what is read of the goal's facts that are off is the number that stands for them
pub goal_off_none : (bytes : List ℕ) (v : ℕ) → off_size v ≡ 0 → 0 ≡ goal_off_at bytes v
unfolding goal_off_at
goal_off_none bytes v e = rw (goal_off_at, e) refl

pub goal_off_some : (bytes : List ℕ) (v : ℕ) → (off_size v ≡ 0 → ⊥) → number_at 8 bytes (goal_at v + 8) ≡ goal_off_at bytes v
unfolding goal_off_at
goal_off_some bytes v e = rw (goal_off_at, ne_eqb (off_size v) 0 e) refl

pub goal_off_is : (bytes : List ℕ) (v n o : ℕ) → off_mask bytes v n (goal_at v + 8) ≡ found o → o ≡ goal_off_at bytes v
goal_off_is bytes v n o e =
    by_test (eqb v 3)
    (λ t.
    (mask_is bytes n (goal_at v + 8) o (sym (read_off bytes v n (goal_at v + 8) t) ∙ e)).0
    ∙ goal_off_some bytes v (λ z. omega (arith, off_some v t)))
    (λ f. sym (found_same (sym (read_no_off bytes v n (goal_at v + 8) f) ∙ e)) ∙ goal_off_none bytes v (off_none v f))

start_inside : (bytes : List ℕ) (v n : ℕ) (x : ℕ × ℕ) → start_at bytes v n ≡ found x → goal_at v ≤ length bytes
unfolding start_at
start_inside bytes v n x e =
    bind_case (mask bytes n 6) _ x e λ s s! e₁.
    bind_case (unknown_mask bytes v n s) _ x e₁ λ u u! q.
    (unknown_is bytes v n s u s! (unknown_out bytes v n s u u!)).1

-- two masks, the second at a place of its own
two_bad : {B : Type 0} (a b : Result ℕ) (g : ℕ → ℕ → Result B) {r q : ℕ}
    → (a >>= λ x. (b >>= λ y. found (y ∷ [])) >>= λ ys. found (x ∷ ys)) ≡ refuse r q → (a >>= λ x. b >>= λ y. g x y) ≡ refuse r q
unfolding ◌>>=◌
two_bad (refuse m p) b g {r = r} {q} e = let i : m ≡ r = cc in let j : p ≡ q = cc in ap₂ (λ (x y : ℕ). refuse x y) i j
two_bad (found x) (refuse m p) g {r = r} {q} e = let i : m ≡ r = cc in let j : p ≡ q = cc in ap₂ (λ (x y : ℕ). refuse x y) i j
two_bad (found x) (found y) g e = let z : ◌≡◌ {A = ℕ} 0 1 = cc in absurd (omega arith)

two_good : (a b : Result ℕ) (xs : List ℕ) → (a >>= λ x. (b >>= λ y. found (y ∷ [])) >>= λ ys. found (x ∷ ys)) ≡ found xs
    → (x : ℕ) × (y : ℕ) × (a ≡ found x) × (b ≡ found y)
unfolding ◌>>=◌
two_good (refuse m p) b xs e = let z : ◌≡◌ {A = ℕ} 0 1 = cc in absurd (omega arith)
two_good (found x) (refuse m p) xs e = let z : ◌≡◌ {A = ℕ} 0 1 = cc in absurd (omega arith)
two_good (found x) (found y) xs e = (x, y, refl, refl)

-- without a field for them the start is all
pub start_one : (bytes : List ℕ) (v n : ℕ) → eqb v 1 ≡ true → {w : Answer} → w ≡ fault (items (mask bytes n) 8 6 1)
    → w ≡ fault (start_at bytes v n)
unfolding start_at unknown_mask ◌>>=◌
start_one bytes v n z i =
    i ∙ told_alike (items (mask bytes n) 8 6 1) (start_at bytes v n)
    (one_mask (mask bytes n) 6 ∙ sym (rw (start_at, unknown_mask, z) (forget_after (mask bytes n 6) (λ s. (s, 0)))))

-- with one, both masks are read, one after the other
module _ (bytes : List ℕ) (v n : ℕ) (later : eqb v 1 ≡ false) where
  abbrev tests : ℕ → ℕ → Result (ℕ × ℕ)
  tests s u = need (eqb (bit_and s u) 0) 16 14 >>= λ _. found (s, u)

  then : start_at bytes v n ≡ (mask bytes n 6 >>= λ s. mask bytes n 14 >>= λ u. tests s u)
  unfolding start_at unknown_mask ◌>>=◌
  then =
      rw (start_at, unknown_mask, later)
      (bind_same {r = mask bytes n 6} refl λ s. in_turn (mask bytes n 14) _ _ _ λ u.
      in_turn (need (eqb (bit_and s u) 0) 16 14) _ _ _ λ _. refl)

  abbrev both : Result (List ℕ)
  both = mask bytes n 6 >>= λ s. (mask bytes n 14 >>= λ u. found (u ∷ [])) >>= λ us. found (s ∷ us)

  pub start_bad : {x w : Answer} {e : Fault} → x ≡ fault (items (mask bytes n) 8 6 2) → x ≡ Err e → w ≡ Err e → w ≡ fault (start_at bytes v n)
  unfolding items ◌>>=◌
  start_bad i g z =
      let k = told_err (λ _. tt) both i g in
      z ∙ sym (ap (told (λ _. tt)) (then ∙ two_bad (mask bytes n 6) (mask bytes n 14) tests k))

  module _ {w : Answer} {d : Unit {0}} (i : w ≡ fault (items (mask bytes n) 8 6 2)) (g : w ≡ Ok d) {s u : ℕ} (es : s ≡ number_at 8 bytes 6)
      (eu : u ≡ number_at 8 bytes 14) where
    tested : start_at bytes v n ≡ tests s u
    unfolding items ◌>>=◌
    tested =
        let k = told_ok (λ _. tt) both i g in
        let m = two_good (mask bytes n 6) (mask bytes n 14) k.0 k.1 in
        let a : m.0 ≡ s = (mask_is bytes n 6 m.0 m.2).0 ∙ sym es in
        let b : m.1 ≡ u = (mask_is bytes n 14 m.1 m.3).0 ∙ sym eu in
        then ∙ goes_on _ m.2 ∙ goes_on _ m.3 ∙ ap₂ tests a b

    pub start_clash : (bit_and s u ≡ 0 → ⊥) → Err (record { number = 16; place = 14 }) ≡ fault (start_at bytes v n)
    start_clash c = sym (ap (told (λ _. tt)) (tested ∙ failed 16 14 _ (ne_eqb (bit_and s u) 0 c)))

    pub start_good : bit_and s u ≡ 0 → Ok tt ≡ fault (start_at bytes v n)
    start_good c = sym (ap (told (λ _. tt)) (tested ∙ passed 16 14 _ (eq-eqb (bit_and s u) 0 c)))

-- ---- the task

module _ (bytes : List ℕ) where
  -- what follows the goal's masks, the start and the number of facts
  abbrev from_goal : ℕ → ℕ → ℕ × ℕ → ℕ × ℕ → Result (Task × ℕ)
  from_goal v n x g =
      count bytes 0 256 (action_count_at v) >>= λ m. items (action bytes v n) (action_size v) (action_count_at v + 2) m >>= λ acts.
      found (record { facts = n; init = x.0; unknown = x.1; goal = g.0; off = g.1; actions = acts }, after_actions v m)

  abbrev from_start : ℕ → ℕ → ℕ × ℕ → Result (Task × ℕ)
  from_start v n x = goals_at bytes v n >>= from_goal v n x

  abbrev from_facts : ℕ × ℕ → Result (Task × ℕ)
  from_facts x = start_at bytes x.0 x.1 >>= from_start x.0 x.1

  opened : (facts_at bytes >>= from_facts) ≡ read_task bytes
  unfolding facts_at start_at goals_at read_task ◌>>=◌
  opened =
      in_turn (field bytes 1 4) _ from_facts _ λ v. in_turn (need (leb 1 v && leb v 3) 2 4) _ from_facts _ λ _.
      in_turn (field bytes 1 5) _ from_facts _ λ n. in_turn (need (leb 1 n && leb n 64) 4 5) _ from_facts _ λ _.
      in_turn (mask bytes n 6) _ (from_start v n) _ λ s. in_turn (unknown_mask bytes v n s) _ (from_start v n) _ λ u.
      let h = from_goal v n (s, u) in
      in_turn (mask bytes n (goal_at v)) _ h _ λ g. in_turn (off_mask bytes v n (goal_at v + 8)) _ h _ λ o. refl

  pub opening_bad : {v : code.Result ℕ Fault} {w : Answer} {e : Fault} → v ≡ told (λ x. x.0) (facts_at bytes) → v ≡ Err e → w ≡ Err e
      → w ≡ fault (read_task bytes)
  opening_bad y z k = told_stops (λ (x : ℕ × ℕ). x.0) (λ _. tt) (facts_at bytes) from_facts y z k ∙ ap (told (λ _. tt)) opened

  -- the version and the number of facts are within the file
  facts_found : (x : ℕ × ℕ) → facts_at bytes ≡ found x
      → (x.0 ≡ number_at 1 bytes 4) × (x.1 ≡ number_at 1 bytes 5) × (6 ≤ length bytes)
  unfolding facts_at
  facts_found x e =
      bind_case (field bytes 1 4) _ x e λ v v! e₁. need_case (leb 1 v && leb v 3) 2 4 _ x e₁ λ _ e₂.
      bind_case (field bytes 1 5) _ x e₂ λ n n! e₃. need_case (leb 1 n && leb n 64) 4 5 _ x e₃ λ _ e₄.
      let k = field_is bytes 1 4 v v! in
      let h = field_is bytes 1 5 n n! in
      let q = sym (found_same e₄) in
      (ap (λ (y : ℕ × ℕ). y.0) q ∙ k.0, ap (λ (y : ℕ × ℕ). y.1) q ∙ h.0, h.1)

  -- what is left to read of a file of version v with n facts, once the opening, the start and the goal's masks are read
  pub record Opened (v n : ℕ) : Type 0 where
    pub reads : read_task bytes ≡ from_facts (v, n)
    pub ends : 6 ≤ length bytes

  pub record Started (v n : ℕ) : Type 0 where
    pub start : ℕ × ℕ
    pub reads : read_task bytes ≡ from_start v n start
    pub ends : goal_at v ≤ length bytes

  pub record Aimed (v n : ℕ) : Type 0 where
    pub start : ℕ × ℕ
    pub goal : ℕ × ℕ
    pub reads : read_task bytes ≡ from_goal v n start goal

  pub opened_well : {f : code.Result ℕ Fault} {v n : ℕ} → f ≡ told (λ x. x.0) (facts_at bytes) → f ≡ Ok v → n ≡ number_at 1 bytes 5
      → Opened v n × (v ≡ number_at 1 bytes 4)
  opened_well o good en =
      let x = told_ok (λ (x : ℕ × ℕ). x.0) (facts_at bytes) o good in
      let h = facts_found x.0 x.1 in
      (record { reads = sym opened ∙ goes_on _ x.1 ∙ ap₂ (λ (y z : ℕ). from_facts (y, z)) x.2 (h.1 ∙ sym en); ends = h.2 }, sym x.2 ∙ h.0)

  goal_told : (v n : ℕ) {w : Answer} → w ≡ fault (items (mask bytes n) 8 (goal_at v) (1 + off_size v / 8)) → w ≡ fault (goals_at bytes v n)
  goal_told v n i = i ∙ told_alike (items (mask bytes n) 8 (goal_at v) (1 + off_size v / 8)) (goals_at bytes v n) (goals_run bytes v n)

  module _ {v n : ℕ} where
    pub start_refused : Opened v n → {u w : Answer} {e : Fault} → u ≡ fault (start_at bytes v n) → u ≡ Err e → w ≡ Err e
        → w ≡ fault (read_task bytes)
    start_refused o y z k = told_stops (λ _. tt) (λ _. tt) (start_at bytes v n) _ y z k ∙ sym (ap (told (λ _. tt)) o.reads)

    pub started_well : Opened v n → {w : Answer} {u : Unit {0}} → w ≡ fault (start_at bytes v n) → w ≡ Ok u → Started v n
    started_well o y fine =
        let x = told_ok (λ _. tt) (start_at bytes v n) y fine in
        record { start = x.0; reads = o.reads ∙ goes_on _ x.1; ends = start_inside bytes v n x.0 x.1 }

    pub goal_refused : Started v n → {u w : Answer} {e : Fault} → u ≡ fault (items (mask bytes n) 8 (goal_at v) (1 + off_size v / 8))
        → u ≡ Err e → w ≡ Err e → w ≡ fault (read_task bytes)
    goal_refused t i z k =
        told_stops (λ _. tt) (λ _. tt) (goals_at bytes v n) _ (goal_told v n i) z k ∙ sym (ap (told (λ _. tt)) t.reads)

    pub aimed_well : Started v n → {w : Answer} {u : Unit {0}} → w ≡ fault (items (mask bytes n) 8 (goal_at v) (1 + off_size v / 8))
        → w ≡ Ok u → Aimed v n
    aimed_well t i fine =
        let g = told_ok (λ _. tt) (goals_at bytes v n) (goal_told v n i) fine in
        record { start = t.start; goal = g.0; reads = t.reads ∙ goes_on _ g.1 }

    pub count_refused : Aimed v n → {u : code.Result ℕ Fault} {w : Answer} {e : Fault}
        → u ≡ told (λ c. c) (count bytes 0 256 (action_count_at v)) → u ≡ Err e → w ≡ Err e → w ≡ fault (read_task bytes)
    count_refused t y z k =
        told_stops (λ c. c) (λ _. tt) (count bytes 0 256 (action_count_at v)) _ y z k ∙ sym (ap (told (λ _. tt)) t.reads)

    pub actions_say : Aimed v n → {m : ℕ} → count bytes 0 256 (action_count_at v) ≡ found m
        → {j : Answer} → j ≡ fault (items (mask bytes n) 8 (action_count_at v + 2) (action_size v / 8 * m)) → j ≡ fault (read_task bytes)
    actions_say t {m} m! j =
        j
        ∙ told_alike (items (mask bytes n) 8 (action_count_at v + 2) (action_size v / 8 * m)) (read_task bytes)
        (actions_run bytes v n m (action_count_at v + 2)
        ∙ sym (forget_after (items (action bytes v n) (action_size v) (action_count_at v + 2) m) _)
        ∙ ap forget (sym (t.reads ∙ goes_on _ m!)))

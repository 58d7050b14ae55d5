-- What is written of a certificate or a file that fits is bytes.
-- Assumes nothing.
use Prim.Native.Nat.{ℕ, zero, suc, ◌/◌, ◌%◌, ◌<◌}
use native.Mathlib.Omega.{arith}
use mathlib.Core.Bool.{Bool, true, false}
use mathlib.Core.List.{List, [], ◌∷◌, ◌++◌}
use lib.ListN.{length}
use lib.Dec.{leb, ltb, eqb, leb→le, lt→ltb}
use Rattle.task.specs.Reach.{every}
use Rattle.task.proofs.Tests.{and_left, and_right, and_both}
use Rattle.task.specs.Task.{Task}
use Rattle.task.specs.declared.Action.{Action}
use Rattle.meaning.specs.declared.Clause.{Clause}
use Rattle.meaning.specs.Bytes.{bytes_of, AreBytes}
use Rattle.meaning.specs.File.{ActionSet, all, listed, either, empty, init, goal, explicit, horn, two_cnf, StateSet, basic}
use Rattle.meaning.specs.File.{complement, intersection, union, progression, regression, Step, File, action_kind, basic_kind, state_kind}
use Rattle.meaning.specs.Writing.{each, write_clause, write_entry, action_body, basic_body, state_body, write_action_set, write_state_set}
use Rattle.meaning.specs.Writing.{write_off, write_action, write_step, counted, write_unknown, write_task, write_certificate, file_of}
use Rattle.meaning.specs.Writing.{write_file, AllFrom, FitsTask, FitsVersion, FitsStep, Fits}
use Rattle.meaning.specs.declared.Limits.{Limits}
use Rattle.meaning.proofs.Places.{by_test}
use Rattle.meaning.proofs.Unknown.{version_known}
use Rattle.meaning.proofs.Off.{written_off, written_no_off}
use Rattle.meaning.proofs.Written.{anything}

-- each number is a byte: of ∷, of ++, of a written number, of items
pub byte_more : (b : ℕ) (bs : List ℕ) → b < 256 → AreBytes bs → AreBytes (b ∷ bs)
unfolding every
byte_more b bs l h = and_both (ltb b 256) (every (λ x. ltb x 256) bs) (lt→ltb b 256 l) h

pub bytes_append : (xs ys : List ℕ) → AreBytes xs → AreBytes ys → AreBytes (xs ++ ys)
unfolding every
bytes_append [] ys h k = k
bytes_append (x ∷ xs) ys h k =
    and_both (ltb x 256) (every (λ b. ltb b 256) (xs ++ ys)) (and_left (ltb x 256) (every (λ b. ltb b 256) xs) h)
    (bytes_append xs ys (and_right (ltb x 256) (every (λ b. ltb b 256) xs) h) k)

bytes_none : AreBytes []
unfolding every
bytes_none = tt

pub bytes_number : (k x : ℕ) → AreBytes (bytes_of k x)
unfolding bytes_of
bytes_number zero x = bytes_none
bytes_number (suc k) x = bytes_append (bytes_of k (x / 256)) (x % 256 ∷ []) (bytes_number k (x / 256))
    (byte_more (x % 256) [] (omega arith) bytes_none)

two_numbers : (j k x y : ℕ) → AreBytes (bytes_of j x ++ bytes_of k y)
two_numbers j k x y = bytes_append (bytes_of j x) (bytes_of k y) (bytes_number j x) (bytes_number k y)

bytes_each : {A : Type 0} (P : A → Type 0) (write : A → List ℕ) → ((x : A) → P x → AreBytes (write x))
    → (xs : List A) (i : ℕ) → AllFrom (λ _. P) i xs → AreBytes (each write xs)
unfolding each
bytes_each P write h [] i a = bytes_none
bytes_each P write h (x ∷ xs) i a = bytes_append (write x) (each write xs) (h x a.0) (bytes_each P write h xs (suc i) a.1)

bytes_all : {A : Type 0} (write : A → List ℕ) → ((x : A) → AreBytes (write x)) → (xs : List A) → AreBytes (each write xs)
bytes_all write h xs = bytes_each (λ _. Unit {0}) write (λ x _. h x) xs 0 (anything xs 0)

bytes_clause : (c : Clause) → AreBytes (write_clause c)
unfolding write_clause
bytes_clause c = two_numbers 8 8 c.positive c.negative

bytes_entry : (kind : ℕ) (body : List ℕ) → kind < 256 → AreBytes body → AreBytes (write_entry kind body)
unfolding write_entry
bytes_entry kind body l h = bytes_append (bytes_of 2 (suc (length body))) (kind ∷ body) (bytes_number 2 (suc (length body)))
    (byte_more kind body l h)

bytes_action_set : (a : ActionSet) → AreBytes (write_action_set a)
unfolding write_action_set action_kind action_body
bytes_action_set all = bytes_entry 0 [] (omega arith) bytes_none
bytes_action_set (listed is) = bytes_entry 1 _ (omega arith) (bytes_all (bytes_of 2) (bytes_number 2) is)
bytes_action_set (either a b) = bytes_entry 2 _ (omega arith) (two_numbers 2 2 a b)

bytes_state_set : (x : StateSet) → AreBytes (write_state_set x)
unfolding write_state_set state_kind basic_kind state_body basic_body
bytes_state_set (basic empty) = bytes_entry 0 [] (omega arith) bytes_none
bytes_state_set (basic init) = bytes_entry 1 [] (omega arith) bytes_none
bytes_state_set (basic goal) = bytes_entry 2 [] (omega arith) bytes_none
bytes_state_set (basic (explicit ss)) = bytes_entry 3 _ (omega arith) (bytes_all (bytes_of 8) (bytes_number 8) ss)
bytes_state_set (basic (horn cs)) = bytes_entry 4 _ (omega arith) (bytes_all write_clause bytes_clause cs)
bytes_state_set (basic (two_cnf cs)) = bytes_entry 5 _ (omega arith) (bytes_all write_clause bytes_clause cs)
bytes_state_set (complement a) = bytes_entry 6 _ (omega arith) (bytes_number 2 a)
bytes_state_set (intersection a b) = bytes_entry 7 _ (omega arith) (two_numbers 2 2 a b)
bytes_state_set (union a b) = bytes_entry 8 _ (omega arith) (two_numbers 2 2 a b)
bytes_state_set (progression a e) = bytes_entry 9 _ (omega arith) (two_numbers 2 2 a e)
bytes_state_set (regression a e) = bytes_entry 10 _ (omega arith) (two_numbers 2 2 a e)

bytes_step : (s : Step) → FitsStep s → AreBytes (write_step s)
unfolding write_step
bytes_step s h =
    bytes_append (s.rule ∷ s.kind ∷ bytes_of 2 s.left ++ bytes_of 2 s.right) (each (bytes_of 2) s.premises)
    (byte_more s.rule _ h.rule (byte_more s.kind _ h.kind (two_numbers 2 2 s.left s.right)))
    (bytes_all (bytes_of 2) (bytes_number 2) s.premises)

pub certificate_bytes : (es : List ActionSet) (ss : List StateSet) (ks : List Step) (i : ℕ) → AllFrom (λ _. FitsStep) i ks
    → AreBytes (write_certificate es ss ks)
unfolding write_certificate counted
certificate_bytes es ss ks i h =
    bytes_append (bytes_of 2 (length es) ++ each write_action_set es ++ (bytes_of 2 (length ss) ++ each write_state_set ss))
    (bytes_of 2 (length ks) ++ each write_step ks)
    (bytes_append (bytes_of 2 (length es) ++ each write_action_set es) (bytes_of 2 (length ss) ++ each write_state_set ss)
    (bytes_append (bytes_of 2 (length es)) (each write_action_set es) (bytes_number 2 (length es))
    (bytes_all write_action_set bytes_action_set es))
    (bytes_append (bytes_of 2 (length ss)) (each write_state_set ss) (bytes_number 2 (length ss))
    (bytes_all write_state_set bytes_state_set ss)))
    (bytes_append (bytes_of 2 (length ks)) (each write_step ks) (bytes_number 2 (length ks))
    (bytes_each FitsStep write_step bytes_step ks i h))

bytes_off : (v m : ℕ) → AreBytes (write_off v m)
unfolding every
bytes_off v m =
    by_test (eqb v 3) (λ e. rw (written_off v m e) (bytes_number 8 m)) (λ e. rw (written_no_off v m e) tt)

bytes_action : (v : ℕ) (a : Action) → AreBytes (write_action v a)
unfolding write_action
bytes_action v a =
    bytes_append (bytes_of 8 a.pre ++ bytes_of 8 a.add ++ bytes_of 8 a.del) (write_off v a.off)
    (bytes_append (bytes_of 8 a.pre ++ bytes_of 8 a.add) (bytes_of 8 a.del) (two_numbers 8 8 a.pre a.add)
    (bytes_number 8 a.del)) (bytes_off v a.off)

bytes_unknown : (v : ℕ) (t : Task) → AreBytes (write_unknown v t)
unfolding write_unknown every
bytes_unknown v t = go (eqb v 1)
  where
    go : (b : Bool) → AreBytes (elim b [ true ↦ [] | false ↦ bytes_of 8 t.unknown ])
    go true = tt
    go false = bytes_number 8 t.unknown

bytes_task : (v : ℕ) (t : Task) → FitsTask t → FitsVersion v t → AreBytes (write_task v t)
unfolding write_task counted
bytes_task v t h k =
    let few = h.few_facts in
    let small : v < 256 = omega (arith, leb→le v 3 (and_right (leb 1 v) (leb v 3) (version_known v t k))) in
    let start : List ℕ = bytes_of 8 t.init ++ write_unknown v t in
    bytes_append (v ∷ t.facts ∷ start ++ bytes_of 8 t.goal ++ write_off v t.off)
    (bytes_of 2 (length t.actions) ++ each (write_action v) t.actions)
    (byte_more v _ small (byte_more t.facts _ (omega arith)
    (bytes_append (start ++ bytes_of 8 t.goal) (write_off v t.off)
    (bytes_append start (bytes_of 8 t.goal)
    (bytes_append (bytes_of 8 t.init) (write_unknown v t) (bytes_number 8 t.init) (bytes_unknown v t)) (bytes_number 8 t.goal))
    (bytes_off v t.off))))
    (bytes_append (bytes_of 2 (length t.actions)) (each (write_action v) t.actions) (bytes_number 2 (length t.actions))
    (bytes_all (write_action v) (bytes_action v) t.actions))

pub file_bytes_lem : (l : Limits) (f : File) → Fits l f → AreBytes (write_file f)
unfolding write_file file_of
file_bytes_lem l f h =
    let table : List ℕ = write_task f.version f.task in
    let certificate : List ℕ = write_certificate f.action_sets f.state_sets f.steps in
    bytes_append (bytes_of 4 (length (table ++ certificate))) (table ++ certificate) (bytes_number 4 (length (table ++ certificate)))
    (bytes_append table certificate (bytes_task f.version f.task h.task h.version)
    (certificate_bytes f.action_sets f.state_sets f.steps 0 h.certificate.steps))

-- A file's bytes with its rule bytes rewritten: what is read of them, that it can be undone, and the replies with a caller's list.
-- Assumes nothing.
use mathlib.Core.Path.{◌≡◌, refl, sym, ap, ◌∙◌, subst}
use Prim.Native.Nat.{ℕ, suc, ◌+◌, ◌<◌, ◌≤◌}
use native.Mathlib.Omega.{arith}
use mathlib.Core.List.{List, [], ◌∷◌, map}
use lib.ListN.{length, get_or, length-append}
use lib.Dec.{eqb, eqb→eq}
use Rattle.task.proofs.Tests.{each_at}
use Rattle.meaning.specs.Result.{Result, refuse, found, ◌>>=◌}
use Rattle.meaning.specs.Bytes.{AreBytes}
use Rattle.meaning.specs.File.{Step, File}
use Rattle.meaning.specs.Limits.{full}
use Rattle.meaning.specs.Layout.{read_file}
use Rattle.meaning.specs.Writing.{each, write_step, counted, write_certificate, write_file, AllFrom, FitsStep, Fits}
use Rattle.meaning.specs.Reply.{check_file, reply_to, reply_of}
use Rattle.meaning.specs.Numbering.{check_numbers, rule_numbers, rule_meant, with_rule, rewritten, check_rewritten}
use Rattle.meaning.specs.Numbering.{reply_numbered, rewrite_bytes, Renumbering}
use Rattle.meaning.specs.Points.{PlainNumbers, RewritingIsBijective, RewrittenIsRead, RewrittenAlike}
use Rattle.meaning.proofs.Results.{bind_same}
use Rattle.meaning.proofs.Reading.{file_walked, reads_within}
use Rattle.meaning.proofs.Suffix.{length_file}
use Rattle.meaning.proofs.Written.{reads_back}
use Rattle.meaning.proofs.WrittenBytes.{file_bytes_lem}
use Rattle.meaning.proofs.Computed.{computed}
use Rattle.meaning.proofs.WritesBack.{writes_back}
use Rattle.meaning.proofs.RuleBytes.{count_stays, files_alike, rewritten_same, rewritten_twice}
use Rattle.meaning.proofs.Numbering.{meant_back}

-- ---- the bytes

module _ (g : ℕ → ℕ) where
  abbrev renamed : Step → Step
  renamed s = with_rule (g s.rule) s

  steps_length : (ks : List Step) → length (each write_step (map renamed ks)) ≡ length (each write_step ks)
  unfolding each write_step
  steps_length [] = refl
  steps_length (k ∷ ks) =
      length-append (write_step (renamed k)) (each write_step (map renamed ks)) ∙ ap (λ (n : ℕ). length (write_step k) + n) (steps_length ks)
      ∙ sym (length-append (write_step k) (each write_step ks))

  -- a rewritten file is as long as the plain one
  same_length : (f : File) → length (write_file (rewritten g f)) ≡ length (write_file f)
  unfolding write_file rewritten write_certificate counted
  same_length f =
      let a = steps_length f.steps in
      let b = count_stays g f.steps in
      simp (length_file, length-append, a, b) refl

  steps_fit : ((x : ℕ) → x < 256 → g x < 256) → (ks : List Step) (i : ℕ) → AllFrom (λ _. FitsStep) i ks
      → AllFrom (λ _. FitsStep) i (map renamed ks)
  steps_fit l [] i h = tt
  steps_fit l (k ∷ ks) i h =
      let s = h.0 in (
        record {
          rule = l k.rule s.rule;
          kind = s.kind;
          left = s.left;
          right = s.right;
          three = s.three;
          premises = s.premises;
        },
        steps_fit l ks (suc i) h.1,
      )

  module _ (l : (x : ℕ) → x < 256 → g x < 256) (bytes : List ℕ) (b : AreBytes bytes) (f : File) (r : read_file bytes ≡ found f) where
    fits : Fits full (rewritten g f)
    unfolding rewritten read_file
    fits =
        let h = (reads_within full bytes f b r).0 in
        let c = h.certificate in
        let n = count_stays g f.steps in
        record {
          version = h.version;
          task = h.task;
          certificate = record {
            few_action_sets = c.few_action_sets;
            action_sets_hold = c.action_sets_hold;
            few_state_sets = c.few_state_sets;
            state_sets_hold = c.state_sets_hold;
            some_steps = subst (λ (k : ℕ). 1 ≤ k) (sym n) c.some_steps;
            few_steps = subst (λ (k : ℕ). k ≤ full.steps) (sym n) c.few_steps;
            steps = steps_fit l f.steps 0 c.steps;
          };
          allowed = record { states = h.allowed.states; steps = subst (λ (k : ℕ). k ≤ full.steps) (sym n) h.allowed.steps };
        }

    written : rewrite_bytes g bytes ≡ write_file (rewritten g f)
    unfolding rewrite_bytes
    written = rw (rewrite_bytes, r) refl

    -- a rewritten file is read as such
    pub read_rewritten : read_file (rewrite_bytes g bytes) ≡ found (rewritten g f)
    unfolding read_file
    read_rewritten =
        let n : length (write_file (rewritten g f)) ≡ length bytes = same_length f ∙ ap length (writes_back bytes f b r) in
        let short = (file_walked bytes f r).short in
        ap read_file written ∙ reads_back full (rewritten g f) fits (omega arith, omega arith)

    bytes_rewritten : AreBytes (rewrite_bytes g bytes)
    bytes_rewritten = subst AreBytes (sym written) (file_bytes_lem full (rewritten g f) fits)

  -- bytes that are no file stay
  unread : (bytes : List ℕ) (r p : ℕ) → read_file bytes ≡ refuse r p → rewrite_bytes g bytes ≡ bytes
  unfolding rewrite_bytes
  unread bytes r p e = rw (rewrite_bytes, e) refl

  all_bytes : ((x : ℕ) → x < 256 → g x < 256) → (bytes : List ℕ) → AreBytes bytes → AreBytes (rewrite_bytes g bytes)
  all_bytes l bytes b = go (read_file bytes) refl
    where
      go : (x : Result File) → read_file bytes ≡ x → AreBytes (rewrite_bytes g bytes)
      go (refuse r p) e = subst AreBytes (sym (unread bytes r p e)) b
      go (found f) e = bytes_rewritten l bytes b f e

-- what one rewriting does another undoes
undone : (g h : ℕ → ℕ) → ((x : ℕ) → x < 256 → g x < 256) → ((x : ℕ) → h (g x) ≡ x) → (bytes : List ℕ) → AreBytes bytes
    → rewrite_bytes h (rewrite_bytes g bytes) ≡ bytes
unfolding rewrite_bytes
undone g h l e bytes b = go (read_file bytes) refl
  where
    go : (x : Result File) → read_file bytes ≡ x → rewrite_bytes h (rewrite_bytes g bytes) ≡ bytes
    go (refuse r p) q = ap (rewrite_bytes h) (unread g bytes r p q) ∙ unread h bytes r p q
    go (found f) q =
        rw (rewrite_bytes, read_rewritten g l bytes b f q)
        (ap write_file (rewritten_twice f g h ∙ rewritten_same f (λ x. h (g x)) e) ∙ writes_back bytes f b q)

pub rewritten_is_read : RewrittenIsRead
rewritten_is_read numbers to from r bytes f b e = read_rewritten to r.there bytes b f e

pub rewriting_is_bijective : RewritingIsBijective
rewriting_is_bijective numbers to from r bytes b = (
  (all_bytes to r.there bytes b, all_bytes from r.back bytes b),
  undone to from r.there r.from_to bytes b,
  undone from to r.back r.to_from bytes b,
)

-- ---- the replies

-- with a lawful list
numbered_reply : (bytes numbers : List ℕ) → check_numbers numbers ≡ found tt
    → reply_numbered bytes numbers ≡ reply_to (check_rewritten (rule_meant numbers) bytes)
unfolding reply_numbered ◌>>=◌
numbered_reply bytes numbers h = rw h refl

-- a file rewritten by the list and judged by it is judged as the plain one
judged_back : (numbers : List ℕ) (to from : ℕ → ℕ) → check_numbers numbers ≡ found tt → Renumbering numbers to from → (f : File)
    → check_file (rewritten (rule_meant numbers) (rewritten to f)) ≡ check_file f
judged_back numbers to from h r f =
    ap check_file (rewritten_twice f to (rule_meant numbers))
    ∙ files_alike f (λ x. rule_meant numbers (to x)) (λ x. x) (meant_back numbers to from h r f)
    ∙ ap check_file (rewritten_same f (λ x. x) (λ x. refl))

pub rewritten_alike : RewrittenAlike
unfolding check_rewritten reply_of ◌>>=◌
rewritten_alike numbers to from h r bytes b = numbered_reply (rewrite_bytes to bytes) numbers h ∙ go (read_file bytes) refl
  where
    go : (x : Result File) → read_file bytes ≡ x → reply_to (check_rewritten (rule_meant numbers) (rewrite_bytes to bytes)) ≡ reply_of bytes
    go (refuse n p) q = rw (unread to bytes n p q, q) refl
    go (found f) q = rw (read_rewritten to r.there bytes b f q, q) (ap reply_to (judged_back numbers to from h r f))

-- the list 1 to 28 is lawful, and by it nothing is rewritten
plain_lawful : check_numbers rule_numbers ≡ found tt
unfolding computed
plain_lawful = refl

plain_renumbers : Renumbering rule_numbers (λ x. x) (λ x. x)
unfolding rule_numbers
plain_renumbers = record {
  listed = λ k l. eqb→eq (suc k) (get_or rule_numbers k 0) (each_at (λ j. eqb (suc j) (get_or rule_numbers j 0)) 28 k tt l);
  there = λ x l. l;
  back = λ x l. l;
  from_to = λ x. refl;
  to_from = λ x. refl;
}

pub plain_numbers : PlainNumbers
unfolding check_rewritten reply_of
plain_numbers bytes =
    numbered_reply bytes rule_numbers plain_lawful
    ∙ ap reply_to (bind_same refl (λ f.
    ap (λ (x : File). check_file (rewritten (rule_meant rule_numbers) x)) (sym (rewritten_same f (λ x. x) (λ x. refl)))
    ∙ judged_back rule_numbers (λ x. x) (λ x. x) plain_lawful plain_renumbers f))

-- A caller's own rule numbers (document 02, i): a list of 28 bytes, the k-th being the number that its files use for rule k.
-- Assumes nothing.
use Rattle.std.specs.Prelude.{◌≡◌, ℕ, suc, ◌<◌, true, false, not, ◌&&◌, List, [], ◌∷◌, ◌++◌, map, length, get_or, eqb}
use Rattle.task.specs.Reach.{member}
use Rattle.meaning.specs.Result.{Result, refuse, found, ◌>>=◌, need}
use Rattle.meaning.specs.File.{Step, File}
use Rattle.meaning.specs.Layout.{read_file}
use Rattle.meaning.specs.Writing.{write_file}
use Rattle.meaning.specs.declared.Reply.{Reply}
use Rattle.meaning.specs.Reply.{check_file, reply_to}

-- ---- the list

-- the bytes behind those of `earlier`: 18 at the first that is zero or was used before, counted from 0
unfoldable pub check_unused : List ℕ → List ℕ → Result (Unit {0})
check_unused earlier [] = found tt
check_unused earlier (x ∷ xs) = do
  _ ← need (not (eqb x 0) && not (member x earlier)) 18 (length earlier)
  check_unused (earlier ++ x ∷ []) xs

-- a list of another length is 18 with its length as place; then its bytes in turn
unfoldable pub check_numbers : List ℕ → Result (Unit {0})
check_numbers numbers = do
  _ ← need (eqb (length numbers) 28) 18 (length numbers)
  check_unused [] numbers

-- document 01's own numbers as such a list
unfoldable pub rule_numbers : List ℕ
rule_numbers =
    1 ∷ 2 ∷ 3 ∷ 4 ∷ 5 ∷ 6 ∷ 7 ∷ 8 ∷ 9 ∷ 10 ∷ 11 ∷ 12 ∷ 13 ∷ 14 ∷ 15 ∷ 16 ∷ 17 ∷ 18 ∷ 19 ∷ 20 ∷ 21 ∷ 22 ∷ 23 ∷ 24 ∷ 25 ∷ 26 ∷ 27 ∷ 28 ∷ []

-- ---- a file with these numbers

-- the rule that x stands for, where the list's first byte is the number of rule k; 0, which is no rule, where the list lacks x
unfoldable pub rule_from : ℕ → List ℕ → ℕ → ℕ
rule_from k [] x = 0
rule_from k (y ∷ ys) x = elim (eqb x y) [ true ↦ k | false ↦ rule_from (suc k) ys x ]

unfoldable pub rule_meant : List ℕ → ℕ → ℕ
rule_meant numbers = rule_from 1 numbers

-- the step with another rule
abbrev pub with_rule : ℕ → Step → Step
with_rule r s = record { rule = r; kind = s.kind; left = s.left; right = s.right; premises = s.premises }

-- the file with each step's rule byte x rewritten as g x
unfoldable pub rewritten : (ℕ → ℕ) → File → File
rewritten g f = record {
  version = f.version;
  task = f.task;
  action_sets = f.action_sets;
  state_sets = f.state_sets;
  steps = map (λ s. with_rule (g s.rule) s) f.steps;
}

-- a file judged as if its rule bytes had been rewritten
unfoldable pub check_rewritten : (ℕ → ℕ) → List ℕ → Result (Unit {0})
check_rewritten g bytes = do
  f ← read_file bytes
  check_file (rewritten g f)

-- the list's own faults, before the file is read
unfoldable pub reply_numbered : List ℕ → List ℕ → Reply
reply_numbered bytes numbers = reply_to (do
  _ ← check_numbers numbers
  check_rewritten (rule_meant numbers) bytes)

-- ---- files with the numbers 1 to 28, and files with others

-- the same of a file's bytes; bytes that are no file stay as they are
unfoldable pub rewrite_bytes : (ℕ → ℕ) → List ℕ → List ℕ
rewrite_bytes g bytes = elim (read_file bytes) [ refuse r p ↦ bytes | found f ↦ write_file (rewritten g f) ]

-- `to` rewrites bytes by the list, rule k's as its k-th, and `from` undoes it
pub record Renumbering (numbers : List ℕ) (to from : ℕ → ℕ) : Type 0 where
  pub listed : (k : ℕ) → k < 28 → to (suc k) ≡ get_or numbers k 0
  pub there : (x : ℕ) → x < 256 → to x < 256
  pub back : (x : ℕ) → x < 256 → from x < 256
  pub from_to : (x : ℕ) → from (to x) ≡ x
  pub to_from : (x : ℕ) → to (from x) ≡ x

-- `check_steps` meets its contract. The loop's invariant: in the file rewritten by what the table says, the steps that are left say what
-- all of them say, and the rule of the step that comes is known.
-- Assumes nothing.
use Prim.Native.Nat.{ℕ, ◌<◌}
use mathlib.Core.Path.{◌≡◌}
use lib.ListN.{get_or}
use Rattle.certificate.specs.Known.{decoded}
use Rattle.meaning.specs.File.{step_at}
use Rattle.meaning.specs.Numbering.{rewritten}
use Rattle.numbering.specs.Table.{Stands}
use Rattle.steps.proofs.StepsLaws.{Passing}
use Rattle.steps.proofs.check_steps.Given as goal

abbrev pub invariant-loop-k : goal.invariant-loop-k
invariant-loop-k l =
    let f = decoded l.file.laid.bytes.now in
    (l.k < l.end → (l.next ≡ get_or l.rules (step_at f l.k).rule 0) × ((step_at f l.k).rule < 256))
    × ((g : ℕ → ℕ) → Stands l.rules g → Passing (rewritten g f) l.from l.count l.k)

-- `clauses::seek` calls itself for the next right leaf, so the measure is how many are left.
-- Assumes nothing.
use Rattle.std.proofs.Common.{ℕ, List, ◌-◌, ◌≤◌}
use Rattle.task.specs.declared.Ends.{Ends}
use Rattle.meaning.specs.declared.Clause.{Clause}
use Rattle.certificate.specs.declared.BasicEntry.{BasicEntry}
use Rattle.propagation.specs.declared.Effect.{Effect}
use Rattle.propagation.specs.Clauses.{clause_count, clause_of, pulled_by, LeafOf, LeftOf}
use Rattle.clauses.proofs.SeekLaws.{Missing}
use Rattle.clauses.proofs.+seek.Given as goal

-- the right leaf's clauses
abbrev pub family : List ℕ → Ends → BasicEntry → Effect → ℕ → Clause
family bytes ends set by i = pulled_by by (clause_of bytes ends set i)

abbrev pub decreases-seek : goal.decreases-seek
decreases-seek l = 2 - l.j

abbrev pub invariant-loop-o : goal.invariant-loop-o
invariant-loop-o l =
    (l.i ≤ clause_count l.leaf.set)
    × Missing (LeftOf l.q.file.now l.q.left.now l.q.setting) (LeafOf l.q.file.now l.right l.q.setting)
    (family l.q.file.now l.q.setting.ends l.leaf.set l.by) l.i l.j l.x

abbrev pub decreases-loop-o : goal.decreases-loop-o
decreases-loop-o l = clause_count l.leaf.set - l.i

-- `step::derived` meets its contract: what the step says follows by its rule from what its premises say.
-- Assumes nothing.
use mathlib.Core.Path.{refl}
use Rattle.derivation.proofs.Derived.{derived_by}
use Rattle.derivation.proofs.step.derived.Goals as goal

pub returns-then-rule-le-CG : goal.returns-then-rule-le-CG
returns-then-rule-le-CG c =
    derived_by _ c.args.rule c.args.s c.requires c.premises-count.ensures
    c.premise-p.ensures c.premise-q.ensures c.premise-o.ensures (rw c.args.file.now.same c.by_rule.ensures)

pub returns-else-rule-le-DI : goal.returns-else-rule-le-DI
returns-else-rule-le-DI c =
    derived_by _ c.args.rule c.args.s c.requires c.premises-count.ensures
    c.premise-p.ensures c.premise-q.ensures (λ _. refl) (rw c.args.file.now.same (c.by_rule-else-rule-le-DI.ensures _))

-- `propagation::pulled` meets its contract.
-- Assumes nothing.
use mathlib.Core.Path.{sym, ◌∙◌}
use Rattle.propagation.proofs.CodeLaws.{code_same, code_met, code_rest}
use Rattle.propagation.proofs.pulled.Goals as goal

pub returns-then-by-eq0 : goal.returns-then-by-eq0
returns-then-by-eq0 c = code_same c.args.by c.args.c c.if-by-eq0.true

pub returns-then-is_met : goal.returns-then-is_met
returns-then-is_met c = code_met _ _ (sym c.is_met.ensures ∙ c.if-is_met.true)

pub returns : goal.returns
returns c =
    code_rest _ _ (sym c.is_met.ensures ∙ c.if-is_met.false) c.without.ensures c.without-2.ensures

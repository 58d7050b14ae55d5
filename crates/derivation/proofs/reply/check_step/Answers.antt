-- `reply::check_step` meets its contract: a basic statement by its verdict, a derivation by its rule.
-- Assumes nothing.
use mathlib.Core.Path.{sym, ◌∙◌}
use Rattle.derivation.proofs.ReplyLaws.{unformed_reply, rule_bounds, says, basic_told, derived_told}
use Rattle.derivation.proofs.reply.check_step.Goals as goal

pub returns-then-not-well_formed : goal.returns-then-not-well_formed
returns-then-not-well_formed c = unformed_reply _ _ _ (sym (c.well_formed-2.ensures _ c.requires) ∙ c.if-not-well_formed.true)

pub basic-requires-clause-le_rule : goal.basic-requires-clause-le_rule
basic-requires-clause-le_rule c =
    ((rule_bounds _ _ _ _ _ c.requires c.if-not-well_formed.false (c.well_formed-2.ensures _ c.requires)).0, c.if-rule-le-B5.true)

pub basic-requires-clause-j_value : goal.basic-requires-clause-j_value
basic-requires-clause-j_value c = says _ _ _ _ _ c.requires c.if-not-well_formed.false (c.well_formed-2.ensures _ c.requires)

pub derived-requires : goal.derived-requires
derived-requires c =
    (c.if-rule-le-B5.false, (rule_bounds _ _ _ _ _ c.requires c.if-not-well_formed.false (c.well_formed-2.ensures _ c.requires)).1)

pub returns-then-rule-le-B5 : goal.returns-then-rule-le-B5
returns-then-rule-le-B5 c =
    basic_told _ _ _ _ _ c.requires c.if-not-well_formed.false (c.well_formed-2.ensures _ c.requires) c.if-rule-le-B5.true c.basic.ensures

pub returns-else-rule-le-B5 : goal.returns-else-rule-le-B5
returns-else-rule-le-B5 c =
    derived_told _ _ _ _ _ c.requires c.if-not-well_formed.false (c.well_formed-2.ensures _ c.requires) c.if-rule-le-B5.false c.derived.ensures

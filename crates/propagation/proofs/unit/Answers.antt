-- `propagation::unit` meets its contract.
-- Assumes nothing.
use Rattle.std.proofs.Common.{true, false, refl, rules}
use Rattle.propagation.proofs.UnitLaws.{Left, met_already, stays_open, stays_wide, conflicting, forces}
use Rattle.propagation.proofs.unit.Goals as goal

pub returns-then-c-x-ne0 : goal.returns-then-c-x-ne0
returns-then-c-x-ne0 c =
    met_already (record { positive_fits = search rules; negative_fits = search rules; positive_left = refl; negative_left = refl })
    c.if-c-x-ne0.true

pub returns-then-left_p-eq0 : goal.returns-then-left_p-eq0
returns-then-left_p-eq0 c =
    let left : Left c.args.x c.args.c c.without-left_p.result c.without-left_n.result =
    record {
      positive_fits = search rules;
      negative_fits = search rules;
      positive_left = c.without-left_p.ensures;
      negative_left = c.without-left_n.ensures;
    } in
    conflicting left c.if-left_p-eq0.true c.if-left_n-eq0.true

pub returns-then-left_p-eq0-2 : goal.returns-then-left_p-eq0-2
returns-then-left_p-eq0-2 c =
    let left : Left c.args.x c.args.c c.without-left_p.result c.without-left_n.result =
    record {
      positive_fits = search rules;
      negative_fits = search rules;
      positive_left = c.without-left_p.ensures;
      negative_left = c.without-left_n.ensures;
    } in
    forces left true c.if-left_n-eq0.true c.if-left_p-eq0.false c.if-left_p-eq0-2.true

pub returns-then-left_n-eq0 : goal.returns-then-left_n-eq0
returns-then-left_n-eq0 c =
    let left : Left c.args.x c.args.c c.without-left_p.result c.without-left_n.result =
    record {
      positive_fits = search rules;
      negative_fits = search rules;
      positive_left = c.without-left_p.ensures;
      negative_left = c.without-left_n.ensures;
    } in
    stays_wide left true c.if-left_p-eq0.false c.if-left_p-eq0-2.false

pub returns-then-left_n-eq0-2 : goal.returns-then-left_n-eq0-2
returns-then-left_n-eq0-2 c =
    let left : Left c.args.x c.args.c c.without-left_p.result c.without-left_n.result =
    record {
      positive_fits = search rules;
      negative_fits = search rules;
      positive_left = c.without-left_p.ensures;
      negative_left = c.without-left_n.ensures;
    } in
    forces left false c.if-left_p-eq0-3.true c.if-left_n-eq0.false c.if-left_n-eq0-2.true

pub returns-else-left_n-eq0-2 : goal.returns-else-left_n-eq0-2
returns-else-left_n-eq0-2 c =
    let left : Left c.args.x c.args.c c.without-left_p.result c.without-left_n.result =
    record {
      positive_fits = search rules;
      negative_fits = search rules;
      positive_left = c.without-left_p.ensures;
      negative_left = c.without-left_n.ensures;
    } in
    stays_wide left false c.if-left_n-eq0.false c.if-left_n-eq0-2.false

pub returns-else-left_p-eq0-3 : goal.returns-else-left_p-eq0-3
returns-else-left_p-eq0-3 c =
    let left : Left c.args.x c.args.c c.without-left_p.result c.without-left_n.result =
    record {
      positive_fits = search rules;
      negative_fits = search rules;
      positive_left = c.without-left_p.ensures;
      negative_left = c.without-left_n.ensures;
    } in
    stays_open left c.if-left_p-eq0-3.false c.if-left_n-eq0.false

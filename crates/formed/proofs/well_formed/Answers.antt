-- `formed::well_formed` meets its contract: a number outside the table names no rule; of the others the tests are those of the table.
-- Assumes nothing.
use Rattle.meaning.specs.File.{step_at}
use Rattle.certificate.specs.Known.{decoded}
use Rattle.certificate.proofs.KnownLaws.{placed_state_sets, placed_action_sets}
use Rattle.numbers.proofs.Table.{premises_bound}
use Rattle.formed.proofs.FormedLaws.{three_premises, formed_none, formed_past, formed_tests}
use Rattle.formed.proofs.well_formed.Goals as goal
use Rattle.formed.proofs.well_formed.Goals.{then-rule-lt-B1-via-then-rule-lt-B1, then-rule-lt-B1-via-else-rule-lt-B1+then-rule-gt-RP}

pub returns-then-rule-lt-B1 : goal.returns-then-rule-lt-B1
returns-then-rule-lt-B1 c bytes h =
    elim c.then-rule-lt-B1.branch [
      | then-rule-lt-B1-via-then-rule-lt-B1 w ↦ formed_none _ _ _ (step_at (decoded bytes) _) w.if-rule-lt-B1.true
      | then-rule-lt-B1-via-else-rule-lt-B1+then-rule-gt-RP w ↦ formed_past _ _ _ (step_at (decoded bytes) _) w.if-rule-gt-RP.true
    ]

pub returns : goal.returns
returns c bytes h =
    formed_tests _ _ _ _ h.value c.if-rule-lt-B1.false c.if-rule-gt-RP.false
    c.kind_of.ensures c.judgement.ensures c.premises-count.ensures
    (c.entries_fit.ensures _ (placed_state_sets _ _ h.placed) (placed_action_sets _ _ h.placed))
    c.premises_fit.ensures (three_premises _ _ _ _ h)

pub premises_fit-requires : goal.premises_fit-requires
premises_fit-requires c = rw c.premises-count.ensures (premises_bound _)

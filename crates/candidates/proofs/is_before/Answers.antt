-- `candidates::is_before` meets its contract: a leaf that the test finds has this set.
-- Assumes nothing.
use Rattle.std.proofs.Common.{◌≡◌, false, rules, tests, arith}
use Rattle.std.proofs.lemmas.Grind.{common_steps}
use Rattle.std.proofs.lemmas.Iterator.{cases_from_any, YieldsList-from_slice}
use Rattle.candidates.proofs.OpenLaws.{found_before}
use Rattle.candidates.proofs.is_before.Goals as goal

pub returns-then-is_some : goal.returns-then-is_some
returns-then-is_some c =
    let leaves = c.args.left.now in
    found_before leaves c.args.set _ _
    (cases_from_any _ _ _ (λ x. x ≡ record { set = c.args.set; after = false }) (λ x. Unit {0}) c.any.ensures.ran
    (YieldsList-from_slice leaves cc) (λ x q k. grind (arith, common_steps)) (λ x q k. (search (rules, tests), tt)))

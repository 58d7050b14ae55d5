-- `clauses::satisfiable` meets its contract.
-- Assumes nothing.
use borrow.Author.Rules.{rules}
use Rattle.clauses.proofs.SeekLaws.{trying_more, trying_done, trying_none_left, usable_shaped}
use Rattle.clauses.proofs.satisfiable.Goals as goal

pub returns-in_default : goal.returns-in_default
returns-in_default c =
    let shaped = usable_shaped _ _ _ c.args.q.now.usable in
    record {
      finds = λ e. absurd e;
      sees = trying_none_left _ _ c.requires.two_value shaped c.loop-i.invariant.1 c.loop-i.invariant.0 c.in_default.ensures;
    }

pub loop-i-preserved : goal.loop-i-preserved
loop-i-preserved c = (search rules, trying_more _ _ c.loop-i.invariant.1 c.in-Some.ensures)

pub returns : goal.returns
returns c =
    record {
      finds = λ e. trying_done _ _ c.requires.two_value (search rules) c.loop-i.invariant.1 c.loop-i.invariant.0;
      sees = λ m. tt;
    }

-- `listed::Statement::trail` meets its contract.
-- Assumes nothing.
use mathlib.Core.Path.{sym, subst}
use mathlib.Core.Logic.{inl, inr}
use borrow.Author.Rules.{rules}
use Rattle.listed.specs.Search.{StatesAfter}
use Rattle.listed.proofs.ShownLaws.{first_after}
use Rattle.listed.proofs.Statement.trail.Goals as goal
use Rattle.listed.proofs.Statement.trail.Goals.{then-x, else-x}

pub returns : goal.returns
returns c =
    let i = c.in_ok-x.ensures.item in (
      c.new.ensures.0,
      subst (StatesAfter c.args.self.now.right.now c.args.self.now.a) (sym c.new.ensures.2)
          (first_after c.args.self.now.right.now c.args.self.now.a (search rules) i.1 c.in-Explicit.is
          (elim c.if-x.branch [
            | then-x w ↦ inl w.if-x.true
            | else-x w ↦ inr (search rules)
          ])),
    )

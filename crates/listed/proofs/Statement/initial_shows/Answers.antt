-- `listed::Statement::initial_shows` meets its contract.
-- Assumes nothing.
use mathlib.Core.Path.{sym, subst, ◌∙◌}
use lib.Dec.{T}
use borrow.Author.Rules.{rules}
use Rattle.listed.proofs.InitialLaws.{split_code, top_applies}
use Rattle.listed.proofs.ShownLaws.{shows_applies}
use Rattle.listed.proofs.Statement.initial_shows.Goals as goal

pub returns-then-not-applies : goal.returns-then-not-applies
returns-then-not-applies c =
    let x = c.args.self.now in
    let split = split_code x.file.now.ends x.a (search rules) (search rules) (search rules) (search rules) (search rules) (search rules) in (
      (λ z. absurd z),
      (λ (s, i, h).
          subst T (sym c.applies.ensures ∙ c.if-not-applies.true)
          (top_applies x.file.now.ends x.a _ _ _ split s i (shows_applies _ _ _ _ _ _ s h))),
    )

pub tried_show-requires-clause-split : goal.tried_show-requires-clause-split
tried_show-requires-clause-split c =
    let x = c.args.self.now in
    split_code x.file.now.ends x.a (search rules) (search rules) (search rules) (search rules) (search rules) (search rules)

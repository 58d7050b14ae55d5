-- `marks::all_marked`: word by word, four times 64 marks are 256.
-- Assumes nothing.
use mathlib.Core.Bool.{not, ◌||◌}
use borrow.Author.Rules.{rules}
use mathlib.Core.Path.{◌∙◌}
use Rattle.std.proofs.Common.{tests}
use Rattle.std.proofs.lemmas.Iterator.{YieldsList-from_slice, YieldsList-from_zip}
use Rattle.std.proofs.lemmas.Iterator.Search.{all_from_yields_List}
use Rattle.meaning.specs.Sets.{all_below}
use Rattle.task.specs.Inner.{has}
use Rattle.actions.specs.Marks.{marked}
use Rattle.actions.proofs.MarkLaws.{all_words}
use Rattle.actions.proofs.marks.all_marked.Goals as goal

pub returns : goal.returns
unfolding marked
returns c =
    all_from_yields_List (λ p. all_below 64 (λ k. not (has p.0 k) || has p.1 k)) c.all.new.self _ c.all.result c.all.ensures.ran
    (YieldsList-from_zip (YieldsList-from_slice c.args.a cc) (YieldsList-from_slice c.args.b cc)) (λ x b q k. search (rules, tests))
    ∙ all_words (λ x y k. not (has x k) || has y k) c.args.a c.args.b (search rules) (search rules)

-- `leaves::kind_of` meets its contract: each case gives its own number.
-- Assumes nothing.
use Rattle.leaves.specs.Leaves.{kind_of}
use Rattle.std.proofs.Common.{refl}
use Rattle.leaves.proofs.kind_of.Goals as goal

pub returns-in-Empty : goal.returns-in-Empty
unfolding kind_of
returns-in-Empty c = rw c.in-Empty.is refl

pub returns-in-Init : goal.returns-in-Init
unfolding kind_of
returns-in-Init c = rw c.in-Init.is refl

pub returns-in-Goal : goal.returns-in-Goal
unfolding kind_of
returns-in-Goal c = rw c.in-Goal.is refl

pub returns-in-Explicit : goal.returns-in-Explicit
unfolding kind_of
returns-in-Explicit c = rw c.in-Explicit.is refl

pub returns-in-Horn : goal.returns-in-Horn
unfolding kind_of
returns-in-Horn c = rw c.in-Horn.is refl

pub returns-in-TwoCnf : goal.returns-in-TwoCnf
unfolding kind_of
returns-in-TwoCnf c = rw c.in-TwoCnf.is refl

-- `question::is_shallow`: each call of itself asks for one level less.
-- Assumes nothing.
use Rattle.question.proofs.+is_shallow.Given as goal

abbrev pub decreases-is_shallow : goal.decreases-is_shallow
decreases-is_shallow l = l.d

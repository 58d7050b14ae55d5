-- What the code's statement tells, in short. Only the code's inner promises speak of this.
-- Assumes nothing.
use Rattle.std.specs.Prelude.{◌≡◌, ℕ, ◌-◌, ◌≤◌, ◌<◌, Bool, false, Option, IfSome, MatchOption, T}
use Rattle.listed.specs.declared.Trail.{Trail}
use Rattle.listed.specs.declared.Statement.{Statement}
use Rattle.task.specs.Facts.{all_on}
use Rattle.task.specs.Task.{after}
use Rattle.meaning.specs.Sets.{some_below}
use Rattle.certificate.specs.Rows.{state_in}
use Rattle.membership.specs.declared.Listed.{Listed}
use Rattle.listed.specs.Search.{StatesAfter, Passed, shows_in}

-- a state makes the statement untrue
abbrev pub shows : Statement → ℕ → Bool
shows x s = shows_in x.file.now.bytes.now x.file.now.ends x.a x.left.now x.right.now x.anchor s

-- the states that are searched are those of the statement's first right leaf
abbrev pub Follows : Option Trail → Statement → Type 0
Follows trail x = IfSome trail (λ p. (p.into.bytes.now ≡ x.file.now.bytes.now) × StatesAfter x.right.now x.a p.into.span)

-- the k-th of listed states, by size
abbrev pub listed_state : Listed → ℕ → ℕ
listed_state x k = state_in x.bytes.now x.index.now x.span k

-- none of the numbers before r, from `from` on and before `to`, passes a test, or none at all of those before `to`
abbrev pub Next : (ℕ → Bool) → ℕ → ℕ → Option ℕ → Type 0
Next p from to r = MatchOption r (some_below to p ≡ false) (λ k. (from ≤ k) × (k < to) × (some_below k p ≡ false))

-- no state makes the statement untrue from which the action leads to where it leads from s
abbrev pub Led : Statement → ℕ → Type 0
Led x s = (u : ℕ) → after x.a s ≡ after x.a u → shows x u ≡ false

-- each state top - d is so, for a mask d within the mask from `from` down to above r, or down to 0
abbrev pub NextUnled : Statement → ℕ → ℕ → ℕ → Option ℕ → Type 0
NextUnled x top mask from r =
    MatchOption r
    ((d : ℕ) → T (all_on d mask) → d ≤ from → Led x (top - d))
    (λ k. T (all_on k mask) × (k ≤ from) × Passed top mask (Led x) from k)

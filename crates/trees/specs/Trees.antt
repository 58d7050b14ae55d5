-- Short lists of entries as the code holds them. Only the code's inner promises speak of this.
-- Assumes nothing.
use Rattle.std.specs.Prelude.{◌≡◌, ℕ, ◌≤◌, ◌<◌, List, [], ◌∷◌, ◌++◌, length, take, Option, Some, None}
use Rattle.trees.specs.declared.Leaves.{Leaves}

-- the entries that a list holds, of at most nine
unfoldable pub list_of : Leaves → List ℕ
list_of x = take x.count x.items

pub record Lists (x : Leaves) (es : List ℕ) : Type 0 where
  pub same : list_of x ≡ es
  pub size : x.count ≡ length es

-- all of at most eight; none where there are more
abbrev pub Found : Option Leaves → List ℕ → Type 0
Found (Some x) es = Lists x es × (length es ≤ 8)
Found None es = 8 < length es

-- the last entry is taken off, if there is one
abbrev pub Popped : Leaves → Leaves → Option ℕ → Type 0
Popped x y (Some e) = Lists x (list_of y ++ e ∷ [])
Popped x y None = Lists x []

-- `layout::is_whole` meets its contract.
-- Assumes nothing.
use mathlib.Core.Path.{ap}
use Prim.Native.Nat.{ℕ, ◌+◌}
use mathlib.Core.Bool.{◌&&◌}
use lib.ListN.{length}
use lib.Dec.{leb, eqb}
use Rattle.layout.specs.Sections.{is_whole}
use Rattle.layout.proofs.is_whole.Goals as goal

pub returns : goal.returns
unfolding is_whole
returns c =
    let n : ℕ = length c.args.file.now in
    ap (λ (x : ℕ). (leb 4 n && leb n 65536) && eqb (x + 4) n) c.u32_at.ensures

-- The limits that checks are given are those of the definitions.
-- Assumes nothing.
use mathlib.Core.Path.{◌≡◌, refl}
use Rattle.meaning.specs.Limits.{full, small}
use Rattle.layout.specs.declared.TheConstants.{FULL_LIMITS, SMALL_LIMITS}

pub full_limits : FULL_LIMITS ≡ full
full_limits = refl

pub small_limits : SMALL_LIMITS ≡ small
small_limits = refl

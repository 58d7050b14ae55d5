-- How much a check takes: bytes of the file, states in an explicit set, steps.
-- Assumes nothing.
use Rattle.meaning.specs.declared.Limits.{Limits}

-- document 01's
abbrev pub full : Limits
full = record { size = 65536; states = 4096; steps = 2048 }

-- those of document 02, l
abbrev pub small : Limits
small = record { size = 16384; states = 512; steps = 256 }

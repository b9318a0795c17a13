-- A scanner as a place: the field that stands there, and the scanner past it.
use Rattle.std.specs.Prelude.{ℕ, ◌+◌}
use Rattle.fields.specs.Source.{Field, packed_field}
use Rattle.fields.specs.Along.{Steps}
use Rattle.scans.specs.declared.Scanner.{Scanner}

-- the field of w bits at the scanner
abbrev pub field_before : ℕ → Scanner → Field
field_before w x = packed_field x.s.now w x.cursor.at

-- past a field of w bits
abbrev pub passed : ℕ → ℕ → Scanner → Scanner
passed w v x = record { s = x.s; cursor = record { at = x.cursor.at + w } }

abbrev pub scanning : Steps Scanner
scanning = record { at = field_before; past = passed }

-- Where fields come from: bytes, in which they are packed, or a list of numbers, one for each field.
use Rattle.std.specs.Prelude.{ℕ, ◌+◌, ◌^◌, List, Bool, ◌&&◌, cond, length, get_or, ltb, leb, Result, Ok, Err, Some, None}
use Rattle.bits.specs.Bits.{read_field}
use Rattle.bits.specs.Bits.{Taken as Bits}
use Rattle.fields.specs.declared.Walker.{Walker}

-- what stands at a place: a field's value, or the number of its refusal
abbrev pub Field : Type 0
Field = Result ℕ ℕ

-- what a walk comes to: a value and the walker past it, or the number of a refusal and the walker where it is given
abbrev pub Walk : Type 0
Walk = Result (ℕ × Walker) (ℕ × Walker)

-- 01, 4: "too wide when writing"; 3: "a field begins or runs past the end"
unfoldable pub listed_field : List ℕ → ℕ → ℕ → Field
listed_field l w n = cond (ltb n (length l)) (cond (ltb (get_or l n 0) (2 ^ w)) (Ok (get_or l n 0)) (Err 4)) (Err 3)

abbrev pub of_bits : Bits → Field
of_bits (Some (v, d)) = Ok v
of_bits None = Err 3

unfoldable pub packed_field : List ℕ → ℕ → ℕ → Field
packed_field s w at = of_bits (read_field s w at)

-- no field has more than 16 bits, and none begins past the first 2 ^ 32 fields or bits: no grammar of 01 gets there
unfoldable pub in_reach : ℕ → Walker → Bool
in_reach w c = leb w 16 && ltb c.n (2 ^ 32) && ltb c.bit (2 ^ 32)

-- the field of w bits at a walker
unfoldable pub field_at : List ℕ → List ℕ → ℕ → Walker → Field
field_at s l w c = cond (in_reach w c) (cond c.listed (listed_field l w c.n) (packed_field s w c.bit)) (Err 3)

-- a source hands out the field of a width at a walker
abbrev pub Source : Type 0
Source = ℕ → Walker → Field

abbrev pub source : List ℕ → List ℕ → Source
source s l w c = field_at s l w c

-- the walker past a field of w bits
abbrev pub moved : ℕ → Walker → Walker
moved w c = record { bit = c.bit + w; n = c.n + 1; listed = c.listed }

-- the walker at a file's first field
abbrev pub start : Bool → Walker
start listed = record { bit = 0; n = 0; listed = listed }

-- Fields of bits in a list of bytes, most significant bit first: the bit at a place, the number at a place, and what `take` answers.
-- Assumes nothing: these are definitions.
use Rattle.std.specs.Prelude.{ℕ, zero, suc, ◌+◌, ◌-◌, ◌*◌, ◌/◌, ◌%◌, ◌^◌, ◌<◌, min, List, Bool, ◌&&◌, cond, length, get_or, leb, Option, Some, None}
use Rattle.bits.specs.declared.Cursor.{Cursor}

-- the byte at place i, 0 past the end
abbrev pub byte_at : List ℕ → ℕ → ℕ
byte_at s i = get_or s i 0

-- every element is a byte
abbrev pub Bytes : List ℕ → Type 0
Bytes s = (i : ℕ) → byte_at s i < 256

-- the bit at place i, counted from the first byte's most significant bit
unfoldable pub bit_at : List ℕ → ℕ → ℕ
bit_at s i = byte_at s (i / 8) / 2 ^ (7 - i % 8) % 2

-- the number that the w digits d 0, d 1, .. spell, the most significant first
unfoldable pub spelled : (ℕ → ℕ) → ℕ → ℕ
spelled d zero = 0
spelled d (suc w) = spelled d w * 2 + d w

-- the number that the w bits from place `at` on spell
unfoldable pub bits_at : List ℕ → ℕ → ℕ → ℕ
bits_at s at w = spelled (λ j. bit_at s (at + j)) w

-- how many bits there are, counted up to 2 ^ 32
abbrev pub room_of : List ℕ → ℕ
room_of s = min (8 * length s) (2 ^ 32)

-- a field has at most 16 bits, and all of them lie within the bytes
abbrev pub fits : List ℕ → ℕ → ℕ → Bool
fits s w at = leb w 16 && leb (at + w) (room_of s)

-- what stands at a cursor: a field's value and the cursor past it; or nothing, where the field begins or runs past the end
abbrev pub Taken : Type 0
Taken = Option (ℕ × Cursor)

-- the field of w bits at place `at` with the cursor past it, where it fits
unfoldable pub read_field : List ℕ → ℕ → ℕ → Taken
read_field s w at = cond (fits s w at) (Some (bits_at s at w, record { at = at + w })) None

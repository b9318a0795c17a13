-- The packed layout: fields one after the other, most significant bit first, with no gaps; then zero bits up to the next whole byte, and nothing more.
-- Assumes nothing: these are definitions.
use Rattle.std.specs.Prelude.{ℕ, zero, suc, ◌+◌, ◌/◌, ◌%◌, ◌^◌, ◌<◌, ◌≡◌, List, [], ◌∷◌, ◌++◌, length, get_or, drop}
use Rattle.bits.specs.Bits.{spelled, bits_at}

-- the w low bits of v, most significant first
unfoldable pub bits_of : ℕ → ℕ → List ℕ
bits_of zero v = []
bits_of (suc w) v = v / 2 ^ w % 2 ∷ bits_of w v

-- a field is a pair of a width and a value: the bits of fields, one after the other with no gaps
unfoldable pub field_bits : List (ℕ × ℕ) → List ℕ
field_bits [] = []
field_bits (f ∷ fs) = bits_of f.0 f.1 ++ field_bits fs

-- how many bits the fields have
unfoldable pub width : List (ℕ × ℕ) → ℕ
width [] = 0
width (f ∷ fs) = f.0 + width fs

-- how many whole bytes n bits need
abbrev pub bytes_for : ℕ → ℕ
bytes_for n = (n + 7) / 8

-- n bytes, each spelled by the next eight bits, with zero bits where none are left
unfoldable pub groups : ℕ → List ℕ → List ℕ
groups zero bits = []
groups (suc n) bits = spelled (λ j. get_or bits j 0) 8 ∷ groups n (drop 8 bits)

-- bits as bytes: zero bits follow up to the next whole byte, and nothing more
unfoldable pub bytes_of : List ℕ → List ℕ
bytes_of bits = groups (bytes_for (length bits)) bits

-- the file that holds the fields
unfoldable pub packed : List (ℕ × ℕ) → List ℕ
packed fs = bytes_of (field_bits fs)

-- the fields stand in the bytes s one after the other from place `at` on
unfoldable pub Reads : List ℕ → ℕ → List (ℕ × ℕ) → Type 0
Reads s at [] = Unit {0}
Reads s at (f ∷ fs) = (bits_at s at f.0 ≡ f.1) × Reads s (at + f.0) fs

-- each value has no more bits than its width
unfoldable pub Sized : List (ℕ × ℕ) → Type 0
Sized [] = Unit {0}
Sized (f ∷ fs) = (f.1 < 2 ^ f.0) × Sized fs

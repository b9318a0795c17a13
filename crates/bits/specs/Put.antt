-- A field put into a list of bytes: the bits before it are kept, the rest of its last byte is zero, and the bytes after that are kept.
-- Assumes nothing: these are definitions.
use Rattle.std.specs.Prelude.{ℕ, suc, ◌+◌, ◌-◌, ◌*◌, ◌/◌, ◌%◌, ◌^◌, ◌≤◌, ◌<◌, ◌≡◌, List, [], ◌∷◌, ◌++◌, cond, length, take, drop}
use Rattle.bits.specs.Bits.{Bytes, bit_at, fits}
use Rattle.bits.specs.Packed.{bits_of, bytes_for, bytes_of}

-- the bits of a list of bytes, in order
unfoldable pub bits_in : List ℕ → List ℕ
bits_in [] = []
bits_in (b ∷ s) = bits_of 8 b ++ bits_in s

-- the bits before place `at`, the w low bits of v, zero bits up to the next whole byte, then the bytes that stood there
unfoldable pub put_bits : List ℕ → ℕ → ℕ → ℕ → List ℕ
put_bits s at w v = bytes_of (take at (bits_in s) ++ bits_of w v) ++ drop (bytes_for (at + w)) s

-- the same said bit by bit: the bytes t are the bytes s with the field put in
pub record Puts (s : List ℕ) (at w v : ℕ) (t : List ℕ) : Type 0 where
  pub long : length t ≡ length s
  pub small : Bytes t
  pub before : (i : ℕ) → i < at → bit_at t i ≡ bit_at s i
  pub there : (j : ℕ) → j < w → bit_at t (at + j) ≡ v / 2 ^ (w - suc j) % 2
  pub zeros : (i : ℕ) → at + w ≤ i → i < 8 * bytes_for (at + w) → bit_at t i ≡ 0
  pub after : (i : ℕ) → 8 * bytes_for (at + w) ≤ i → bit_at t i ≡ bit_at s i

-- the bytes once the field was put, where it fits; else as they were
unfoldable pub put_field : List ℕ → ℕ → ℕ → ℕ → List ℕ
put_field s w v at = cond (fits s w at) (put_bits s at w v) s

-- the place past the field, where it fits; else the place itself
unfoldable pub place_after : List ℕ → ℕ → ℕ → ℕ
place_after s w at = cond (fits s w at) (at + w) at

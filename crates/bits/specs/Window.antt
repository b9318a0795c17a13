-- Three bytes as one number, in which every field of at most 16 bits lies: what the code takes fields out of and puts them into.
-- Assumes nothing: these are definitions.
use Rattle.std.specs.Prelude.{ℕ, ◌+◌, ◌-◌, ◌*◌, ◌/◌, ◌%◌, ◌^◌, List, set}
use Rattle.bits.specs.Bits.{byte_at}
use Rattle.bits.specs.Packed.{bytes_for}

-- the three bytes from place k on
abbrev pub window_at : List ℕ → ℕ → ℕ
window_at s k = byte_at s k * 65536 + byte_at s (k + 1) * 256 + byte_at s (k + 2)

-- the bytes s with the three bytes of x from place k on, as far as there are places
unfoldable pub with_window : List ℕ → ℕ → ℕ → List ℕ
with_window s k x = set (set (set s k (x / 65536 % 256)) (k + 1) (x / 256 % 256)) (k + 2) (x % 256)

-- the three bytes x with the w low bits of v from bit p on, zeros after them up to the next whole byte, and the bytes after that
unfoldable pub woven : ℕ → ℕ → ℕ → ℕ → ℕ
woven x p w v = (x / 2 ^ (24 - p) * 2 ^ w + v % 2 ^ w) * 2 ^ (24 - p - w) + x % 2 ^ (24 - 8 * bytes_for (p + w))

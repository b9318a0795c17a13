-- The bits from a place on as one number of 64 bits: what the code takes the fields of a node out of, all from one load.
use Rattle.std.specs.Prelude.{ℕ, ◌+◌, ◌-◌, ◌/◌, ◌%◌, ◌^◌, ◌≤◌, ◌≡◌, List}
use Rattle.bits.specs.Bits.{bits_at}

-- the field of w bits that begins o bits behind `at` stands in r, if it ends within the first 56 bits
pub record Views (s : List ℕ) (at r : ℕ) : Type 0 where
  pub field : (o w : ℕ) → o + w ≤ 56 → r / 2 ^ (64 - o - w) % 2 ^ w ≡ bits_at s (at + o) w

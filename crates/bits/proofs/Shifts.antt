-- What the code's shifts and remainders of 64 bits come to: no bit of a window of 24 is lost.
use mathlib.Core.Path.{◌≡◌, ap, ap₂, subst, ◌∙◌}
use Prim.Native.Nat.{ℕ, ◌+◌, ◌-◌, ◌*◌, ◌/◌, ◌%◌, ◌^◌, ◌≤◌, ◌<◌}
use native.Mathlib.Nat.{mod-lt, mod-le, lt_of_lt_of_le}
use native.Mathlib.Omega.{arith}
use lib.Arith.{digits_lt}
use lib.Pow.{pow_pos, pow_mono, pow-add, shl_lt, shr_lt, shl_exact}
use Rattle.bits.specs.Packed.{bytes_for}
use Rattle.bits.specs.Window.{woven}

-- `1 << w`
pub one_shifted : (w : ℕ) → w ≤ 24 → (1 * 2 ^ w) % 2 ^ 64 ≡ 2 ^ w
one_shifted w h = shl_exact {a = 1} 1 w 64 (omega arith) (omega arith) ∙ omega arith

pub one_shifted_pos : (w : ℕ) → w ≤ 24 → 0 < (1 * 2 ^ w) % 2 ^ 64
one_shifted_pos w h = rw (one_shifted w h) (pow_pos w)

-- a field of at most 16 bits fits 16 bits
pub field_lt : (n w : ℕ) → w ≤ 16 → n % ((1 * 2 ^ w) % 2 ^ 64) < 2 ^ 16
field_lt n w h = rw (one_shifted w (omega arith)) (lt_of_lt_of_le (mod-lt n (pow_pos w)) (pow_mono h))

-- what stands before bit p of a window is a number of p bits
kept_lt : (x p : ℕ) → x < 2 ^ 24 → p < 8 → x / 2 ^ (24 - p) < 2 ^ p
kept_lt x p window inside = shr_lt p (24 - p) (subst (λ (n : ℕ). x < 2 ^ n) whole window)
  where
    whole : 24 ≡ p + (24 - p)
    whole = omega arith

-- no sum wraps
pub head_small : (x p w v n : ℕ) → x < 2 ^ 24 → p < 8 → w ≤ 16 → v < 2 ^ 16 → (x / 2 ^ (24 - p) * 2 ^ w) % 2 ^ 64 + v % n < 2 ^ 24
head_small x p w v n window inside narrow short = omega (arith, mod-le (x / 2 ^ (24 - p) * 2 ^ w) (2 ^ 64), mod-le v n, kept)
  where
    kept : x / 2 ^ (24 - p) * 2 ^ w < 2 ^ 23
    kept = lt_of_lt_of_le (shl_lt p w (kept_lt x p window inside)) (pow_mono {j = 23} (omega arith))

pub weave_small : (h k x n : ℕ) → h < 2 ^ 24 → k ≤ 24 → x < 2 ^ 24 → (h * 2 ^ k) % 2 ^ 64 + x % n < 2 ^ 64
weave_small h k x n small near window = omega (arith, mod-le (h * 2 ^ k) (2 ^ 64), mod-le x n, shifted)
  where
    shifted : h * 2 ^ k < 2 ^ 48
    shifted = lt_of_lt_of_le (shl_lt 24 k small) (pow_mono {j = 48} (omega arith))

-- and no shift loses a bit
module _ (x p w v : ℕ) (window : x < 2 ^ 24) (inside : p < 8) (narrow : w ≤ 16) where
  abbrev head : ℕ
  head = x / 2 ^ (24 - p) * 2 ^ w + v % 2 ^ w

  head_lt : head < 2 ^ (p + w)
  head_lt = rw (pow-add 2 p w) (digits_lt (kept_lt x p window inside) (mod-lt v (pow_pos w)))

  head_is : (x / 2 ^ (24 - p) * 2 ^ w) % 2 ^ 64 + v % ((1 * 2 ^ w) % 2 ^ 64) ≡ head
  head_is = ap₂ (λ (m n : ℕ). m + v % n) (shl_exact p w 64 (kept_lt x p window inside) (omega arith)) (one_shifted w (omega arith))

  shifted_is : (head * 2 ^ (24 - p - w)) % 2 ^ 64 ≡ head * 2 ^ (24 - p - w)
  shifted_is = shl_exact (p + w) (24 - p - w) 64 head_lt (omega arith)

  rest_is : x % ((1 * 2 ^ (24 - (p + w + 7) / 8 * 8)) % 2 ^ 64) ≡ x % 2 ^ (24 - 8 * bytes_for (p + w))
  rest_is = ap (λ (n : ℕ). x % n) (one_shifted (24 - (p + w + 7) / 8 * 8) (omega arith)) ∙ ap (λ (n : ℕ). x % 2 ^ n) (omega arith)

  -- what the code computes
  pub weave_is : (((x / 2 ^ (24 - p) * 2 ^ w) % 2 ^ 64 + v % ((1 * 2 ^ w) % 2 ^ 64)) * 2 ^ (24 - p - w)) % 2 ^ 64 + x % ((1 * 2 ^ (24 - (p + w + 7) / 8 * 8)) % 2 ^ 64) ≡ woven x p w v
  unfolding woven
  weave_is = ap₂ (λ (m n : ℕ). (m * 2 ^ (24 - p - w)) % 2 ^ 64 + n) head_is rest_is ∙ ap (λ (n : ℕ). n + x % 2 ^ (24 - 8 * bytes_for (p + w))) shifted_is

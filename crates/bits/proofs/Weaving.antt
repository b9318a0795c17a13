-- A field put into three bytes as one number: the bits before it, its own bits, the zeros up to the next whole byte, and the bits after them.
use mathlib.Core.Path.{◌≡◌, sym, ap, ◌∙◌}
use Prim.Native.Nat.{ℕ, suc, ◌+◌, ◌-◌, ◌*◌, ◌/◌, ◌%◌, ◌^◌, ◌≤◌, ◌<◌}
use native.Mathlib.Nat.{mod-lt, mod-mod, mod-eq_of_lt, lt_of_lt_of_le}
use native.Mathlib.Omega.{arith}
use lib.Pow.{pow_pos, pow_mono, shr-shr, high, low}
use Rattle.bits.specs.Packed.{bytes_for}
use Rattle.bits.specs.Window.{woven}
use Rattle.bits.proofs.Numbers.{same_low, same_high, no_bit}

module _ (x p w v : ℕ) (inside : p < 8) (narrow : w ≤ 16) where
  abbrev head : ℕ
  head = x / 2 ^ (24 - p) * 2 ^ w + v % 2 ^ w

  abbrev below : ℕ
  below = 24 - p - w

  abbrev rest : ℕ
  rest = 24 - 8 * bytes_for (p + w)

  rest_lt : x % 2 ^ rest < 2 ^ below
  rest_lt = lt_of_lt_of_le (mod-lt x (pow_pos rest)) (pow_mono (omega arith))

  woven_high : woven x p w v / 2 ^ below ≡ head
  unfolding woven
  woven_high = high head below rest_lt

  woven_low : woven x p w v % 2 ^ below ≡ (x % 2 ^ rest) % 2 ^ below
  unfolding woven
  woven_low = low head below rest_lt ∙ sym (mod-eq_of_lt rest_lt)

  pub woven_before : (j : ℕ) → j < p → woven x p w v / 2 ^ (23 - j) % 2 ≡ x / 2 ^ (23 - j) % 2
  woven_before j h = same_high (woven x p w v) x (23 - j) (24 - p) (omega arith) top
    where
      whole : below + w ≡ 24 - p
      whole = omega arith

      top : woven x p w v / 2 ^ (24 - p) ≡ x / 2 ^ (24 - p)
      top =
          ap (λ (n : ℕ). woven x p w v / 2 ^ n) (sym whole)
          ∙ sym (shr-shr (woven x p w v) below w)
          ∙ ap (λ (n : ℕ). n / 2 ^ w) woven_high
          ∙ high (x / 2 ^ (24 - p)) w (mod-lt v (pow_pos w))

  pub woven_there : (j : ℕ) → j < w → woven x p w v / 2 ^ (23 - (p + j)) % 2 ≡ v / 2 ^ (w - suc j) % 2
  woven_there j h =
      ap (λ (n : ℕ). woven x p w v / 2 ^ n % 2) exponent
      ∙ ap (λ (n : ℕ). n % 2) (sym (shr-shr (woven x p w v) below (w - suc j)))
      ∙ ap (λ (n : ℕ). n / 2 ^ (w - suc j) % 2) woven_high
      ∙ same_low head v (w - suc j) w (omega arith) (low (x / 2 ^ (24 - p)) w (mod-lt v (pow_pos w)))
    where
      exponent : 23 - (p + j) ≡ below + (w - suc j)
      exponent = omega arith

  pub woven_zeros : (j : ℕ) → p + w ≤ j → j < 8 * bytes_for (p + w) → woven x p w v / 2 ^ (23 - j) % 2 ≡ 0
  woven_zeros j h l =
      same_low (woven x p w v) (x % 2 ^ rest) (23 - j) below (omega arith) woven_low
      ∙ no_bit (x % 2 ^ rest) (23 - j) rest (omega arith) (mod-lt x (pow_pos rest))

  pub woven_after : (j : ℕ) → 8 * bytes_for (p + w) ≤ j → j < 24 → woven x p w v / 2 ^ (23 - j) % 2 ≡ x / 2 ^ (23 - j) % 2
  woven_after j h l =
      same_low (woven x p w v) (x % 2 ^ rest) (23 - j) below (omega arith) woven_low
      ∙ same_low (x % 2 ^ rest) x (23 - j) rest (omega arith) (mod-mod x (2 ^ rest))

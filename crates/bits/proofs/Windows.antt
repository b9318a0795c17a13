-- Three bytes as one number: its bits, and what a shift and a remainder take out of it.
use mathlib.Core.Path.{◌≡◌, sym, ap, ◌∙◌}
use mathlib.Core.List.{List}
use Prim.Native.Nat.{ℕ, zero, suc, ◌+◌, ◌-◌, ◌*◌, ◌/◌, ◌%◌, ◌^◌, ◌≤◌, ◌<◌}
use native.Mathlib.Nat.{mod-mod}
use native.Mathlib.Omega.{arith}
use lib.Pow.{shr-shr}
use Rattle.bits.specs.Bits.{byte_at, Bytes, bit_at, bits_at}
use Rattle.bits.specs.Window.{window_at}
use Rattle.bits.proofs.Numbers.{same_low}
use Rattle.bits.proofs.Bytes.{bits_of_is}

-- where the byte is one of the three of x, the bit is a bit of x
pub bit_in : (s : List ℕ) (k x j : ℕ) → j < 24 → byte_at s (k + j / 8) ≡ x / 2 ^ (8 * (2 - j / 8)) % 2 ^ 8 → bit_at s (8 * k + j) ≡ x / 2 ^ (23 - j) % 2
unfolding bit_at
bit_in s k x j h e =
    ap (λ (i : ℕ). byte_at s i / 2 ^ (7 - (8 * k + j) % 8) % 2) place
    ∙ ap (λ (i : ℕ). byte_at s (k + j / 8) / 2 ^ i % 2) within
    ∙ ap (λ (b : ℕ). b / 2 ^ (7 - j % 8) % 2) e
    ∙ same_low (x / 2 ^ (8 * (2 - j / 8)) % 2 ^ 8) (x / 2 ^ (8 * (2 - j / 8))) (7 - j % 8) 8 (omega arith) (mod-mod (x / 2 ^ (8 * (2 - j / 8))) (2 ^ 8))
    ∙ ap (λ (n : ℕ). n % 2) (shr-shr x (8 * (2 - j / 8)) (7 - j % 8))
    ∙ ap (λ (n : ℕ). x / 2 ^ n % 2) exponent
  where
    place : (8 * k + j) / 8 ≡ k + j / 8
    place = omega arith

    within : 7 - (8 * k + j) % 8 ≡ 7 - j % 8
    within = omega arith

    exponent : 8 * (2 - j / 8) + (7 - j % 8) ≡ 23 - j
    exponent = omega arith

module _ (s : List ℕ) (small : Bytes s) where
  window_byte : (k q : ℕ) → q < 3 → byte_at s (k + q) ≡ window_at s k / 2 ^ (8 * (2 - q)) % 2 ^ 8
  window_byte k zero h = omega (arith, small k, small (k + 1), small (k + 2), ap (λ (j : ℕ). byte_at s j) zero_right)
    where
      zero_right : k + 0 ≡ k
      zero_right = omega arith
  window_byte k (suc zero) h = omega (arith, small k, small (k + 1), small (k + 2))
  window_byte k (suc (suc zero)) h = omega (arith, small k, small (k + 1), small (k + 2))
  window_byte k (suc (suc (suc q))) h = absurd (omega arith)

  pub window_bit : (k j : ℕ) → j < 24 → bit_at s (8 * k + j) ≡ window_at s k / 2 ^ (23 - j) % 2
  window_bit k j h = bit_in s k (window_at s k) j h (window_byte k (j / 8) (omega arith))

  -- what the code takes out of the window
  pub taken : (at w : ℕ) → w ≤ 16 → window_at s (at / 8) / 2 ^ (24 - at % 8 - w) % 2 ^ w ≡ bits_at s at w
  taken at w h = sym (bits_of_is s at w (window_at s (at / 8) / 2 ^ (24 - at % 8 - w)) each)
    where
      each : (j : ℕ) → j < w → bit_at s (at + j) ≡ window_at s (at / 8) / 2 ^ (24 - at % 8 - w) / 2 ^ (w - suc j) % 2
      each j l =
          ap (λ (n : ℕ). bit_at s n) place
          ∙ window_bit (at / 8) (at % 8 + j) (omega arith)
          ∙ ap (λ (n : ℕ). window_at s (at / 8) / 2 ^ n % 2) exponent
          ∙ ap (λ (n : ℕ). n % 2) (sym (shr-shr (window_at s (at / 8)) (24 - at % 8 - w) (w - suc j)))
        where
          place : at + j ≡ 8 * (at / 8) + (at % 8 + j)
          place = omega arith

          exponent : 23 - (at % 8 + j) ≡ 24 - at % 8 - w + (w - suc j)
          exponent = omega arith

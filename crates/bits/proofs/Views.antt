-- Many bits as one number: two fields side by side, a field of whole bytes, and what is left of 64 bits when they are shifted.
use mathlib.Core.Path.{◌≡◌, sym, ap, ap₂, subst, ◌∙◌}
use mathlib.Core.List.{List}
use mathlib.Core.Logic.{⊎_elim}
use Prim.Native.Nat.{ℕ, zero, suc, ◌+◌, ◌-◌, ◌*◌, ◌/◌, ◌%◌, ◌^◌, ◌≤◌, ◌<◌}
use native.Mathlib.Nat.{mod-mod, mul_assoc, suc-mul, pow-suc}
use native.Mathlib.Omega.{arith}
use lib.ListN.{length}
use lib.Pow.{pow-add, pow_pos, shl-shr, shr-shr, shl_exact, high, ones_lt}
use Rattle.bits.specs.Bits.{byte_at, Bytes, bit_at, spelled, bits_at}
use Rattle.bits.specs.View.{Views}
use Rattle.bits.proofs.Numbers.{lt_or_ge, same_low}
use Rattle.bits.proofs.Bytes.{bits_lt, bit_of_bits, bits_of_is, bits_zero, bit_past, byte_of_bits}

-- two fields side by side are one
pub bits_append : (s : List ℕ) (at w v : ℕ) → bits_at s at (w + v) ≡ bits_at s at w * 2 ^ v + bits_at s (at + w) v
unfolding bits_at spelled
bits_append s at w zero = ap (λ (n : ℕ). bits_at s at n) none ∙ one (bits_at s at w)
  where
    none : w + 0 ≡ w
    none = omega arith

    one : (x : ℕ) → x ≡ x * 2 ^ 0 + 0
    one x = omega arith
bits_append s at w (suc v) =
    ap (λ (n : ℕ). bits_at s at n) more
    ∙ ap₂ (λ (m n : ℕ). m * 2 + n) (bits_append s at w v) (ap (λ (n : ℕ). bit_at s n) place)
    ∙ joined (bits_at s at w) (bits_at s (at + w) v) (bit_at s (at + w + v))
  where
    more : w + suc v ≡ suc (w + v)
    more = omega arith

    place : at + (w + v) ≡ at + w + v
    place = omega arith

    joined : (x y b : ℕ) → (x * 2 ^ v + y) * 2 + b ≡ x * 2 ^ suc v + (y * 2 + b)
    joined x y b = omega (arith, ap (λ (n : ℕ). x * n) (pow-suc 2 v) ∙ sym (mul_assoc x (2 ^ v) 2))

-- seven bytes shifted by one lose nothing
shifted_whole : (s : List ℕ) (k n x : ℕ) → 1 ≤ n → n ≤ 8 → x ≡ bits_at s (8 * k) (8 * (n - 1)) → (x * 2 ^ 8) % 2 ^ 64 ≡ x * 2 ^ 8
shifted_whole s k n x h l e = shl_exact (8 * (n - 1)) 8 64 (subst (λ (m : ℕ). m < 2 ^ (8 * (n - 1))) (sym e) (bits_lt s (8 * k) (8 * (n - 1)))) (omega arith)

-- and a byte more does not wrap
pub ending_small : (s : List ℕ) (k n x b : ℕ) → 1 ≤ n → x ≡ bits_at s (8 * k) (8 * (n - 1)) → b < 256 → (x * 2 ^ 8) % 2 ^ 64 + b < 2 ^ 64
ending_small s k n x b h e l = omega arith

module _ (s : List ℕ) (small : Bytes s) where
  -- one byte more
  pub byte_more : (k n : ℕ) → bits_at s (8 * k) (8 * suc n) ≡ bits_at s (8 * k) (8 * n) * 2 ^ 8 + byte_at s (k + n)
  byte_more k n =
      ap (λ (w : ℕ). bits_at s (8 * k) w) wider
      ∙ bits_append s (8 * k) (8 * n) 8
      ∙ ap (λ (b : ℕ). bits_at s (8 * k) (8 * n) * 2 ^ 8 + b) (ap (λ (i : ℕ). bits_at s i 8) place ∙ byte_of_bits s (k + n) (small (k + n)))
    where
      wider : 8 * suc n ≡ 8 * n + 8
      wider = omega arith

      place : 8 * k + 8 * n ≡ 8 * (k + n)
      place = omega arith

  no_byte : (k : ℕ) → bits_at s (8 * k) (8 * 0) ≡ 0
  unfolding bits_at spelled
  no_byte k = omega arith

  -- four bytes, as the code sums them
  pub four_bytes : (k : ℕ) → bits_at s (8 * k) 32 ≡ byte_at s k * 2 ^ 24 + byte_at s (k + 1) * 2 ^ 16 + byte_at s (k + 2) * 2 ^ 8 + byte_at s (k + 3)
  four_bytes k = omega (arith, no_byte k, byte_more k 0, byte_more k 1, byte_more k 2, byte_more k 3, ap (λ (i : ℕ). byte_at s i) here)
    where
      here : k + 0 ≡ k
      here = omega arith

  -- a field of fewer than eight bytes and one byte more, as the code joins them
  pub ending_more : (k n x b : ℕ) → 1 ≤ n → n ≤ 8 → x ≡ bits_at s (8 * k) (8 * (n - 1)) → b ≡ byte_at s (k + n - 1)
      → (x * 2 ^ 8) % 2 ^ 64 + b ≡ bits_at s (8 * k) (8 * n)
  ending_more k n x b h l e f =
      ap (λ (m : ℕ). m + b) (shifted_whole s k n x h l e)
      ∙ ap₂ (λ (m i : ℕ). m * 2 ^ 8 + i) e (f ∙ ap (λ (i : ℕ). byte_at s i) place)
      ∙ sym (byte_more k (n - 1))
      ∙ ap (λ (m : ℕ). bits_at s (8 * k) (8 * m)) whole
    where
      place : k + n - 1 ≡ k + (n - 1)
      place = omega arith

      whole : suc (n - 1) ≡ n
      whole = omega arith

-- eight bytes are two fours
pub two_halves : (s : List ℕ) (k : ℕ) → bits_at s (8 * k) 64 ≡ bits_at s (8 * k) 32 * 2 ^ 32 + bits_at s (8 * (k + 4)) 32
two_halves s k = bits_append s (8 * k) 32 32 ∙ ap (λ (i : ℕ). bits_at s (8 * k) 32 * 2 ^ 32 + bits_at s i 32) place
  where
    place : 8 * k + 32 ≡ 8 * (k + 4)
    place = omega arith

-- ---- shifts

-- a bit that was shifted by p, out of 64
pub shifted_bit : (y p m : ℕ) → p ≤ m → m < 64 → (y * 2 ^ p) % 2 ^ 64 / 2 ^ m % 2 ≡ y / 2 ^ (m - p) % 2
shifted_bit y p m h l =
    same_low ((y * 2 ^ p) % 2 ^ 64) (y * 2 ^ p) m 64 l (mod-mod (y * 2 ^ p) (2 ^ 64))
    ∙ ap (λ (n : ℕ). y * 2 ^ p / 2 ^ n % 2) whole
    ∙ ap (λ (n : ℕ). n % 2) (sym (shr-shr (y * 2 ^ p) p (m - p)) ∙ ap (λ (n : ℕ). n / 2 ^ (m - p)) (shl-shr y p))
  where
    whole : m ≡ p + (m - p)
    whole = omega arith

-- what comes in behind is 0
pub shifted_in : (y p m : ℕ) → m < p → y * 2 ^ p / 2 ^ m % 2 ≡ 0
shifted_in y p m h =
    ap (λ (n : ℕ). n / 2 ^ m % 2) (ap (λ (n : ℕ). y * 2 ^ n) whole ∙ ap (λ (n : ℕ). y * n) (pow-add 2 (p - m) m) ∙ sym (mul_assoc y (2 ^ (p - m)) (2 ^ m)))
    ∙ ap (λ (n : ℕ). n % 2) (shl-shr (y * 2 ^ (p - m)) m)
    ∙ ap (λ (n : ℕ). y * 2 ^ n % 2) some
    ∙ ap (λ (n : ℕ). n % 2) (ap (λ (n : ℕ). y * n) (pow-suc 2 (p - m - 1)) ∙ sym (mul_assoc y (2 ^ (p - m - 1)) 2))
    ∙ even (y * 2 ^ (p - m - 1))
  where
    whole : p ≡ p - m + m
    whole = omega arith

    some : p - m ≡ suc (p - m - 1)
    some = omega arith

    even : (n : ℕ) → n * 2 % 2 ≡ 0
    even n = omega arith

-- each bit of 2 ^ 64 - 1 is 1
one_bit : (m : ℕ) → m < 64 → 18446744073709551615 / 2 ^ m % 2 ≡ 1
one_bit m h =
    ap (λ (n : ℕ). n / 2 ^ m % 2) whole
    ∙ ap (λ (n : ℕ). n % 2) (high (2 ^ (64 - m) - 1) m (ones_lt m))
    ∙ odd
  where
    together : 64 - m + m ≡ 64
    together = omega arith

    wide : 2 ^ (64 - m) * 2 ^ m ≡ 18446744073709551616
    wide = sym (pow-add 2 (64 - m) m) ∙ ap (λ (n : ℕ). 2 ^ n) together

    less : (a b : ℕ) → 1 ≤ a → (a - 1) * b + b ≡ a * b
    less (suc a) b l = ap (λ (n : ℕ). n * b + b) one_down ∙ sym (suc-mul a b)
      where
        one_down : suc a - 1 ≡ a
        one_down = omega arith
    less zero b l = absurd (omega arith)

    whole : 18446744073709551615 ≡ (2 ^ (64 - m) - 1) * 2 ^ m + (2 ^ m - 1)
    whole = omega (arith, wide, less (2 ^ (64 - m)) (2 ^ m) (pow_pos (64 - m)), pow_pos m)

    up : 64 - m ≡ suc (63 - m)
    up = omega arith

    odd : (2 ^ (64 - m) - 1) % 2 ≡ 1
    odd = omega (arith, ap (λ (n : ℕ). 2 ^ n) up, pow-suc 2 (63 - m), pow_pos (63 - m))

module _ (s : List ℕ) where
  -- the eight bytes from k on, of which the last d lie past the end, are the last eight shifted
  pub past_shifted : (k d : ℕ) → 8 ≤ length s → k + 8 ≡ length s + d → d ≤ 8
      → (bits_at s (8 * (length s - 8)) 64 * 2 ^ (8 * d)) % 2 ^ 64 ≡ bits_at s (8 * k) 64
  past_shifted k d long there few = sym (bits_of_is s (8 * k) 64 (last * 2 ^ (8 * d)) each)
    where
      last : ℕ
      last = bits_at s (8 * (length s - 8)) 64

      each : (j : ℕ) → j < 64 → bit_at s (8 * k + j) ≡ last * 2 ^ (8 * d) / 2 ^ (64 - suc j) % 2
      each j l = ⊎_elim inside past (lt_or_ge (8 * d + j) 64)
        where
          place : 8 * (length s - 8) + (8 * d + j) ≡ 8 * k + j
          place = omega arith

          inside : 8 * d + j < 64 → bit_at s (8 * k + j) ≡ last * 2 ^ (8 * d) / 2 ^ (64 - suc j) % 2
          inside h =
              ap (λ (i : ℕ). bit_at s i) (sym place)
              ∙ sym (bit_of_bits s (8 * (length s - 8)) 64 (8 * d + j) h)
              ∙ ap (λ (n : ℕ). last / 2 ^ n % 2) lower
              ∙ sym (shifted_bit last (8 * d) (64 - suc j) (omega arith) (omega arith))
              ∙ same_low ((last * 2 ^ (8 * d)) % 2 ^ 64) (last * 2 ^ (8 * d)) (64 - suc j) 64 (omega arith) (mod-mod (last * 2 ^ (8 * d)) (2 ^ 64))
            where
              lower : 64 - suc (8 * d + j) ≡ 64 - suc j - 8 * d
              lower = omega arith

          past : 64 ≤ 8 * d + j → bit_at s (8 * k + j) ≡ last * 2 ^ (8 * d) / 2 ^ (64 - suc j) % 2
          past h = bit_past s (8 * k + j) (omega arith) ∙ sym (shifted_in last (8 * d) (64 - suc j) (omega arith))

  -- past the end all bits are 0
  pub bits_past : (at w : ℕ) → 8 * length s ≤ at → bits_at s at w ≡ 0
  bits_past at w h = bits_zero s at w (λ j l. bit_past s (at + j) (omega arith))

  -- the eight bytes in which a bit lies, shifted so far that it comes first
  pub viewed : (at : ℕ) → Views s at ((bits_at s (8 * (at / 8)) 64 * 2 ^ (at % 8)) % 2 ^ 64)
  viewed at = record { field = here }
    where
      y : ℕ
      y = bits_at s (8 * (at / 8)) 64

      r : ℕ
      r = (y * 2 ^ (at % 8)) % 2 ^ 64

      here : (o w : ℕ) → o + w ≤ 56 → r / 2 ^ (64 - o - w) % 2 ^ w ≡ bits_at s (at + o) w
      here o w h = sym (bits_of_is s (at + o) w (r / 2 ^ (64 - o - w)) each)
        where
          each : (j : ℕ) → j < w → bit_at s (at + o + j) ≡ r / 2 ^ (64 - o - w) / 2 ^ (w - suc j) % 2
          each j l =
              ap (λ (i : ℕ). bit_at s i) place
              ∙ sym (bit_of_bits s (8 * (at / 8)) 64 (at % 8 + (o + j)) (omega arith))
              ∙ ap (λ (n : ℕ). y / 2 ^ n % 2) lower
              ∙ sym (shifted_bit y (at % 8) (64 - o - w + (w - suc j)) (omega arith) (omega arith))
              ∙ ap (λ (n : ℕ). n % 2) (sym (shr-shr r (64 - o - w) (w - suc j)))
            where
              place : at + o + j ≡ 8 * (at / 8) + (at % 8 + (o + j))
              place = omega arith

              lower : 64 - suc (at % 8 + (o + j)) ≡ 64 - o - w + (w - suc j) - at % 8
              lower = omega arith

  -- where all are ones, nothing need be shifted
  pub ones_viewed : (at : ℕ) → 18446744073709551615 ≡ bits_at s (8 * (at / 8)) 64 → Views s at 18446744073709551615
  ones_viewed at e = record { field = here }
    where
      here : (o w : ℕ) → o + w ≤ 56 → 18446744073709551615 / 2 ^ (64 - o - w) % 2 ^ w ≡ bits_at s (at + o) w
      here o w h = sym (bits_of_is s (at + o) w (18446744073709551615 / 2 ^ (64 - o - w)) each)
        where
          each : (j : ℕ) → j < w → bit_at s (at + o + j) ≡ 18446744073709551615 / 2 ^ (64 - o - w) / 2 ^ (w - suc j) % 2
          each j l =
              ap (λ (i : ℕ). bit_at s i) place
              ∙ sym (bit_of_bits s (8 * (at / 8)) 64 (at % 8 + (o + j)) (omega arith))
              ∙ ap (λ (n : ℕ). n / 2 ^ (64 - suc (at % 8 + (o + j))) % 2) (sym e)
              ∙ one_bit (64 - suc (at % 8 + (o + j))) (omega arith)
              ∙ sym (one_bit (64 - o - w + (w - suc j)) (omega arith))
              ∙ ap (λ (n : ℕ). n % 2) (sym (shr-shr 18446744073709551615 (64 - o - w) (w - suc j)))
            where
              place : at + o + j ≡ 8 * (at / 8) + (at % 8 + (o + j))
              place = omega arith

-- Bits in lists of bytes: in a list with one byte more, in two lists joined, past the end; bytes are equal where their bits are.
use mathlib.Core.Path.{◌≡◌, refl, sym, ap, ◌∙◌}
use mathlib.Core.List.{List, [], ◌∷◌, ◌++◌}
use Prim.Native.Nat.{ℕ, suc, ◌+◌, ◌-◌, ◌*◌, ◌/◌, ◌%◌, ◌^◌, ◌≤◌, ◌<◌}
use native.Mathlib.Nat.{mod-eq_of_lt, zero-mod}
use native.Mathlib.Omega.{arith}
use lib.ListN.{length, drop, get_or-append, get_or-eq_default}
use lib.Seq.{get_or-append-add, get_or-drop, ext_get_or}
use Rattle.bits.specs.Bits.{byte_at, Bytes, bit_at, bits_at}
use Rattle.bits.proofs.Numbers.{spelled_of, spelled_lt, bit_spelled, zero_bit}

pub bit_lt : (s : List ℕ) (i : ℕ) → bit_at s i < 2
unfolding bit_at
bit_lt s i = omega arith

-- a field of w bits is below 2 ^ w
pub bits_lt : (s : List ℕ) (at w : ℕ) → bits_at s at w < 2 ^ w
unfolding bits_at
bits_lt s at w = spelled_lt (λ j. bit_at s (at + j)) (λ j. bit_lt s (at + j)) w

-- each bit of a field
pub bit_of_bits : (s : List ℕ) (at w j : ℕ) → j < w → bits_at s at w / 2 ^ (w - suc j) % 2 ≡ bit_at s (at + j)
unfolding bits_at
bit_of_bits s at w j h = bit_spelled (λ j. bit_at s (at + j)) (λ j. bit_lt s (at + j)) w j h

-- the field that given bits make
pub bits_of_is : (s : List ℕ) (at w v : ℕ) → ((j : ℕ) → j < w → bit_at s (at + j) ≡ v / 2 ^ (w - suc j) % 2) → bits_at s at w ≡ v % 2 ^ w
unfolding bits_at
bits_of_is s at w v h = spelled_of (λ j. bit_at s (at + j)) w v h

-- a field is 0 exactly if all its bits are
pub bits_zero : (s : List ℕ) (at w : ℕ) → ((j : ℕ) → j < w → bit_at s (at + j) ≡ 0) → bits_at s at w ≡ 0
bits_zero s at w h = bits_of_is s at w 0 (λ j l. h j l ∙ sym (zero_bit (w - suc j))) ∙ zero-mod (2 ^ w)

pub zero_bits : (s : List ℕ) (at w : ℕ) → bits_at s at w ≡ 0 → (j : ℕ) → j < w → bit_at s (at + j) ≡ 0
zero_bits s at w e j h = sym (bit_of_bits s at w j h) ∙ ap (λ (n : ℕ). n / 2 ^ (w - suc j) % 2) e ∙ zero_bit (w - suc j)

-- the bit depends on its byte alone
pub bit_by_byte : (s t : List ℕ) (i j : ℕ) → byte_at s (i / 8) ≡ byte_at t (j / 8) → i % 8 ≡ j % 8 → bit_at s i ≡ bit_at t j
unfolding bit_at
bit_by_byte s t i j e r = cc

no_bytes : (i : ℕ) → bit_at [] i ≡ 0
unfolding bit_at
no_bytes i = zero_bit _

pub bit_past : (s : List ℕ) (i : ℕ) → 8 * length s ≤ i → bit_at s i ≡ 0
bit_past s i h = bit_by_byte s [] i i (get_or-eq_default s 0 (omega arith)) refl ∙ no_bytes i

pub bit_first : (b : ℕ) (s : List ℕ) (i : ℕ) → i < 8 → bit_at (b ∷ s) i ≡ b / 2 ^ (8 - suc i) % 2
unfolding bit_at
bit_first b s i h = ap (λ (n : ℕ). byte_at (b ∷ s) n / 2 ^ (7 - i % 8) % 2) nought ∙ ap (λ (n : ℕ). b / 2 ^ n % 2) exponent
  where
    nought : i / 8 ≡ 0
    nought = omega arith

    exponent : 7 - i % 8 ≡ 8 - suc i
    exponent = omega arith

pub bit_next : (b : ℕ) (s : List ℕ) (i : ℕ) → 8 ≤ i → bit_at (b ∷ s) i ≡ bit_at s (i - 8)
bit_next b s i h = bit_by_byte (b ∷ s) s i (i - 8) (ap (λ (n : ℕ). byte_at (b ∷ s) n) one_down) (omega arith)
  where
    one_down : i / 8 ≡ suc ((i - 8) / 8)
    one_down = omega arith

pub bit_append : (s t : List ℕ) (i : ℕ) → i < 8 * length s → bit_at (s ++ t) i ≡ bit_at s i
bit_append s t i h = bit_by_byte (s ++ t) s i i (get_or-append s t 0 (i / 8) (omega arith)) refl

pub bit_append_add : (s t : List ℕ) (i : ℕ) → 8 * length s ≤ i → bit_at (s ++ t) i ≡ bit_at t (i - 8 * length s)
bit_append_add s t i h =
    bit_by_byte (s ++ t) t i (i - 8 * length s)
    (ap (λ (n : ℕ). byte_at (s ++ t) n) place ∙ get_or-append-add s t ((i - 8 * length s) / 8) 0)
    (omega arith)
  where
    place : i / 8 ≡ length s + (i - 8 * length s) / 8
    place = omega arith

pub bit_drop : (n : ℕ) (s : List ℕ) (i : ℕ) → bit_at (drop n s) i ≡ bit_at s (8 * n + i)
bit_drop n s i = bit_by_byte (drop n s) s i (8 * n + i) (get_or-drop n s (i / 8) 0 ∙ ap (λ (k : ℕ). byte_at s k) place) (omega arith)
  where
    place : n + i / 8 ≡ (8 * n + i) / 8
    place = omega arith

-- a byte is the number that its bits spell
pub byte_of_bits : (s : List ℕ) (k : ℕ) → byte_at s k < 256 → bits_at s (8 * k) 8 ≡ byte_at s k
unfolding bit_at
byte_of_bits s k h = bits_of_is s (8 * k) 8 (byte_at s k) (λ j l. each j l) ∙ mod-eq_of_lt h
  where
    each : (j : ℕ) → j < 8 → bit_at s (8 * k + j) ≡ byte_at s k / 2 ^ (8 - suc j) % 2
    each j l = ap (λ (n : ℕ). byte_at s n / 2 ^ (7 - (8 * k + j) % 8) % 2) place ∙ ap (λ (n : ℕ). byte_at s k / 2 ^ n % 2) exponent
      where
        place : (8 * k + j) / 8 ≡ k
        place = omega arith

        exponent : 7 - (8 * k + j) % 8 ≡ 8 - suc j
        exponent = omega arith

-- bytes are equal where all their bits are
pub same_bits : (s t : List ℕ) → length s ≡ length t → Bytes s → Bytes t
    → ((i : ℕ) → i < 8 * length s → bit_at s i ≡ bit_at t i) → s ≡ t
same_bits s t long small small' same = ext_get_or 0 s t long each
  where
    each : (k : ℕ) → k < length s → byte_at s k ≡ byte_at t k
    each k h =
        sym (byte_of_bits s k (small k))
        ∙ bits_of_is s (8 * k) 8 (bits_at t (8 * k) 8) (λ j l. same (8 * k + j) (omega arith) ∙ sym (bit_of_bits t (8 * k) 8 j l))
        ∙ mod-eq_of_lt (bits_lt t (8 * k) 8)
        ∙ byte_of_bits t k (small' k)

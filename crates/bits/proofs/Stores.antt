-- What the code stores, three bytes with the field woven in, is the field put.
use mathlib.Core.Path.{◌≡◌, refl, sym, ap, ◌∙◌}
use mathlib.Core.List.{List, [], ◌∷◌}
use mathlib.Core.Logic.{⊎_elim}
use Prim.Native.Nat.{ℕ, zero, suc, ◌+◌, ◌-◌, ◌*◌, ◌/◌, ◌%◌, ◌^◌, ◌≤◌, ◌<◌}
use native.Mathlib.Omega.{arith}
use lib.ListN.{length, get_or, set, length-set}
use lib.Seq.{get_or-set_same, get_or-set_other}
use Rattle.bits.specs.Bits.{byte_at, bit_at, fits, Bytes}
use Rattle.bits.specs.Packed.{bytes_for}
use Rattle.bits.specs.Put.{Puts, put_bits, put_field}
use Rattle.bits.specs.Window.{window_at, with_window, woven}
use Rattle.bits.proofs.Numbers.{lt_or_ge}
use Rattle.bits.proofs.Bytes.{bit_by_byte, bit_past}
use mathlib.Core.Bool.{Bool, true, cond}
use Rattle.bits.proofs.Fitting.{fits_both}
use Rattle.bits.proofs.Puts.{put_puts, puts_only}
use Rattle.bits.proofs.Windows.{bit_in, window_bit}
use Rattle.bits.proofs.Weaving.{woven_before, woven_there, woven_zeros, woven_after}

small_set : (s : List ℕ) (i b : ℕ) → Bytes s → b < 256 → Bytes (set s i b)
small_set [] i b h l k = h k
small_set (x ∷ s) zero b h l zero = l
small_set (x ∷ s) zero b h l (suc k) = h (suc k)
small_set (x ∷ s) (suc i) b h l zero = h zero
small_set (x ∷ s) (suc i) b h l (suc k) = small_set s i b (λ j. h (suc j)) l k

module _ (s : List ℕ) (k y : ℕ) where
  abbrev one : List ℕ
  one = set s k (y / 65536 % 256)

  abbrev two : List ℕ
  two = set one (k + 1) (y / 256 % 256)

  length_two : length two ≡ length s
  length_two = length-set one (k + 1) (y / 256 % 256) ∙ length-set s k (y / 65536 % 256)

  length_with : length (with_window s k y) ≡ length s
  unfolding with_window
  length_with = length-set two (k + 2) (y % 256) ∙ length_two

  small_with : Bytes s → Bytes (with_window s k y)
  unfolding with_window
  small_with h = small_set two (k + 2) (y % 256) (small_set one (k + 1) (y / 256 % 256) (small_set s k (y / 65536 % 256) h (omega arith)) (omega arith)) (omega arith)

  with_byte : (q : ℕ) → q < 3 → k + q < length s → byte_at (with_window s k y) (k + q) ≡ y / 2 ^ (8 * (2 - q)) % 2 ^ 8
  unfolding with_window
  with_byte zero h l =
      get_or-set_other two (k + 2) (k + 0) (y % 256) 0 (λ e. omega arith)
      ∙ get_or-set_other one (k + 1) (k + 0) (y / 256 % 256) 0 (λ e. omega arith)
      ∙ ap (λ (i : ℕ). get_or one i 0) zero_right
      ∙ get_or-set_same s k (y / 65536 % 256) 0 (omega arith)
    where
      zero_right : k + 0 ≡ k
      zero_right = omega arith
  with_byte (suc zero) h l =
      get_or-set_other two (k + 2) (k + 1) (y % 256) 0 (λ e. omega arith)
      ∙ get_or-set_same one (k + 1) (y / 256 % 256) 0 (omega (arith, length-set s k (y / 65536 % 256)))
  with_byte (suc (suc zero)) h l = get_or-set_same two (k + 2) (y % 256) 0 (omega (arith, length_two)) ∙ omega arith
  with_byte (suc (suc (suc q))) h l = absurd (omega arith)

  with_other : (i : ℕ) → (i ≡ k → ⊥) → (i ≡ k + 1 → ⊥) → (i ≡ k + 2 → ⊥) → byte_at (with_window s k y) i ≡ byte_at s i
  unfolding with_window
  with_other i a b c = get_or-set_other two (k + 2) i (y % 256) 0 c ∙ get_or-set_other one (k + 1) i (y / 256 % 256) 0 b ∙ get_or-set_other s k i (y / 65536 % 256) 0 a

module _ (s : List ℕ) (small : Bytes s) (at w v : ℕ) (narrow : w ≤ 16) (room : at + w ≤ 8 * length s) where
  abbrev k : ℕ
  k = at / 8

  abbrev p : ℕ
  p = at % 8

  abbrev x : ℕ
  x = window_at s k

  abbrev y : ℕ
  y = woven x p w v

  abbrev t : List ℕ
  t = with_window s k y

  inner : (i : ℕ) → 8 * k ≤ i → i < 8 * k + 24 → i < 8 * length s → bit_at t i ≡ y / 2 ^ (23 - (i - 8 * k)) % 2
  inner i a b l =
      ap (λ (n : ℕ). bit_at t n) place
      ∙ bit_in t k y (i - 8 * k) (omega arith) (with_byte s k y ((i - 8 * k) / 8) (omega arith) (omega arith))
    where
      place : i ≡ 8 * k + (i - 8 * k)
      place = omega arith

  from : (i : ℕ) → 8 * k ≤ i → i < 8 * k + 24 → x / 2 ^ (23 - (i - 8 * k)) % 2 ≡ bit_at s i
  from i a b = sym (window_bit s small k (i - 8 * k) (omega arith)) ∙ ap (λ (n : ℕ). bit_at s n) (omega arith)

  outer : (i : ℕ) → (i / 8 ≡ k → ⊥) → (i / 8 ≡ k + 1 → ⊥) → (i / 8 ≡ k + 2 → ⊥) → bit_at t i ≡ bit_at s i
  outer i a b c = bit_by_byte t s i i (with_other s k y (i / 8) a b c) refl

  before : (i : ℕ) → i < at → bit_at t i ≡ bit_at s i
  before i h =
      ⊎_elim
      (λ l. outer i (λ e. omega arith) (λ e. omega arith) (λ e. omega arith))
      (λ l. inner i l (omega arith) (omega arith) ∙ woven_before x p w v (omega arith) narrow (i - 8 * k) (omega arith) ∙ from i l (omega arith))
      (lt_or_ge i (8 * k))

  there : (j : ℕ) → j < w → bit_at t (at + j) ≡ v / 2 ^ (w - suc j) % 2
  there j h =
      inner (at + j) (omega arith) (omega arith) (omega arith)
      ∙ ap (λ (n : ℕ). y / 2 ^ (23 - n) % 2) place
      ∙ woven_there x p w v (omega arith) narrow j h
    where
      place : at + j - 8 * k ≡ p + j
      place = omega arith

  zeros : (i : ℕ) → at + w ≤ i → i < 8 * bytes_for (at + w) → bit_at t i ≡ 0
  zeros i h l = inner i (omega arith) (omega arith) (omega arith) ∙ woven_zeros x p w v (omega arith) narrow (i - 8 * k) (omega arith) (omega arith)

  after : (i : ℕ) → 8 * bytes_for (at + w) ≤ i → bit_at t i ≡ bit_at s i
  after i h =
      ⊎_elim
      (λ l. ⊎_elim
      (λ m. inner i (omega arith) m l ∙ woven_after x p w v (omega arith) narrow (i - 8 * k) (omega arith) (omega arith) ∙ from i (omega arith) m)
      (λ m. outer i (λ e. omega arith) (λ e. omega arith) (λ e. omega arith))
      (lt_or_ge i (8 * k + 24)))
      (λ l. bit_past t i (omega (arith, length_with s k y)) ∙ sym (bit_past s i l))
      (lt_or_ge i (8 * length s))

  stored_puts : Puts s at w v (with_window s (at / 8) (woven (window_at s (at / 8)) (at % 8) w v))
  stored_puts = record { long = length_with s k y; small = small_with s k y small; before = before; there = there; zeros = zeros; after = after }

pub stored_is : (s : List ℕ) (w v at : ℕ) → Bytes s → fits s w at ≡ true
    → with_window s (at / 8) (woven (window_at s (at / 8)) (at % 8) w v) ≡ put_field s w v at
unfolding put_field
stored_is s w v at small e =
    let f = fits_both s w at e in
    puts_only s at w v (with_window s (at / 8) (woven (window_at s (at / 8)) (at % 8) w v)) (put_bits s at w v)
    (stored_puts s small at w v f.0 (omega arith))
    (put_puts s at w v (omega arith) small)
    ∙ ap (λ (b : Bool). cond b (put_bits s at w v) s) (sym e)

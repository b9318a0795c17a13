-- A field that was put: what each bit is then, that no other bytes are so, what no put changes, and that it is read back.
use mathlib.Core.Path.{◌≡◌, sym, ap, ◌∙◌}
use mathlib.Core.List.{List, [], ◌∷◌, ◌++◌}
use mathlib.Core.Logic.{⊎_elim}
use Prim.Native.Nat.{ℕ, zero, suc, ◌+◌, ◌-◌, ◌*◌, ◌≤◌, ◌<◌}
use native.Mathlib.Omega.{arith}
use lib.ListN.{length, get_or, take, drop, length-append, length-drop, get_or-append, get_or-eq_default}
use lib.Seq.{get_or-append-add, get_or-take, get_or-drop, length-take-le}
use Rattle.bits.specs.Bits.{Bytes, bit_at}
use Rattle.bits.specs.Packed.{bits_of, bytes_for, bytes_of}
use Rattle.bits.specs.Put.{bits_in, put_bits, Puts}
use Rattle.bits.proofs.Numbers.{lt_or_ge}
use Rattle.bits.proofs.Bytes.{bit_append, bit_append_add, bit_drop, bit_lt, same_bits}
use Rattle.bits.proofs.Groups.{Binary, binary_append, binary_take, binary_bits_of, length_bits_of, at_bits_of, at_bits_in, length_bits_in, length_bytes_of, bytes_of_bytes, bytes_of_bit}

-- ---- what each bit is

-- the bytes of two lists joined
small_append : (a b : List ℕ) → Bytes a → Bytes b → Bytes (a ++ b)
small_append [] b ha hb k = hb k
small_append (x ∷ a) b ha hb zero = ha zero
small_append (x ∷ a) b ha hb (suc k) = small_append a b (λ j. ha (suc j)) hb k

module _ (s : List ℕ) (at w v : ℕ) (room : at + w ≤ 8 * length s) where
  abbrev kept : List ℕ
  kept = take at (bits_in s)

  abbrev bits : List ℕ
  bits = kept ++ bits_of w v

  binary : Binary bits
  binary = binary_append kept (bits_of w v) (binary_take at (bits_in s) (λ i. omega (arith, at_bits_in s i, bit_lt s i))) (binary_bits_of w v)

  length_kept : length kept ≡ at
  length_kept = length-take-le at (bits_in s) (omega (arith, length_bits_in s))

  length_bits : length bits ≡ at + w
  length_bits = omega (arith, length-append kept (bits_of w v), length_kept, length_bits_of w v)

  length_front : length (bytes_of bits) ≡ bytes_for (at + w)
  length_front = length_bytes_of bits ∙ ap bytes_for length_bits

  front : (i : ℕ) → i < 8 * bytes_for (at + w) → bit_at (put_bits s at w v) i ≡ get_or bits i 0
  unfolding put_bits
  front i h = bit_append (bytes_of bits) (drop (bytes_for (at + w)) s) i (omega (arith, length_front)) ∙ bytes_of_bit bits binary i

  length_put_bits : length (put_bits s at w v) ≡ length s
  unfolding put_bits
  length_put_bits = omega (arith, length-append (bytes_of bits) (drop (bytes_for (at + w)) s), length_front, length-drop (bytes_for (at + w)) s)

  pub put_puts : Bytes s → Puts s at w v (put_bits s at w v)
  unfolding put_bits
  put_puts small =
      record {
        long = length_put_bits;
        small = small_append (bytes_of bits) (drop (bytes_for (at + w)) s) (bytes_of_bytes bits binary) (λ k. rw (get_or-drop (bytes_for (at + w)) s k 0) (small (bytes_for (at + w) + k)));
        before = λ i h. front i (omega arith) ∙ get_or-append kept (bits_of w v) 0 i (omega (arith, length_kept)) ∙ get_or-take at (bits_in s) i 0 h ∙ at_bits_in s i;
        there = λ j h. front (at + j) (omega arith) ∙ ap (λ (n : ℕ). get_or bits (n + j) 0) (sym length_kept) ∙ get_or-append-add kept (bits_of w v) j 0 ∙ at_bits_of w v j h;
        zeros = λ i h l. front i l ∙ get_or-eq_default bits 0 (omega (arith, length_bits));
        after = λ i h. bit_append_add (bytes_of bits) (drop (bytes_for (at + w)) s) i (omega (arith, length_front)) ∙ bit_drop (bytes_for (at + w)) s (i - 8 * length (bytes_of bits)) ∙ ap (λ (n : ℕ). bit_at s n) (omega (arith, length_front));
      }

-- no other bytes are so
pub puts_only : (s : List ℕ) (at w v : ℕ) (t u : List ℕ) → Puts s at w v t → Puts s at w v u → t ≡ u
puts_only s at w v t u p q = same_bits t u (p.long ∙ sym q.long) p.small q.small (λ i h. each i)
  where
    place : (i : ℕ) → at ≤ i → at + (i - at) ≡ i
    place i h = omega arith

    there : (i : ℕ) → at ≤ i → i < at + w → bit_at t i ≡ bit_at u i
    there i h l =
        ap (λ (n : ℕ). bit_at t n) (sym (place i h))
        ∙ p.there (i - at) (omega arith)
        ∙ sym (q.there (i - at) (omega arith))
        ∙ ap (λ (n : ℕ). bit_at u n) (place i h)

    each : (i : ℕ) → bit_at t i ≡ bit_at u i
    each i =
        ⊎_elim
        (λ h. p.before i h ∙ sym (q.before i h))
        (λ h. ⊎_elim (λ l. there i h l) (λ l. ⊎_elim (λ m. p.zeros i l m ∙ sym (q.zeros i l m)) (λ m. p.after i m ∙ sym (q.after i m)) (lt_or_ge i (8 * bytes_for (at + w)))) (lt_or_ge i (at + w)))
        (lt_or_ge i at)

-- ---- what no put changes

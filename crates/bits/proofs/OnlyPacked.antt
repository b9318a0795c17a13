-- Bytes from which fields read, with zeros after the last, are those fields' packed bytes: no other file holds them.
use mathlib.Core.Path.{◌≡◌, sym, ap, ◌∙◌}
use mathlib.Core.List.{List, [], ◌∷◌, ◌++◌}
use mathlib.Core.Logic.{⊎_elim}
use Prim.Native.Nat.{ℕ, suc, ◌+◌, ◌-◌, ◌*◌, ◌/◌, ◌%◌, ◌^◌, ◌≤◌, ◌<◌}
use native.Mathlib.Omega.{arith}
use lib.ListN.{length, get_or, get_or-append, get_or-eq_default}
use lib.Seq.{get_or-append-add}
use Rattle.bits.specs.Bits.{Bytes, bit_at, bits_at}
use Rattle.bits.specs.Packed.{bits_of, field_bits, width, packed, Reads}
use Rattle.bits.proofs.Numbers.{lt_or_ge}
use Rattle.bits.proofs.Bytes.{zero_bits, bit_of_bits, same_bits}
use Rattle.bits.proofs.PackedFields.{length_packed, packed_bytes, packed_bit}
use Rattle.bits.proofs.Groups.{length_bits_of, at_bits_of, length_field_bits}

-- fields that were read fix all bits that they take
pub reads_bit : (s : List ℕ) (at : ℕ) (fs : List (ℕ × ℕ)) → Reads s at fs → (i : ℕ) → i < width fs → bit_at s (at + i) ≡ get_or (field_bits fs) i 0
unfolding Reads field_bits width
reads_bit s at [] r i h = absurd (omega arith)
reads_bit s at (f ∷ fs) r i h = ⊎_elim (λ l. here l) (λ l. later l (reads_bit s (at + f.0) fs r.1 (i - f.0) (omega arith))) (lt_or_ge i f.0)
  where
    bits : List ℕ
    bits = bits_of f.0 f.1

    here : i < f.0 → bit_at s (at + i) ≡ get_or (bits ++ field_bits fs) i 0
    here l =
        sym (bit_of_bits s at f.0 i l)
        ∙ ap (λ (n : ℕ). n / 2 ^ (f.0 - suc i) % 2) r.0
        ∙ sym (at_bits_of f.0 f.1 i l)
        ∙ sym (get_or-append bits (field_bits fs) 0 i (omega (arith, length_bits_of f.0 f.1)))

    later : f.0 ≤ i → bit_at s (at + f.0 + (i - f.0)) ≡ get_or (field_bits fs) (i - f.0) 0 → bit_at s (at + i) ≡ get_or (bits ++ field_bits fs) i 0
    later l e =
        ap (λ (n : ℕ). bit_at s n) place
        ∙ e
        ∙ sym (get_or-append-add bits (field_bits fs) (i - f.0) 0)
        ∙ ap (λ (n : ℕ). get_or (bits ++ field_bits fs) n 0) back
      where
        place : at + i ≡ at + f.0 + (i - f.0)
        place = omega arith

        back : length bits + (i - f.0) ≡ i
        back = omega (arith, length_bits_of f.0 f.1)

-- bytes from which the fields read, of the right length and with zeros after the last field, are the packed bytes
pub only_packed : (fs : List (ℕ × ℕ)) (s : List ℕ) → Bytes s → length s ≡ (width fs + 7) / 8 → Reads s 0 fs
    → ((i : ℕ) → width fs ≤ i → i < 8 * length s → bit_at s i ≡ 0) → s ≡ packed fs
only_packed fs s small long r zeros = same_bits s (packed fs) (long ∙ sym (length_packed fs)) small (packed_bytes fs) (λ i h. each i h ∙ sym (packed_bit fs i))
  where
    each : (i : ℕ) → i < 8 * length s → bit_at s i ≡ get_or (field_bits fs) i 0
    each i h =
        ⊎_elim
        (λ l. ap (λ (n : ℕ). bit_at s n) (omega arith) ∙ reads_bit s 0 fs r i l)
        (λ l. zeros i l h ∙ sym (get_or-eq_default (field_bits fs) 0 (omega (arith, length_field_bits fs))))
        (lt_or_ge i (width fs))

-- the same, with what follows the last field read as one field
pub only_packed_read : (fs : List (ℕ × ℕ)) (s : List ℕ) → Bytes s → length s ≡ (width fs + 7) / 8 → Reads s 0 fs
    → bits_at s (width fs) (8 * length s - width fs) ≡ 0 → s ≡ packed fs
only_packed_read fs s small long r nought =
    only_packed fs s small long r
    (λ i h l. ap (λ (n : ℕ). bit_at s n) (place i h) ∙ zero_bits s (width fs) (8 * length s - width fs) nought (i - width fs) (omega arith))
  where
    place : (i : ℕ) → width fs ≤ i → i ≡ width fs + (i - width fs)
    place i h = omega arith

-- The packed layout's promises: how long it is, that each field reads back, whatever follows, and that only zero bits come after the last.
use mathlib.Core.Path.{◌≡◌, sym, ap, ◌∙◌}
use mathlib.Core.List.{List, [], ◌∷◌, ◌++◌, append_assoc}
use Prim.Native.Nat.{ℕ, suc, ◌+◌, ◌-◌, ◌*◌, ◌/◌, ◌%◌, ◌^◌, ◌≤◌, ◌<◌}
use native.Mathlib.Nat.{mod-eq_of_lt}
use native.Mathlib.Omega.{arith}
use lib.ListN.{length, get_or, get_or-append, get_or-eq_default}
use lib.Seq.{get_or-append-add}
use Rattle.bits.specs.Bits.{Bytes, bit_at, bits_at}
use Rattle.bits.specs.Packed.{bits_of, field_bits, width, bytes_for, packed, Reads, Sized}
use Rattle.bits.proofs.Bytes.{bits_of_is, bits_zero, bit_append}
use Rattle.bits.proofs.Groups.{length_bits_of, at_bits_of, length_bytes_of, bytes_of_bytes, bytes_of_bit, length_field_bits, binary_field_bits, field_bits_append, width_append}

-- ---- how long the file is, and what its bytes and bits are

pub length_packed : (fs : List (ℕ × ℕ)) → length (packed fs) ≡ (width fs + 7) / 8
unfolding packed
length_packed fs = length_bytes_of (field_bits fs) ∙ ap bytes_for (length_field_bits fs)

pub packed_bytes : (fs : List (ℕ × ℕ)) → Bytes (packed fs)
unfolding packed
packed_bytes fs = bytes_of_bytes (field_bits fs) (binary_field_bits fs)

pub packed_bit : (fs : List (ℕ × ℕ)) (i : ℕ) → bit_at (packed fs) i ≡ get_or (field_bits fs) i 0
unfolding packed
packed_bit fs = bytes_of_bit (field_bits fs) (binary_field_bits fs)

-- after the last field come zero bits
pub padding_zero : (fs : List (ℕ × ℕ)) (rest : List ℕ) (i : ℕ) → width fs ≤ i → i < 8 * length (packed fs) → bit_at (packed fs ++ rest) i ≡ 0
padding_zero fs rest i h l = bit_append (packed fs) rest i l ∙ packed_bit fs i ∙ get_or-eq_default (field_bits fs) 0 (omega (arith, length_field_bits fs))

-- the same, read as one field
pub padding_reads : (fs : List (ℕ × ℕ)) (rest : List ℕ) → bits_at (packed fs ++ rest) (width fs) (8 * length (packed fs) - width fs) ≡ 0
padding_reads fs rest = bits_zero (packed fs ++ rest) (width fs) (8 * length (packed fs) - width fs) (λ j h. padding_zero fs rest (width fs + j) (omega arith) (omega arith))

-- ---- each field reads back

-- the j-th bit of the field f, which stands after the fields `before`
field_bit : (before after : List (ℕ × ℕ)) (f : ℕ × ℕ) (j : ℕ) → j < f.0 → get_or (field_bits (before ++ f ∷ after)) (width before + j) 0 ≡ f.1 / 2 ^ (f.0 - suc j) % 2
unfolding field_bits
field_bit before after f j h =
    ap (λ (l : List ℕ). get_or l (width before + j) 0) (field_bits_append before (f ∷ after))
    ∙ ap (λ (n : ℕ). get_or (field_bits before ++ (bits_of f.0 f.1 ++ field_bits after)) (n + j) 0) (sym (length_field_bits before))
    ∙ get_or-append-add (field_bits before) (bits_of f.0 f.1 ++ field_bits after) j 0
    ∙ get_or-append (bits_of f.0 f.1) (field_bits after) 0 j (omega (arith, length_bits_of f.0 f.1))
    ∙ at_bits_of f.0 f.1 j h

within : (before after : List (ℕ × ℕ)) (f : ℕ × ℕ) (j : ℕ) → j < f.0 → width before + j < 8 * length (packed (before ++ f ∷ after))
unfolding width
within before after f j h = omega (arith, length_packed (before ++ f ∷ after), width_append before (f ∷ after))

-- a field reads back from the packed bytes, whatever follows them
pub reads_back : (before after : List (ℕ × ℕ)) (f : ℕ × ℕ) (rest : List ℕ) → f.1 < 2 ^ f.0
    → bits_at (packed (before ++ f ∷ after) ++ rest) (width before) f.0 ≡ f.1
reads_back before after f rest small =
    bits_of_is (packed fs ++ rest) (width before) f.0 f.1
    (λ j h. bit_append (packed fs) rest (width before + j) (within before after f j h) ∙ packed_bit fs (width before + j) ∙ field_bit before after f j h)
    ∙ mod-eq_of_lt small
  where
    fs : List (ℕ × ℕ)
    fs = before ++ f ∷ after

pub width_one : (fs : List (ℕ × ℕ)) (f : ℕ × ℕ) → width (fs ++ f ∷ []) ≡ width fs + f.0
unfolding width
width_one fs f = omega (arith, width_append fs (f ∷ []))

-- all fields read back, one after the other, from any of them on
pub all_read_back : (before fs : List (ℕ × ℕ)) (rest : List ℕ) → Sized fs → Reads (packed (before ++ fs) ++ rest) (width before) fs
unfolding Reads Sized
all_read_back before [] rest small = tt
all_read_back before (f ∷ fs) rest small = (
  reads_back before fs f rest small.0,
  rw (append_assoc before (f ∷ []) fs, width_one before f) at (all_read_back (before ++ f ∷ []) fs rest small.1),
)

pub packed_reads : (fs : List (ℕ × ℕ)) (rest : List ℕ) → Sized fs → Reads (packed fs ++ rest) 0 fs
unfolding width
packed_reads fs rest small = all_read_back [] fs rest small

-- Lists of bits: their lengths, what stands at a place, and that the bytes made of bits have just these bits, then zeros.
use mathlib.Core.Path.{◌≡◌, refl, sym, ap, ◌∙◌}
use mathlib.Core.List.{List, [], ◌∷◌, ◌++◌, append_assoc}
use mathlib.Core.Logic.{⊎_elim}
use Prim.Native.Nat.{ℕ, zero, suc, ◌+◌, ◌-◌, ◌*◌, ◌/◌, ◌%◌, ◌^◌, ◌≤◌, ◌<◌}
use native.Mathlib.Nat.{not-suc-le-zero, le_of_suc-le-suc}
use native.Mathlib.Omega.{arith}
use lib.ListN.{length, get_or, take, drop, length-append, get_or-append, get_or-eq_default}
use lib.Seq.{get_or-append-add, get_or-drop}
use Rattle.bits.specs.Bits.{Bytes, bit_at, spelled}
use Rattle.bits.specs.Packed.{bits_of, field_bits, width, bytes_for, groups, bytes_of}
use Rattle.bits.specs.Put.{bits_in}
use Rattle.bits.proofs.Numbers.{spelled_lt, bit_spelled, lt_or_ge}
use Rattle.bits.proofs.Bytes.{bit_past, bit_first, bit_next}

-- every element is a bit
abbrev pub Binary : List ℕ → Type 0
Binary bits = (i : ℕ) → get_or bits i 0 < 2

binary_none : Binary []
binary_none i = omega arith

pub binary_append : (a b : List ℕ) → Binary a → Binary b → Binary (a ++ b)
binary_append [] b ha hb i = hb i
binary_append (x ∷ a) b ha hb zero = ha zero
binary_append (x ∷ a) b ha hb (suc i) = binary_append a b (λ j. ha (suc j)) hb i

pub binary_take : (n : ℕ) (a : List ℕ) → Binary a → Binary (take n a)
binary_take zero a h i = omega arith
binary_take (suc n) [] h i = omega arith
binary_take (suc n) (x ∷ a) h zero = h zero
binary_take (suc n) (x ∷ a) h (suc i) = binary_take n a (λ j. h (suc j)) i

binary_drop : (n : ℕ) (a : List ℕ) → Binary a → Binary (drop n a)
binary_drop n a h i = rw (get_or-drop n a i 0) (h (n + i))

-- ---- the bits of one number

pub length_bits_of : (w v : ℕ) → length (bits_of w v) ≡ w
unfolding bits_of
length_bits_of zero v = refl
length_bits_of (suc w) v = ap suc (length_bits_of w v)

pub at_bits_of : (w v j : ℕ) → j < w → get_or (bits_of w v) j 0 ≡ v / 2 ^ (w - suc j) % 2
unfolding bits_of
at_bits_of zero v j h = absurd (not-suc-le-zero h)
at_bits_of (suc w) v zero h = ap (λ (n : ℕ). v / 2 ^ n % 2) (omega arith)
at_bits_of (suc w) v (suc j) h = at_bits_of w v j (le_of_suc-le-suc h) ∙ ap (λ (n : ℕ). v / 2 ^ n % 2) (omega arith)

pub binary_bits_of : (w v : ℕ) → Binary (bits_of w v)
unfolding bits_of
binary_bits_of zero v i = omega arith
binary_bits_of (suc w) v zero = omega arith
binary_bits_of (suc w) v (suc i) = binary_bits_of w v i

-- ---- the bits of bytes

pub at_bits_in : (s : List ℕ) (i : ℕ) → get_or (bits_in s) i 0 ≡ bit_at s i
unfolding bits_in
at_bits_in [] i = sym (bit_past [] i (omega arith))
at_bits_in (b ∷ s) i = ⊎_elim (λ l. first l) (λ l. next l (at_bits_in s (i - 8))) (lt_or_ge i 8)
  where
    first : i < 8 → get_or (bits_of 8 b ++ bits_in s) i 0 ≡ bit_at (b ∷ s) i
    first l =
        get_or-append (bits_of 8 b) (bits_in s) 0 i (omega (arith, length_bits_of 8 b))
        ∙ at_bits_of 8 b i l
        ∙ sym (bit_first b s i l)

    next : 8 ≤ i → get_or (bits_in s) (i - 8) 0 ≡ bit_at s (i - 8) → get_or (bits_of 8 b ++ bits_in s) i 0 ≡ bit_at (b ∷ s) i
    next l e =
        ap (λ (n : ℕ). get_or (bits_of 8 b ++ bits_in s) n 0) place
        ∙ get_or-append-add (bits_of 8 b) (bits_in s) (i - 8) 0
        ∙ e
        ∙ sym (bit_next b s i l)
      where
        place : i ≡ length (bits_of 8 b) + (i - 8)
        place = omega (arith, length_bits_of 8 b)

pub length_bits_in : (s : List ℕ) → length (bits_in s) ≡ 8 * length s
unfolding bits_in
length_bits_in [] = refl
length_bits_in (b ∷ s) = omega (arith, length-append (bits_of 8 b) (bits_in s), length_bits_of 8 b, length_bits_in s)

-- ---- bytes made of bits

pub length_groups : (n : ℕ) (bits : List ℕ) → length (groups n bits) ≡ n
unfolding groups
length_groups zero bits = refl
length_groups (suc n) bits = ap suc (length_groups n (drop 8 bits))

groups_bytes : (n : ℕ) (bits : List ℕ) → Binary bits → Bytes (groups n bits)
unfolding groups
groups_bytes zero bits b k = omega arith
groups_bytes (suc n) bits b zero = spelled_lt (λ j. get_or bits j 0) b 8
groups_bytes (suc n) bits b (suc k) = groups_bytes n (drop 8 bits) (binary_drop 8 bits b) k

groups_bit : (n : ℕ) (bits : List ℕ) → Binary bits → (i : ℕ) → i < 8 * n → bit_at (groups n bits) i ≡ get_or bits i 0
unfolding groups
groups_bit zero bits b i h = absurd (omega arith)
groups_bit (suc n) bits b i h =
    ⊎_elim
    (λ l. bit_first x xs i l ∙ bit_spelled (λ j. get_or bits j 0) b 8 i l)
    (λ l. bit_next x xs i l ∙ groups_bit n (drop 8 bits) (binary_drop 8 bits b) (i - 8) (omega arith) ∙ get_or-drop 8 bits (i - 8) 0 ∙ ap (λ (k : ℕ). get_or bits k 0) (omega arith))
    (lt_or_ge i 8)
  where
    x : ℕ
    x = spelled (λ j. get_or bits j 0) 8

    xs : List ℕ
    xs = groups n (drop 8 bits)

module _ (bits : List ℕ) where
  pub length_bytes_of : length (bytes_of bits) ≡ bytes_for (length bits)
  unfolding bytes_of
  length_bytes_of = length_groups (bytes_for (length bits)) bits

  pub bytes_of_bytes : Binary bits → Bytes (bytes_of bits)
  unfolding bytes_of
  bytes_of_bytes b = groups_bytes (bytes_for (length bits)) bits b

  -- the bytes have these bits, and zeros after them
  pub bytes_of_bit : Binary bits → (i : ℕ) → bit_at (bytes_of bits) i ≡ get_or bits i 0
  unfolding bytes_of
  bytes_of_bit b i =
      ⊎_elim
      (λ l. groups_bit (bytes_for (length bits)) bits b i l)
      (λ l. bit_past (groups (bytes_for (length bits)) bits) i (omega (arith, length_groups (bytes_for (length bits)) bits)) ∙ sym (get_or-eq_default bits 0 (omega arith)))
      (lt_or_ge i (8 * bytes_for (length bits)))

-- ---- the bits of fields

pub length_field_bits : (fs : List (ℕ × ℕ)) → length (field_bits fs) ≡ width fs
unfolding field_bits width
length_field_bits [] = refl
length_field_bits (f ∷ fs) = omega (arith, length-append (bits_of f.0 f.1) (field_bits fs), length_bits_of f.0 f.1, length_field_bits fs)

pub binary_field_bits : (fs : List (ℕ × ℕ)) → Binary (field_bits fs)
unfolding field_bits
binary_field_bits [] = binary_none
binary_field_bits (f ∷ fs) = binary_append (bits_of f.0 f.1) (field_bits fs) (binary_bits_of f.0 f.1) (binary_field_bits fs)

pub field_bits_append : (fs gs : List (ℕ × ℕ)) → field_bits (fs ++ gs) ≡ field_bits fs ++ field_bits gs
unfolding field_bits
field_bits_append [] gs = refl
field_bits_append (f ∷ fs) gs = ap (λ (l : List ℕ). bits_of f.0 f.1 ++ l) (field_bits_append fs gs) ∙ sym (append_assoc (bits_of f.0 f.1) (field_bits fs) (field_bits gs))

pub width_append : (fs gs : List (ℕ × ℕ)) → width (fs ++ gs) ≡ width fs + width gs
unfolding width
width_append [] gs = omega arith
width_append (f ∷ fs) gs = omega (arith, width_append fs gs)

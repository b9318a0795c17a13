-- Fields put one after the other build the packed bytes.
use mathlib.Core.Path.{◌≡◌, sym, ap, ap₂, ◌∙◌}
use mathlib.Core.List.{List, [], ◌∷◌, ◌++◌, append-nil, append_assoc}
use mathlib.Core.Bool.{Bool, true, cond}
use Prim.Native.Nat.{ℕ, ◌+◌, ◌-◌, ◌*◌, ◌≤◌, ◌<◌}
use native.Mathlib.Omega.{arith}
use lib.ListN.{length, get_or, take, drop, length-append, length-drop}
use lib.Seq.{get_or-take, drop-append-add, drop-drop, ext_get_or, length-take-le}
use Rattle.bits.specs.Bits.{fits, room_of}
use Rattle.bits.specs.Packed.{bits_of, field_bits, width, bytes_for, groups, bytes_of, packed}
use Rattle.bits.specs.Put.{bits_in, put_bits, put_field, place_after}
use Rattle.bits.specs.Written.{put_all, place_all, Narrow, written}
use Rattle.bits.proofs.Bytes.{bit_append}
use Rattle.bits.proofs.Groups.{at_bits_in, length_bits_in, length_field_bits, field_bits_append}
use Rattle.bits.proofs.PackedFields.{length_packed, packed_bit, width_one}
use Rattle.bits.proofs.Fitting.{fits_yes}

-- the bits of the fields come back out of their bytes
bits_packed : (fs : List (ℕ × ℕ)) (rest : List ℕ) → take (width fs) (bits_in (packed fs ++ rest)) ≡ field_bits fs
bits_packed fs rest = ext_get_or 0 (take (width fs) (bits_in t)) (field_bits fs) (long ∙ sym (length_field_bits fs)) (λ i h. each i (omega (arith, long)))
  where
    t : List ℕ
    t = packed fs ++ rest

    long : length (take (width fs) (bits_in t)) ≡ width fs
    long = length-take-le (width fs) (bits_in t) (omega (arith, length_bits_in t, length-append (packed fs) rest, length_packed fs))

    each : (i : ℕ) → i < width fs → get_or (take (width fs) (bits_in t)) i 0 ≡ get_or (field_bits fs) i 0
    each i h = get_or-take (width fs) (bits_in t) i 0 h ∙ at_bits_in t i ∙ bit_append (packed fs) rest i (omega (arith, length_packed fs)) ∙ packed_bit fs i

drop_behind : (a out : List ℕ) (m : ℕ) → length a ≤ m → drop m (a ++ drop (length a) out) ≡ drop m out
drop_behind a out m h =
    ap (λ (n : ℕ). drop n (a ++ drop (length a) out)) (sym whole)
    ∙ drop-append-add a (drop (length a) out) (m - length a)
    ∙ drop-drop (m - length a) (length a) out
    ∙ ap (λ (n : ℕ). drop n out) whole
  where
    whole : length a + (m - length a) ≡ m
    whole = omega arith

pub length_written : (fs : List (ℕ × ℕ)) (out : List ℕ) → width fs ≤ 8 * length out → length (written fs out) ≡ length out
unfolding written
length_written fs out h = omega (arith, length-append (packed fs) (drop (length (packed fs)) out), length-drop (length (packed fs)) out, length_packed fs)

module _ (fs : List (ℕ × ℕ)) (f : ℕ × ℕ) (out : List ℕ) (narrow : f.0 ≤ 16) (room : width fs + f.0 ≤ room_of out) where
  next_fits : fits (written fs out) f.0 (width fs) ≡ true
  next_fits = fits_yes (written fs out) f.0 (width fs) narrow (omega (arith, length_written fs out (omega arith)))

  length_next : length (packed (fs ++ f ∷ [])) ≡ bytes_for (width fs + f.0)
  length_next = length_packed (fs ++ f ∷ []) ∙ ap bytes_for (width_one fs f)

  bits_next : field_bits fs ++ bits_of f.0 f.1 ≡ field_bits (fs ++ f ∷ [])
  unfolding field_bits
  bits_next = ap (λ (l : List ℕ). field_bits fs ++ l) (sym (append-nil (bits_of f.0 f.1))) ∙ sym (field_bits_append fs (f ∷ []))

  -- the next field put behind packed fields gives the packed fields with it
  pub put_next : put_field (written fs out) f.0 f.1 (width fs) ≡ written (fs ++ f ∷ []) out
  unfolding put_field put_bits written packed
  put_next =
      ap (λ (b : Bool). cond b (put_bits (written fs out) (width fs) f.0 f.1) (written fs out)) next_fits
      ∙ ap₂ (λ (a b : List ℕ). bytes_of a ++ b)
      (ap (λ (l : List ℕ). l ++ bits_of f.0 f.1) (bits_packed fs (drop (length (packed fs)) out)) ∙ bits_next)
      (drop_behind (packed fs) out (bytes_for (width fs + f.0)) (omega (arith, length_packed fs)) ∙ ap (λ (n : ℕ). drop n out) (sym length_next))

  pub place_next : place_after (written fs out) f.0 (width fs) ≡ width (fs ++ f ∷ [])
  unfolding place_after
  place_next = ap (λ (b : Bool). cond b (width fs + f.0) (width fs)) next_fits ∙ sym (width_one fs f)

-- ---- a run of puts

-- where no field is wider than 16 bits and there is room for all, a run behind packed fields gives the packed fields with those of the run
pub put_all_written : (before fs : List (ℕ × ℕ)) (out : List ℕ) → Narrow fs → width before + width fs ≤ room_of out
    → (put_all (written before out) (width before) fs ≡ written (before ++ fs) out) × (place_all (written before out) (width before) fs ≡ width (before ++ fs))
unfolding put_all place_all Narrow width
put_all_written before [] out narrow room = (ap (λ (l : List (ℕ × ℕ)). written l out) (sym (append-nil before)), ap width (sym (append-nil before)))
put_all_written before (f ∷ fs) out narrow room =
    let one = put_next before f out narrow.0 (omega arith) in
    let place = place_next before f out narrow.0 (omega arith) in
    let all = put_all_written (before ++ f ∷ []) fs out narrow.1 (omega (arith, width_one before f)) in
    let joined = append_assoc before (f ∷ []) fs in (
      ap₂ (λ (s : List ℕ) (n : ℕ). put_all s n fs) one place ∙ all.0 ∙ ap (λ (l : List (ℕ × ℕ)). written l out) joined,
      ap₂ (λ (s : List ℕ) (n : ℕ). place_all s n fs) one place ∙ all.1 ∙ ap width joined,
    )

-- from the first place on a run builds the packed file
pub put_packed : (fs : List (ℕ × ℕ)) (out : List ℕ) → Narrow fs → width fs ≤ room_of out
    → (put_all out 0 fs ≡ packed fs ++ drop (length (packed fs)) out) × (place_all out 0 fs ≡ width fs)
unfolding written packed field_bits bytes_of groups width
put_packed fs out narrow room = put_all_written [] fs out narrow (omega arith)

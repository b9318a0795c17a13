-- The round trips, for every grammar: a file that was read is its fields packed, and their list gives the same tree; and a list packs into such a file.
use mathlib.Core.Path.{◌≡◌, refl, sym, ap, ◌∙◌}
use mathlib.Core.List.{List, [], ◌++◌, append-nil}
use mathlib.Core.Bool.{Bool, true, false}
use Prim.Native.Nat.{ℕ, ◌-◌, ◌*◌, ◌^◌, ◌≤◌, ◌<◌}
use native.Mathlib.Omega.{arith}
use lib.ListN.{length, take, length-map, length-append}
use lib.Seq.{take-length}
use Rattle.bits.specs.Bits.{Bytes, bit_at, bits_at}
use Rattle.bits.specs.Packed.{width, bytes_for, packed}
use Rattle.bits.proofs.PackedFields.{length_packed, padding_zero, packed_reads}
use Rattle.bits.proofs.OnlyPacked.{only_packed, only_packed_read}
use Rattle.fields.specs.declared.Walker.{Walker}
use Rattle.fields.specs.Source.{Source, source, start}
use Rattle.fields.specs.Grammar.{Grammar, outcome, trace}
use Rattle.fields.specs.Grammar.Outcome.{ok}
use Rattle.fields.proofs.Binds.{end_ok}
use Rattle.fields.proofs.Sinks.{values}
use Rattle.fields.proofs.Gives.{reached_in, reads_give, stands_give, take_stands}
use Rattle.fields.proofs.Reading.{Reading, spells_found, trace_reached, trace_sized, trace_spells, trace_reads, trace_listed}

module _ {A : Type 0} (src : Source) (p : Grammar A) (b : Bool) {a : A} {d : Walker} (e : outcome src p (start b) ≡ ok a d) where
  pub end_bit : d.bit ≡ width (trace src p (start b))
  end_bit = ap (λ (c : Walker). c.bit) (end_ok src p (start b) e) ∙ omega arith

  pub end_n : d.n ≡ length (trace src p (start b))
  end_n = ap (λ (c : Walker). c.n) (end_ok src p (start b) e) ∙ omega arith

-- ---- a file that was read

module _ {A : Type 0} (s l : List ℕ) (p : Grammar A) {a : A} {d : Walker} (e : outcome (source s l) p (start false) ≡ ok a d) where
  -- the file is the packed fields: no other file has this list
  pub read_packed : Bytes s → length s ≡ bytes_for d.bit → ((i : ℕ) → d.bit ≤ i → i < 8 * length s → bit_at s i ≡ 0)
      → s ≡ packed (trace (source s l) p (start false))
  read_packed small long zeros =
      let k = end_bit (source s l) p false e in
      only_packed (trace (source s l) p (start false)) s small (long ∙ ap bytes_for k) (trace_reads s l p (start false) refl) (λ i h. zeros i (omega arith))

  -- the same, with what follows the last field read as one field
  pub read_packed_field : Bytes s → length s ≡ bytes_for d.bit → bits_at s d.bit (8 * length s - d.bit) ≡ 0
      → s ≡ packed (trace (source s l) p (start false))
  read_packed_field small long zeros =
      let k = end_bit (source s l) p false e in
      only_packed_read (trace (source s l) p (start false)) s small (long ∙ ap bytes_for k) (trace_reads s l p (start false) refl) (rw k at zeros)

  -- its list, as a source, gives the same tree past the same fields
  pub read_trip : (t : List ℕ) → Reading (source t (values (trace (source s l) p (start false)))) p (start true) a (trace (source s l) p (start false))
  read_trip t =
      spells_found (source t (values fs)) p a (start true) fs (trace_spells s l p (start false) e)
      (stands_give t (values fs) (start true) fs refl (reached_in (start false) fs true (trace_reached s l p (start false))) (trace_sized s l p (start false))
      (take_stands (values fs) 0 fs (ap (λ (k : ℕ). take k (values fs)) (sym (length-map fs (λ (f : ℕ × ℕ). f.1))) ∙ take-length (values fs))))
    where
      fs : List (ℕ × ℕ)
      fs = trace (source s l) p (start false)

-- ---- a list that was written

module _ {A : Type 0} (s l : List ℕ) (p : Grammar A) {a : A} {d : Walker} (e : outcome (source s l) p (start true) ≡ ok a d) where
  -- the fields passed are the first of the list
  pub written_first : take d.n l ≡ values (trace (source s l) p (start true))
  written_first = ap (λ (k : ℕ). take k l) (end_n (source s l) p true e) ∙ trace_listed s l p (start true) refl

  pub written_whole : d.n ≡ length l → values (trace (source s l) p (start true)) ≡ l
  written_whole h = sym written_first ∙ ap (λ (k : ℕ). take k l) h ∙ take-length l

  -- the packed fields, whatever follows them, give the same tree past the same fields
  pub write_trip_before : width (trace (source s l) p (start true)) ≤ 2 ^ 32 → (rest k : List ℕ)
      → Reading (source (packed (trace (source s l) p (start true)) ++ rest) k) p (start false) a (trace (source s l) p (start true))
  write_trip_before near rest k =
      spells_found (source (packed fs ++ rest) k) p a (start false) fs (trace_spells s l p (start true) e)
      (reads_give (packed fs ++ rest) k (start false) fs refl (reached_in (start true) fs false (trace_reached s l p (start true)))
      (packed_reads fs rest (trace_sized s l p (start true))) (omega (arith, length-append (packed fs) rest, length_packed fs)))
    where
      fs : List (ℕ × ℕ)
      fs = trace (source s l) p (start true)

  pub write_trip : width (trace (source s l) p (start true)) ≤ 2 ^ 32 → (k : List ℕ)
      → Reading (source (packed (trace (source s l) p (start true))) k) p (start false) a (trace (source s l) p (start true))
  write_trip near k = rw (append-nil (packed (trace (source s l) p (start true)))) at (write_trip_before near [] k)

  -- and their file has the length and the padding that reading asks for
  pub write_length : length (packed (trace (source s l) p (start true))) ≡ bytes_for d.bit
  write_length = length_packed (trace (source s l) p (start true)) ∙ ap bytes_for (sym (end_bit (source s l) p true e))

  pub write_padding : (i : ℕ) → d.bit ≤ i → i < 8 * length (packed (trace (source s l) p (start true)))
      → bit_at (packed (trace (source s l) p (start true))) i ≡ 0
  write_padding i h k = rw (append-nil (packed fs)) at (padding_zero fs [] i (omega (arith, end_bit (source s l) p true e)) k)
    where
      fs : List (ℕ × ℕ)
      fs = trace (source s l) p (start true)

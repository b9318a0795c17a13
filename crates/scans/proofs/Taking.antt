-- One field: where it is past the end, refused, or passed.
use Rattle.std.specs.Prelude.{Ok, Err, Some, None}
use Prim.Native.Nat.{ℕ, ◌+◌, ◌^◌, ◌<◌, ◌≤◌}
use mathlib.Core.Path.{◌≡◌, refl, sym, ap, ap₂, ◌∙◌, subst}
use mathlib.Core.List.{List}
use mathlib.Core.Bool.{false}
use mathlib.Core.Option.{none, some}
use native.Mathlib.Omega.{arith}
use Rattle.bits.specs.declared.Cursor.{Cursor}
use Rattle.bits.specs.Bits.{Taken}
use Rattle.bits.specs.Bits.{bits_at, room_of, read_field}
use Rattle.bits.proofs.Bytes.{bits_lt}
use Rattle.bits.proofs.Fitting.{read_yes, read_past, read_got}
use Rattle.fields.specs.Source.{packed_field, of_bits}
use Rattle.fields.specs.Kinds.{FieldKind, Range, bits, test, spent}
use Rattle.fields.specs.Grammar.{field}
use Rattle.scans.specs.Glance.{past, glance, Scans}

module _ (s : List ℕ) (k : FieldKind) (r : Range) (c : Cursor) {val : ℕ → ℕ} (allowed : spent r ≡ false) where
  pub field_past : packed_field s (bits k) c.at ≡ Err 3 → Scans s (field k r) c val (Err (3, c))
  unfolding field glance
  field_past e = record { told = rw (allowed, e) }

  module _ (v : ℕ) (e : packed_field s (bits k) c.at ≡ Ok v) where
    pub field_refused : (m : ℕ) → test r v ≡ some m → Scans s (field k r) c val (Err (m, c))
    unfolding field glance
    field_refused m t = record { told = rw (allowed, e, t) }

    pub field_in : test r v ≡ none → {n : ℕ} {d : Cursor} → n ≡ val v → d ≡ past k c → Scans s (field k r) c val (Ok (n, d))
    unfolding field glance
    field_in t p q = record { told = rw (allowed, e, t) (λ i. Ok (p i, q i)) }

-- ---- a field in the bytes, by its room

module _ (s : List ℕ) (w at : ℕ) where
  pub packed_past : room_of s < at + w → packed_field s w at ≡ Err 3
  unfolding packed_field
  packed_past h = ap of_bits (read_past s w at h)

  pub packed_in : w ≤ 16 → at + w ≤ room_of s → {v : ℕ} → v ≡ bits_at s at w → packed_field s w at ≡ Ok v
  unfolding packed_field
  packed_in h k e = ap of_bits (read_yes s w at h k) ∙ ap Ok (sym e)

-- ---- by what the bit cursor answers

pub taken_past : (s : List ℕ) (w at : ℕ) {f : Taken} → f ≡ read_field s w at → f ≡ None → packed_field s w at ≡ Err 3
unfolding packed_field
taken_past s w at g e = ap of_bits (sym g ∙ e)

module _ (s : List ℕ) (w at : ℕ) {f : Taken} (g : f ≡ read_field s w at) {v : ℕ} {d : Cursor} (e : f ≡ Some (v, d)) where
  pub taken_in : packed_field s w at ≡ Ok v
  unfolding packed_field
  taken_in = ap of_bits (sym g ∙ e)

  pub taken_at : at + w ≡ d.at
  taken_at = (read_got s w at v d (sym g ∙ e)).1

  pub taken_cursor : (k : FieldKind) (c : Cursor) → c.at ≡ at → bits k ≡ w → d ≡ past k c
  taken_cursor k c p q = λ i. record { at = (sym taken_at ∙ ap₂ (λ (x y : ℕ). x + y) (sym p) (sym q)) i }

  pub taken_small : v < 2 ^ w
  taken_small = subst (λ n. n < 2 ^ w) (read_got s w at v d (sym g ∙ e)).0 (bits_lt s at w)

-- a field that is there lies within the bytes
pub packed_room : (s : List ℕ) (w at v : ℕ) → packed_field s w at ≡ Ok v → at + w ≤ room_of s
unfolding packed_field
packed_room s w at v = go (read_field s w at) refl
  where
    go : (f : Taken) → read_field s w at ≡ f → of_bits f ≡ Ok v → at + w ≤ room_of s
    go (Some (u, d)) e h = (read_got s w at u d e).3
    go None e h = let z : ◌≡◌ {A = ℕ} 0 1 = cc in absurd (omega arith)

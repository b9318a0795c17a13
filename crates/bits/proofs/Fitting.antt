-- Whether a field fits, decided: it has at most 16 bits and ends within the bytes; and what `take` answers then.
use Rattle.std.specs.Prelude.{Some, None}
use mathlib.Core.Path.{◌≡◌, refl, ap, ap₂, ◌∙◌}
use mathlib.Core.List.{List}
use mathlib.Core.Bool.{Bool, true, false, ◌&&◌, cond, false≢true}
use Prim.Native.Nat.{ℕ, ◌+◌, ◌≤◌, ◌<◌}
use lib.Dec.{leb}
use borrow.Author.Tests.{le-leb, lt-leb, leb-true}
use native.Mathlib.Omega.{arith}
use Rattle.bits.specs.declared.Cursor.{Cursor}
use Rattle.bits.specs.Bits.{Taken, bits_at, fits, room_of, read_field}

pub fits_yes : (s : List ℕ) (w at : ℕ) → w ≤ 16 → at + w ≤ room_of s → fits s w at ≡ true
fits_yes s w at h l = ap₂ ◌&&◌ (le-leb w 16 h) (le-leb (at + w) (room_of s) l)

pub fits_wide : (s : List ℕ) (w at : ℕ) → 16 < w → fits s w at ≡ false
fits_wide s w at h = ap (λ (b : Bool). b && leb (at + w) (room_of s)) (lt-leb w 16 h)

pub fits_past : (s : List ℕ) (w at : ℕ) → room_of s < at + w → fits s w at ≡ false
fits_past s w at h = ap (λ (b : Bool). leb w 16 && b) (lt-leb (at + w) (room_of s) h) ∙ never (leb w 16)
  where
    never : (b : Bool) → (b && false) ≡ false
    never true = refl
    never false = refl

pub fits_both : (s : List ℕ) (w at : ℕ) → fits s w at ≡ true → (w ≤ 16) × (at + w ≤ room_of s)
fits_both s w at e = (leb-true w 16 (both (leb w 16) (leb (at + w) (room_of s)) e).0, leb-true (at + w) (room_of s) (both (leb w 16) (leb (at + w) (room_of s)) e).1)
  where
    both : (a b : Bool) → (a && b) ≡ true → (a ≡ true) × (b ≡ true)
    both true b e = (refl, e)
    both false b e = absurd (false≢true e)

-- ---- what `take` answers

pub read_yes : (s : List ℕ) (w at : ℕ) → w ≤ 16 → at + w ≤ room_of s → read_field s w at ≡ Some (bits_at s at w, record { at = at + w })
unfolding read_field
read_yes s w at h l = ap (λ (b : Bool). cond {A = Taken} b (Some (bits_at s at w, record { at = at + w })) None) (fits_yes s w at h l)

pub read_past : (s : List ℕ) (w at : ℕ) → room_of s < at + w → read_field s w at ≡ None
unfolding read_field
read_past s w at h = ap (λ (b : Bool). cond {A = Taken} b (Some (bits_at s at w, record { at = at + w })) None) (fits_past s w at h)

-- what an answer tells of the bytes
pub read_got : (s : List ℕ) (w at v : ℕ) (c : Cursor) → read_field s w at ≡ Some (v, c) → (bits_at s at w ≡ v) × (at + w ≡ c.at) × (w ≤ 16) × (at + w ≤ room_of s)
unfolding read_field
read_got s w at v c = go (fits s w at) refl
  where
    go : (b : Bool) → fits s w at ≡ b → cond {A = Taken} b (Some (bits_at s at w, record { at = at + w })) None ≡ Some (v, c) → (bits_at s at w ≡ v) × (at + w ≡ c.at) × (w ≤ 16) × (at + w ≤ room_of s)
    go true e g =
        let p : ◌≡◌ {A = ℕ × Cursor} (bits_at s at w, record { at = at + w }) (v, c) = cc in
        (ap (λ (q : ℕ × Cursor). q.0) p, ap (λ (q : ℕ × Cursor). q.1.at) p, (fits_both s w at e).0, (fits_both s w at e).1)
    go false e g = let z : ◌≡◌ {A = ℕ} 0 1 = cc in absurd (omega arith)

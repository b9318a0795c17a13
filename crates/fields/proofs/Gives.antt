-- Which fields a source gives one after the other: for bytes those that stand in them, for a list those whose values stand in it.
use Rattle.std.specs.Prelude.{Ok, Err, Some, None, IfOk}
use mathlib.Core.Path.{◌≡◌, refl, sym, ap, ap₂, ◌∙◌}
use mathlib.Core.List.{List, [], ◌∷◌}
use mathlib.Core.Bool.{Bool, true, false, cond}
use Prim.Native.Nat.{ℕ, zero, suc, ◌+◌, ◌^◌, ◌≤◌, ◌<◌}
use native.Mathlib.Omega.{arith}
use native.Mathlib.Numerals.{add-one}
use borrow.Author.Tests.{ltb-true}
use lib.ListN.{length, get_or, take, drop}
use lib.Seq.{drop-cons}
use lib.Dec.{ltb}
use Rattle.bits.specs.Bits.{bits_at, room_of, read_field}
use Rattle.bits.specs.Packed.{width, Reads, Sized}
use Rattle.bits.specs.Written.{Narrow}
use Rattle.bits.specs.Bits.{Taken as Bits}
use Rattle.bits.proofs.Bytes.{bits_lt}
use Rattle.bits.proofs.Fitting.{read_yes, read_got}
use Rattle.fields.specs.declared.Walker.{Walker}
use Rattle.fields.specs.Source.{Field}
use Rattle.fields.specs.Source.{Source, moved, source, field_at, listed_field, of_bits}
use Rattle.fields.proofs.Sources.{Near, got_near, field_listed, field_packed, listed_got}
use Rattle.fields.proofs.Sinks.{values}

-- ---- a field that a source gives

cond_got : (b : Bool) (x : Field) (m v : ℕ) → cond b x (Err m) ≡ Ok v → (b ≡ true) × (x ≡ Ok v)
cond_got true x m v h = (refl, h)
cond_got false x m v h = let z : ◌≡◌ {A = ℕ} 0 1 = cc in absurd (omega arith)

got_bits : (s : List ℕ) (w at v : ℕ) (x : Bits) → read_field s w at ≡ x → of_bits x ≡ Ok v → (bits_at s at w ≡ v) × (at + w ≤ room_of s)
got_bits s w at v (Some (u, d)) e h = let k = read_got s w at u d e in (cc, k.3)
got_bits s w at v None e h = let z : ◌≡◌ {A = ℕ} 0 1 = cc in absurd (omega arith)

got_number : (l : List ℕ) (w n v : ℕ) → listed_field l w n ≡ Ok v → (n < length l) × (get_or l n 0 ≡ v) × (v < 2 ^ w)
unfolding listed_field
got_number l w n v e =
    let h = cond_got (ltb n (length l)) _ 3 v e in
    let k = cond_got (ltb (get_or l n 0) (2 ^ w)) _ 4 v h.1 in
    let same : get_or l n 0 ≡ v = cc in
    (ltb-true n (length l) h.0, same, rw same at (ltb-true (get_or l n 0) (2 ^ w) k.0))

module _ (s l : List ℕ) (w : ℕ) (c : Walker) where
  from_bytes : Near w c → c.listed ≡ false → field_at s l w c ≡ of_bits (read_field s w c.bit)
  from_bytes h b = field_packed s l w c h.narrow h.few h.close b _ refl

  from_list : Near w c → c.listed ≡ true → field_at s l w c ≡ listed_field l w c.n
  from_list h = field_listed s l w c h.narrow h.few h.close

  got_packed : (v : ℕ) → c.listed ≡ false → field_at s l w c ≡ Ok v → (bits_at s c.bit w ≡ v) × (c.bit + w ≤ room_of s)
  got_packed v b e = got_bits s w c.bit v _ refl (sym (from_bytes (got_near s l w c v e) b) ∙ e)

  got_listed : (v : ℕ) → c.listed ≡ true → field_at s l w c ≡ Ok v → (c.n < length l) × (get_or l c.n 0 ≡ v) × (v < 2 ^ w)
  got_listed v b e = got_number l w c.n v (sym (from_list (got_near s l w c v e) b) ∙ e)

  pub got_small : (v : ℕ) → field_at s l w c ≡ Ok v → v < 2 ^ w
  got_small v e = go c.listed refl
    where
      go : (b : Bool) → c.listed ≡ b → v < 2 ^ w
      go true h = (got_listed v h e).2
      go false h = rw (got_packed v h e).0 at (bits_lt s c.bit w)

  -- the same of whatever stands there
  pub found_small : {f : Field} → f ≡ field_at s l w c → IfOk f (λ v. v < 2 ^ w)
  found_small {f} = go f
    where
      go : (f : Field) → f ≡ field_at s l w c → IfOk f (λ v. v < 2 ^ w)
      go (Ok v) e = got_small v (sym e)
      go (Err m) e = tt

  packed_gives : (v : ℕ) → Near w c → c.listed ≡ false → bits_at s c.bit w ≡ v → c.bit + w ≤ room_of s → field_at s l w c ≡ Ok v
  packed_gives v h b e r = from_bytes h b ∙ ap of_bits (read_yes s w c.bit h.narrow r) ∙ ap Ok e

  list_gives : (v : ℕ) → Near w c → c.listed ≡ true → c.n < length l → get_or l c.n 0 ≡ v → v < 2 ^ w → field_at s l w c ≡ Ok v
  list_gives v h b i e k = from_list h b ∙ listed_got l w c.n i (rw e k) ∙ ap Ok e

-- ---- fields one after the other

-- the source gives the fields from the walker on
unfoldable pub Gives : Source → Walker → List (ℕ × ℕ) → Type 0
Gives src c [] = Unit {0}
Gives src c (f ∷ fs) = (src f.0 c ≡ Ok f.1) × Gives src (moved f.0 c) fs

-- each of the fields from the walker on is in reach
unfoldable pub ReachedBy : Walker → List (ℕ × ℕ) → Type 0
ReachedBy c [] = Unit {0}
ReachedBy c (f ∷ fs) = Near f.0 c × ReachedBy (moved f.0 c) fs

-- the values stand in a list from place n on
unfoldable pub Stands : List ℕ → ℕ → List (ℕ × ℕ) → Type 0
Stands l n [] = Unit {0}
Stands l n (f ∷ fs) = (n < length l) × (get_or l n 0 ≡ f.1) × Stands l (n + 1) fs

pub reached_narrow : (c : Walker) (fs : List (ℕ × ℕ)) → ReachedBy c fs → Narrow fs
unfolding ReachedBy Narrow
reached_narrow c [] r = tt
reached_narrow c (f ∷ fs) r = (r.0.narrow, reached_narrow (moved f.0 c) fs r.1)

-- narrow fields are in reach as long as they end before the first 2 ^ 32
pub narrow_reached : (c : Walker) (fs : List (ℕ × ℕ)) → Narrow fs → c.n + length fs ≤ 2 ^ 32 → c.bit + width fs < 2 ^ 32 → ReachedBy c fs
unfolding ReachedBy Narrow width
narrow_reached c [] h n b = tt
narrow_reached c (f ∷ fs) h n b = (
  record { narrow = h.0; few = omega arith; close = omega arith },
  narrow_reached (moved f.0 c) fs h.1 (omega arith) (omega arith),
)

-- in bytes or in a list, the reach is the same
pub reached_in : (c : Walker) (fs : List (ℕ × ℕ)) (b : Bool) → ReachedBy c fs → ReachedBy (record { bit = c.bit; n = c.n; listed = b }) fs
unfolding ReachedBy
reached_in c [] b r = tt
reached_in c (f ∷ fs) b r = (record { narrow = r.0.narrow; few = r.0.few; close = r.0.close }, reached_in (moved f.0 c) fs b r.1)

module _ (s l : List ℕ) where
  pub gives_reached : (c : Walker) (fs : List (ℕ × ℕ)) → Gives (source s l) c fs → ReachedBy c fs
  unfolding Gives ReachedBy
  gives_reached c [] g = tt
  gives_reached c (f ∷ fs) g = (got_near s l f.0 c f.1 g.0, gives_reached (moved f.0 c) fs g.1)

  pub gives_sized : (c : Walker) (fs : List (ℕ × ℕ)) → Gives (source s l) c fs → Sized fs
  unfolding Gives Sized
  gives_sized c [] g = tt
  gives_sized c (f ∷ fs) g = (got_small s l f.0 c f.1 g.0, gives_sized (moved f.0 c) fs g.1)

  -- ---- bytes

  pub gives_reads : (c : Walker) (fs : List (ℕ × ℕ)) → c.listed ≡ false → Gives (source s l) c fs → Reads s c.bit fs
  unfolding Gives Reads
  gives_reads c [] b g = tt
  gives_reads c (f ∷ fs) b g = ((got_packed s l f.0 c f.1 b g.0).0, gives_reads (moved f.0 c) fs b g.1)

  pub gives_room : (c : Walker) (fs : List (ℕ × ℕ)) → c.listed ≡ false → c.bit ≤ room_of s → Gives (source s l) c fs → c.bit + width fs ≤ room_of s
  unfolding Gives width
  gives_room c [] b r g = omega arith
  gives_room c (f ∷ fs) b r g = omega (arith, gives_room (moved f.0 c) fs b (got_packed s l f.0 c f.1 b g.0).1 g.1)

  pub reads_give : (c : Walker) (fs : List (ℕ × ℕ)) → c.listed ≡ false → ReachedBy c fs → Reads s c.bit fs → c.bit + width fs ≤ room_of s → Gives (source s l) c fs
  unfolding Gives ReachedBy Reads width
  reads_give c [] b h r e = tt
  reads_give c (f ∷ fs) b h r e = (
    packed_gives s l f.0 c f.1 h.0 b r.0 (omega arith),
    reads_give (moved f.0 c) fs b h.1 r.1 (omega arith),
  )

  -- ---- a list

  pub gives_stands : (c : Walker) (fs : List (ℕ × ℕ)) → c.listed ≡ true → Gives (source s l) c fs → Stands l c.n fs
  unfolding Gives Stands
  gives_stands c [] b g = tt
  gives_stands c (f ∷ fs) b g =
      let h = got_listed s l f.0 c f.1 b g.0 in
      (h.0, h.1, gives_stands (moved f.0 c) fs b g.1)

  pub stands_give : (c : Walker) (fs : List (ℕ × ℕ)) → c.listed ≡ true → ReachedBy c fs → Sized fs → Stands l c.n fs → Gives (source s l) c fs
  unfolding Gives ReachedBy Sized Stands
  stands_give c [] b h k r = tt
  stands_give c (f ∷ fs) b h k r = (
    list_gives s l f.0 c f.1 h.0 b r.0 r.1 k.0,
    stands_give (moved f.0 c) fs b h.1 k.1 r.2,
  )

-- ---- the values that stand in a list

pub stands_take : (l : List ℕ) (n : ℕ) (fs : List (ℕ × ℕ)) → Stands l n fs → take (length fs) (drop n l) ≡ values fs
unfolding Stands
stands_take l n [] h = refl
stands_take l n (f ∷ fs) h =
    ap (take (suc (length fs))) (drop-cons l n 0 h.0)
    ∙ ap₂ (λ (v : ℕ) (r : List ℕ). v ∷ r) h.1 (rw (add-one n) at (stands_take l (n + 1) fs h.2))

pub stands_within : (l : List ℕ) (n : ℕ) (fs : List (ℕ × ℕ)) → n ≤ length l → Stands l n fs → n + length fs ≤ length l
unfolding Stands
stands_within l n [] k h = omega arith
stands_within l n (f ∷ fs) k h = omega (arith, stands_within l (n + 1) fs (omega arith) h.2)

first_left : (l : List ℕ) (n k v : ℕ) (r : List ℕ) → take (suc k) (drop n l) ≡ v ∷ r
    → (n < length l) × (get_or l n 0 ≡ v) × (take k (drop (suc n) l) ≡ r)
first_left [] zero k v r e = let z : ◌≡◌ {A = ℕ} 0 1 = cc in absurd (omega arith)
first_left [] (suc n) k v r e = let z : ◌≡◌ {A = ℕ} 0 1 = cc in absurd (omega arith)
first_left (x ∷ xs) zero k v r e = (omega arith, cc, cc)
first_left (x ∷ xs) (suc n) k v r e = let h = first_left xs n k v r e in (omega arith, h.1, h.2)

pub take_stands : (l : List ℕ) (n : ℕ) (fs : List (ℕ × ℕ)) → take (length fs) (drop n l) ≡ values fs → Stands l n fs
unfolding Stands
take_stands l n [] e = tt
take_stands l n (f ∷ fs) e =
    let h = first_left l n (length fs) f.1 (values fs) e in
    (h.0, h.1, take_stands l (n + 1) fs (rw (add-one n) h.2))

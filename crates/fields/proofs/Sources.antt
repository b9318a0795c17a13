-- The cases of a field at a walker.
use Rattle.std.specs.Prelude.{Ok, Err}
use Prim.Native.Nat.{ℕ, ◌^◌, ◌<◌, ◌≤◌}
use mathlib.Core.Path.{◌≡◌, refl, sym, ◌∙◌, ap}
use mathlib.Core.List.{List}
use mathlib.Core.Bool.{Bool, true, false, ◌&&◌, cond}
use borrow.Author.Tests.{lt-ltb, le-ltb, le-leb, lt-leb, ltb-true, leb-true}
use lib.ListN.{length, get_or}
use lib.Dec.{ltb, leb}
use Rattle.bits.specs.Bits.{read_field}
use Rattle.bits.specs.Bits.{Taken as Bits}
use Rattle.fields.specs.declared.Walker.{Walker}
use Rattle.fields.specs.Source.{Field}
use Rattle.fields.specs.Source.{listed_field, of_bits, packed_field, in_reach, field_at}

-- ---- a listed number

module _ (l : List ℕ) (w n : ℕ) where
  pub listed_got : n < length l → get_or l n 0 < 2 ^ w → listed_field l w n ≡ Ok (get_or l n 0)
  unfolding listed_field
  listed_got h k = rw (lt-ltb n (length l) h, lt-ltb (get_or l n 0) (2 ^ w) k)

  pub listed_wide : n < length l → 2 ^ w ≤ get_or l n 0 → listed_field l w n ≡ Err 4
  unfolding listed_field
  listed_wide h k = rw (lt-ltb n (length l) h, le-ltb (get_or l n 0) (2 ^ w) k)

  pub listed_past : length l ≤ n → listed_field l w n ≡ Err 3
  unfolding listed_field
  listed_past h = rw (le-ltb n (length l) h)

-- ---- within reach, or not

module _ (s l : List ℕ) (w : ℕ) (c : Walker) where
  pub field_wide : 16 < w → field_at s l w c ≡ Err 3
  unfolding field_at in_reach
  field_wide h = rw (lt-leb w 16 h)

  pub field_many : w ≤ 16 → 2 ^ 32 ≤ c.n → field_at s l w c ≡ Err 3
  unfolding field_at in_reach
  field_many h k = rw (le-leb w 16 h, le-ltb c.n (2 ^ 32) k)

  pub field_far : w ≤ 16 → c.n < 2 ^ 32 → 2 ^ 32 ≤ c.bit → field_at s l w c ≡ Err 3
  unfolding field_at in_reach
  field_far h k j = rw (le-leb w 16 h, lt-ltb c.n (2 ^ 32) k, le-ltb c.bit (2 ^ 32) j)

  near : w ≤ 16 → c.n < 2 ^ 32 → c.bit < 2 ^ 32
      → field_at s l w c ≡ cond c.listed (listed_field l w c.n) (packed_field s w c.bit)
  unfolding field_at in_reach
  near h k j = rw (le-leb w 16 h, lt-ltb c.n (2 ^ 32) k, lt-ltb c.bit (2 ^ 32) j)

  pub field_listed : w ≤ 16 → c.n < 2 ^ 32 → c.bit < 2 ^ 32 → c.listed ≡ true → field_at s l w c ≡ listed_field l w c.n
  field_listed h k j e = near h k j ∙ rw e

  pub field_packed : w ≤ 16 → c.n < 2 ^ 32 → c.bit < 2 ^ 32 → c.listed ≡ false → (b : Bits) → b ≡ read_field s w c.bit
      → field_at s l w c ≡ of_bits b
  unfolding packed_field
  field_packed h k j e b g = near h k j ∙ rw e (ap of_bits (sym g))

-- ---- a field that was got lies within reach

pub both_true : (a b : Bool) → a && b ≡ true → (a ≡ true) × (b ≡ true)
both_true true b p = (refl, p)
both_true false b p = (p, cc)

bad_or : (b : Bool) (f : Field) (v : ℕ) → cond b f (Err 3) ≡ Ok v → b ≡ true
bad_or true f v p = refl
bad_or false f v p = cc

pub record Near (w : ℕ) (c : Walker) : Type 0 where
  pub narrow : w ≤ 16
  pub few : c.n < 2 ^ 32
  pub close : c.bit < 2 ^ 32

pub got_near : (s l : List ℕ) (w : ℕ) (c : Walker) (v : ℕ) → field_at s l w c ≡ Ok v → Near w c
unfolding field_at in_reach
got_near s l w c v p =
    let q = bad_or _ _ v p in
    let r = both_true _ (ltb c.bit (2 ^ 32)) q in
    let t = both_true (leb w 16) (ltb c.n (2 ^ 32)) r.0 in
    record { narrow = leb-true w 16 t.0; few = ltb-true c.n (2 ^ 32) t.1; close = ltb-true c.bit (2 ^ 32) r.1 }

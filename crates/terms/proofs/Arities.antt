-- A look-up of an arity in a book's bytes: it does not depend on the list that stands beside them, and it is half a byte.
use Prim.Native.Nat.{ℕ, ◌+◌, ◌*◌, ◌/◌, ◌%◌, ◌^◌, ◌≤◌, ◌<◌}
use mathlib.Core.Path.{◌≡◌, refl, sym, ap, ◌∙◌}
use mathlib.Core.Logic.{◌⊎◌, inl, inr, ⊎_elim}
use mathlib.Core.List.{List, []}
use mathlib.Core.Bool.{true, false, cond}
use Rattle.std.specs.Prelude.{Ok, Err}
use Rattle.std.specs.Result.{result_unwrap_or}
use native.Mathlib.Omega.{arith}
use borrow.Author.Tests.{lt-ltb, le-ltb}
use lib.ListN.{length}
use lib.Dec.{ltb}
use Rattle.bits.specs.Bits.{byte_at, Bytes, bits_at, room_of}
use Rattle.bits.proofs.Numbers.{lt_or_ge}
use Rattle.bits.proofs.Bytes.{bits_lt, byte_of_bits}
use Rattle.bits.proofs.Fitting.{read_yes, read_past}
use Rattle.bits.proofs.Views.{bits_append}
use Rattle.fields.specs.declared.Walker.{Walker}
use Rattle.fields.specs.Source.{Field, field_at, listed_field, start}
use Rattle.fields.specs.Grammar.{on_field}
use Rattle.fields.proofs.Sources.{field_listed, field_packed}
use Rattle.terms.proofs.Symbols.{number_is}
use Rattle.terms.specs.Arity.{number_at, arity_at, NibbleOf}

pub in_bytes_only : (s l : List ℕ) (f : ℕ) → arity_at s l false f ≡ arity_at s [] false f
unfolding arity_at number_at field_at
in_bytes_only s l f = refl

-- the number at a place of a list, or another
pub listed_number : (l : List ℕ) (w n other : ℕ) {f : Field} → w ≤ 16 → n < 2 ^ 32 → f ≡ listed_field l w n → (bit : ℕ) → bit < 2 ^ 32
    → result_unwrap_or f other ≡ number_at [] l w (record { bit = bit; n = n; listed = true }) other
listed_number l w n other {f} narrow few e bit close =
    unwrapped f ∙ sym (number_is [] l w _ other (e ∙ sym (field_listed [] l w (record { bit = bit; n = n; listed = true }) narrow few close refl)))
  where
    unwrapped : (f : Field) → result_unwrap_or f other ≡ on_field f (λ v. v) (λ m. other)
    unwrapped (Ok v) = refl
    unwrapped (Err m) = refl

-- ---- by bytes and halves of bytes

module _ (s : List ℕ) (w bit n other : ℕ) (narrow : w ≤ 16) (near : n < 2 ^ 32) (close : bit < 2 ^ 32) where
  number_there : bit + w ≤ room_of s → number_at s [] w (record { bit = bit; n = n; listed = false }) other ≡ bits_at s bit w
  unfolding number_at
  number_there h = rw (field_packed s [] w (record { bit = bit; n = n; listed = false }) narrow near close refl _ (sym (read_yes s w bit narrow h))) refl

  number_past : room_of s < bit + w → number_at s [] w (record { bit = bit; n = n; listed = false }) other ≡ other
  unfolding number_at
  number_past h = rw (field_packed s [] w (record { bit = bit; n = n; listed = false }) narrow near close refl _ (sym (read_past s w bit h))) refl

module _ (s : List ℕ) (f : ℕ) where
  abbrev own : Walker
  own = record { bit = 8 + 4 * f; n = 1 + f; listed = false }

  by_count : (count : ℕ) → number_at s [] 8 (start false) 0 ≡ count → arity_at s [] false f ≡ cond (ltb f count) (number_at s [] 4 own 16) 16
  unfolding arity_at
  by_count count e = rw e refl

  arity_none : length s ≡ 0 → arity_at s [] false f ≡ 16
  arity_none e = by_count 0 (number_past s 8 0 0 0 (omega arith) (omega arith) (omega arith) (omega arith)) ∙ rw (le-ltb f 0 (omega arith)) refl

module _ (s : List ℕ) (f : ℕ) (small : Bytes s) (some : 1 ≤ length s) where
  by_byte : arity_at s [] false f ≡ cond (ltb f (byte_at s 0)) (number_at s [] 4 (own s f) 16) 16
  by_byte =
      by_count s f (byte_at s 0)
      (number_there s 8 0 0 0 (omega arith) (omega arith) (omega arith) (omega arith) ∙ byte_of_bits s 0 (small 0))

  pub arity_beyond : byte_at s 0 ≤ f → arity_at s [] false f ≡ 16
  arity_beyond h = by_byte ∙ rw (le-ltb f (byte_at s 0) h) refl

  arity_gone : f < byte_at s 0 → length s ≤ 1 + f / 2 → arity_at s [] false f ≡ 16
  arity_gone h l =
      by_byte ∙ rw (lt-ltb f (byte_at s 0) h) (number_past s 4 (8 + 4 * f) (1 + f) 16 (omega arith) (omega (arith, small 0)) (omega (arith, small 0)) (omega (arith, small 0)))

  -- the byte of two arities
  halves : (k : ℕ) → byte_at s k ≡ bits_at s (8 * k) 4 * 2 ^ 4 + bits_at s (8 * k + 4) 4
  halves k = sym (byte_of_bits s k (small k)) ∙ bits_append s (8 * k) 4 4

  chosen : (r : ℕ) → NibbleOf (byte_at s (1 + f / 2)) f r → r ≡ bits_at s (8 + 4 * f) 4
  chosen r n = ⊎_elim upper lower parity
    where
      parity : (f % 2 ≡ 0) ⊎ (f % 2 ≡ 1)
      parity = ⊎_elim (λ l. inl (omega arith)) (λ l. inr (omega arith)) (lt_or_ge (f % 2) 1)

      upper : f % 2 ≡ 0 → r ≡ bits_at s (8 + 4 * f) 4
      upper e = omega (arith, n.even e, halves (1 + f / 2), bits_lt s (8 * (1 + f / 2) + 4) 4) ∙ ap (λ (i : ℕ). bits_at s i 4) place
        where
          place : 8 * (1 + f / 2) ≡ 8 + 4 * f
          place = omega arith

      lower : f % 2 ≡ 1 → r ≡ bits_at s (8 + 4 * f) 4
      lower e = omega (arith, n.odd e, halves (1 + f / 2), bits_lt s (8 * (1 + f / 2) + 4) 4) ∙ ap (λ (i : ℕ). bits_at s i 4) place
        where
          place : 8 * (1 + f / 2) + 4 ≡ 8 + 4 * f
          place = omega arith

  pub arity_there : (r : ℕ) → f < byte_at s 0 → 1 + f / 2 < length s → NibbleOf (byte_at s (1 + f / 2)) f r → r ≡ arity_at s [] false f
  arity_there r h l n =
      chosen r n
      ∙ sym (by_byte ∙ rw (lt-ltb f (byte_at s 0) h) (number_there s 4 (8 + 4 * f) (1 + f) 16 (omega arith) (omega (arith, small 0)) (omega (arith, small 0)) (omega (arith, small 0))))

-- where its half byte would lie past the end there is no such symbol, or no arity
pub arity_past : (s : List ℕ) (f : ℕ) → Bytes s → length s ≤ 1 + f / 2 → arity_at s [] false f ≡ 16
arity_past s f small l =
    ⊎_elim (λ h. arity_none s f (omega arith)) (λ some. ⊎_elim (λ h. arity_gone s f small some h l) (λ h. arity_beyond s f small some h) (lt_or_ge f (byte_at s 0)))
    (lt_or_ge (length s) 1)

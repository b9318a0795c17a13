-- The header that is found where the fields of a node lie; the one that is taken out of a view; and that its numbers are small.
use Rattle.std.specs.Prelude.{Some, None}
use Prim.Native.Nat.{ℕ, ◌+◌, ◌/◌, ◌%◌, ◌≤◌, ◌<◌, ◌^◌}
use mathlib.Core.Path.{◌≡◌, refl, sym, subst, ap, ap₂, ◌∙◌}
use mathlib.Core.Logic.{⊎_elim}
use mathlib.Core.List.{List, ◌∷◌}
use mathlib.Core.Bool.{Bool, true, false, cond}
use native.Mathlib.Omega.{arith}
use lib.Dec.{eqb}
use borrow.Author.Tests.{ne_eqb}
use Rattle.bits.specs.Bits.{bits_at, room_of, read_field}
use Rattle.bits.specs.View.{Views}
use Rattle.bits.specs.declared.Cursor.{Cursor}
use Rattle.bits.specs.Bits.{Taken}
use Rattle.bits.proofs.Fitting.{read_yes, read_past, read_got}
use Rattle.bits.proofs.Numbers.{lt_or_ge}
use Rattle.bits.proofs.Bytes.{bits_lt}
use Rattle.grammar.specs.Listing.{Fields}
use Rattle.instances.specs.Lying.{Lies, arities}
use Rattle.instances.specs.Headers.{on_taken, variable_at, symbol_at, power_at, by_tag, header_at}
use Rattle.instances.specs.Walks.{Named}
use Rattle.instances.specs.declared.Header.{Header}
use Rattle.instances.specs.declared.Header.TheVariants.{Variable, Symbol, Power, Missing}
use Rattle.instances.proofs.Lying.{lies_first, lies_rest}

-- ---- where fields lie

module _ (book s : List ℕ) (at : ℕ) where
  pub found_variable : (x : ℕ) (fs : Fields) → Lies s at ((2, 0) ∷ (6, x) ∷ fs) → header_at book s at ≡ Variable x (record { at = at + 2 + 6 })
  unfolding header_at by_tag variable_at on_taken
  found_variable x fs l = rw (lies_first s at 2 0 _ (omega arith) l, lies_first s (at + 2) 6 x fs (omega arith) (lies_rest s at 2 0 _ l))

  pub found_symbol : (f : ℕ) (fs : Fields) → Lies s at ((2, 1) ∷ (8, f) ∷ fs)
      → header_at book s at ≡ Symbol f (arities book f) (record { at = at + 2 + 8 })
  unfolding header_at by_tag symbol_at on_taken
  found_symbol f fs l = rw (lies_first s at 2 1 _ (omega arith) l, lies_first s (at + 2) 8 f fs (omega arith) (lies_rest s at 2 1 _ l))

  pub found_power : (f a b : ℕ) (fs : Fields) → Lies s at ((2, 2) ∷ (8, f) ∷ (12, a) ∷ (12, b) ∷ fs)
      → header_at book s at ≡ Power f a b (record { at = at + 2 + 8 + 12 + 12 })
  unfolding header_at by_tag power_at on_taken
  found_power f a b fs l =
      let l₁ = lies_rest s at 2 2 _ l in
      let l₂ = lies_rest s (at + 2) 8 f _ l₁ in
      let l₃ = lies_rest s (at + 2 + 8) 12 a _ l₂ in
      rw (
        lies_first s at 2 2 _ (omega arith) l,
        lies_first s (at + 2) 8 f _ (omega arith) l₁,
        lies_first s (at + 2 + 8) 12 a _ (omega arith) l₂,
        lies_first s (at + 2 + 8 + 12) 12 b _ (omega arith) l₃,
      )

-- ---- what is taken out of a view

module _ (book s : List ℕ) (x at room : ℕ) (v : Views s at x) (e : room ≡ room_of s) where
  tagged : (tag : ℕ) → x / 2 ^ 62 % 4 ≡ tag → at + 2 ≤ room → header_at book s at ≡ by_tag book s tag (at + 2)
  unfolding header_at on_taken
  tagged tag t h =
      rw (read_yes s 2 at (omega arith) (omega (arith, e)))
      (ap (λ (n : ℕ). by_tag book s n (at + 2)) (sym (v.field 0 2 (omega arith) ∙ ap (λ (n : ℕ). bits_at s n 2) nought) ∙ t))
    where
      nought : at + 0 ≡ at
      nought = omega arith

  no_tag : room < at + 2 → Missing ≡ header_at book s at
  unfolding header_at on_taken
  no_tag h = rw (read_past s 2 at (omega (arith, e))) refl

  -- what has no tag, or has one whose fields are not all there
  short : (tag n : ℕ) → x / 2 ^ 62 % 4 ≡ tag → room < at + n → (at + 2 ≤ room → by_tag book s tag (at + 2) ≡ Missing) → Missing ≡ header_at book s at
  short tag n t l k = ⊎_elim no_tag (λ h. sym (tagged tag t h ∙ k h)) (lt_or_ge room (at + 2))

  pub off : room < at → Missing ≡ header_at book s at
  off h = no_tag (omega arith)

  pub variable_short : x / 2 ^ 62 % 4 ≡ 0 → room < at + 8 → Missing ≡ header_at book s at
  unfolding by_tag variable_at on_taken
  variable_short t l = short 0 8 t l (λ h. rw (read_past s 6 (at + 2) (omega (arith, e))) refl)

  pub variable_whole : x / 2 ^ 62 % 4 ≡ 0 → at + 8 ≤ room → Variable (x / 2 ^ 56 % 64) (record { at = at + 8 }) ≡ header_at book s at
  unfolding by_tag variable_at on_taken
  variable_whole t l =
      sym (tagged 0 t (omega arith) ∙ rw (read_yes s 6 (at + 2) (omega arith) (omega (arith, e))) (sym here))
    where
      here : Variable (x / 2 ^ 56 % 64) (record { at = at + 8 }) ≡ Variable (bits_at s (at + 2) 6) (record { at = at + 2 + 6 })
      here = ap₂ (λ (n k : ℕ). Variable n (record { at = k })) (v.field 2 6 (omega arith)) (omega arith)

  pub symbol_short : x / 2 ^ 62 % 4 ≡ 1 → room < at + 10 → Missing ≡ header_at book s at
  unfolding by_tag symbol_at on_taken
  symbol_short t l = short 1 10 t l (λ h. rw (read_past s 8 (at + 2) (omega (arith, e))) refl)

  pub symbol_whole : (n : ℕ) → x / 2 ^ 62 % 4 ≡ 1 → at + 10 ≤ room → n ≡ arities book (x / 2 ^ 54 % 256)
      → Symbol (x / 2 ^ 54 % 256) n (record { at = at + 10 }) ≡ header_at book s at
  unfolding by_tag symbol_at on_taken
  symbol_whole n t l a =
      sym (tagged 1 t (omega arith) ∙ rw (read_yes s 8 (at + 2) (omega arith) (omega (arith, e))) (sym here))
    where
      here : Symbol (x / 2 ^ 54 % 256) n (record { at = at + 10 }) ≡ Symbol (bits_at s (at + 2) 8) (arities book (bits_at s (at + 2) 8)) (record { at = at + 2 + 8 })
      here =
          ap₂ (λ (m k : ℕ). Symbol (x / 2 ^ 54 % 256) m (record { at = k })) a (omega arith)
          ∙ ap (λ (f : ℕ). Symbol f (arities book f) (record { at = at + 2 + 8 })) (v.field 2 8 (omega arith))

  pub power_short : x / 2 ^ 62 % 4 ≡ 2 → room < at + 34 → Missing ≡ header_at book s at
  unfolding by_tag power_at on_taken
  power_short t l = short 2 34 t l (λ h. ⊎_elim (λ k. rw (read_past s 8 (at + 2) (omega (arith, e))) refl) by_symbol (lt_or_ge room (at + 2 + 8)))
    where
      by_symbol : at + 2 + 8 ≤ room → by_tag book s 2 (at + 2) ≡ Missing
      by_symbol h =
          rw (read_yes s 8 (at + 2) (omega arith) (omega (arith, e)))
          (⊎_elim
          (λ k. rw (read_past s 12 (at + 2 + 8) (omega (arith, e))) refl)
          (λ k. rw (read_yes s 12 (at + 2 + 8) (omega arith) (omega (arith, e)), read_past s 12 (at + 2 + 8 + 12) (omega (arith, e))) refl)
          (lt_or_ge room (at + 2 + 8 + 12)))

  pub power_whole : x / 2 ^ 62 % 4 ≡ 2 → at + 34 ≤ room
      → Power (x / 2 ^ 54 % 256) (x / 2 ^ 42 % 4096) (x / 2 ^ 30 % 4096) (record { at = at + 34 }) ≡ header_at book s at
  unfolding by_tag power_at on_taken
  power_whole t l =
      sym
      (tagged 2 t (omega arith)
      ∙ rw (
        read_yes s 8 (at + 2) (omega arith) (omega (arith, e)),
        read_yes s 12 (at + 2 + 8) (omega arith) (omega (arith, e)),
        read_yes s 12 (at + 2 + 8 + 12) (omega arith) (omega (arith, e)),
      )
      (sym here))
    where
      b_at : at + 22 ≡ at + 2 + 8 + 12
      b_at = omega arith

      a_at : at + 10 ≡ at + 2 + 8
      a_at = omega arith

      here : Power (x / 2 ^ 54 % 256) (x / 2 ^ 42 % 4096) (x / 2 ^ 30 % 4096) (record { at = at + 34 })
          ≡ Power (bits_at s (at + 2) 8) (bits_at s (at + 2 + 8) 12) (bits_at s (at + 2 + 8 + 12) 12) (record { at = at + 2 + 8 + 12 + 12 })
      here =
          ap₂ (λ (f k : ℕ). Power f (x / 2 ^ 42 % 4096) (x / 2 ^ 30 % 4096) (record { at = k })) (v.field 2 8 (omega arith)) (omega arith)
          ∙ ap₂ (λ (a b : ℕ). Power (bits_at s (at + 2) 8) a b (record { at = at + 2 + 8 + 12 + 12 }))
          (v.field 10 12 (omega arith) ∙ ap (λ (n : ℕ). bits_at s n 12) a_at)
          (v.field 22 12 (omega arith) ∙ ap (λ (n : ℕ). bits_at s n 12) b_at)

  pub no_kind : ¬ (x / 2 ^ 62 % 4 ≡ 0) → ¬ (x / 2 ^ 62 % 4 ≡ 1) → ¬ (x / 2 ^ 62 % 4 ≡ 2) → Missing ≡ header_at book s at
  unfolding by_tag
  no_kind a b c =
      ⊎_elim no_tag (λ h. sym (tagged _ refl h ∙ rw (ne_eqb (x / 2 ^ 62 % 4) 0 a, ne_eqb (x / 2 ^ 62 % 4) 1 b, ne_eqb (x / 2 ^ 62 % 4) 2 c) refl)) (lt_or_ge room (at + 2))

-- ---- small numbers

-- a and b have 12 bits
unfoldable pub SmallHeader : Header → Type 0
SmallHeader (Variable x c) = Unit {0}
SmallHeader (Symbol f n c) = Unit {0}
SmallHeader (Power f a b c) = (a < 4096) × (b < 4096)
SmallHeader Missing = Unit {0}

-- what holds of every header that a field of w bits leads to, and of a missing one
of_field : (P : Header → Type 0) → P Missing → (s : List ℕ) (w at : ℕ) (next : ℕ → Cursor → Header) → ((v : ℕ) (c : Cursor) → v < 2 ^ w → P (next v c))
    → P (on_taken (read_field s w at) next)
unfolding on_taken
of_field P missing s w at next h = go (read_field s w at) (λ v c e. subst (λ x. x < 2 ^ w) (read_got s w at v c e).0 (bits_lt s at w))
  where
    go : (r : Taken) → ((v : ℕ) (c : Cursor) → r ≡ Some (v, c) → v < 2 ^ w) → P (on_taken r next)
    go (Some (v, c)) k = h v c (k v c refl)
    go None k = missing

either : (P : Header → Type 0) (b : Bool) (h k : Header) → P h → P k → P (cond b h k)
either P true h k p q = p
either P false h k p q = q

-- and of the header at a bit, if it holds of one by each tag
of_header : (P : Header → Type 0) → P Missing → (book s : List ℕ) (at : ℕ) → ((k : ℕ) → P (variable_at s k)) → ((k : ℕ) → P (symbol_at book s k))
    → ((k : ℕ) → P (power_at s k)) → P (header_at book s at)
unfolding header_at by_tag
of_header P missing book s at x f g =
    of_field P missing s 2 at _ λ tag c _. either P (eqb tag 0) _ _ (x c.at)
    (either P (eqb tag 1) _ _ (f c.at) (either P (eqb tag 2) _ _ (g c.at) missing))

pub header_small : (book s : List ℕ) (at : ℕ) → SmallHeader (header_at book s at)
unfolding variable_at symbol_at power_at SmallHeader
header_small book s at =
    of_header SmallHeader tt book s at (λ k. of_field SmallHeader tt s 6 k _ λ x d _. tt) (λ k. of_field SmallHeader tt s 8 k _ λ f d _. tt)
    (λ k. of_field SmallHeader tt s 8 k _ λ f d _. of_field SmallHeader tt s 12 d.at _ λ a e p. of_field SmallHeader tt s 12 e.at _ λ b g q. (p, q))

pub header_named : (book s : List ℕ) (at : ℕ) → Named (header_at book s at)
unfolding variable_at symbol_at power_at Named
header_named book s at =
    of_header Named tt book s at (λ k. of_field Named tt s 6 k _ λ x d p. p) (λ k. of_field Named tt s 8 k _ λ f d _. tt)
    (λ k. of_field Named tt s 8 k _ λ f d _. of_field Named tt s 12 d.at _ λ a e _. of_field Named tt s 12 e.at _ λ b g _. tt)

-- The power of a node: its symbol, and its two numbers, in one view.
use Rattle.std.specs.Prelude.{Ok, Err}
use Prim.Native.Nat.{ℕ, ◌+◌, ◌/◌, ◌%◌, ◌^◌, ◌<◌, ◌≤◌}
use mathlib.Core.Path.{◌≡◌, refl, sym, subst}
use mathlib.Core.Logic.{◌≢◌}
use mathlib.Core.List.{List}
use mathlib.Core.Option.{none, some}
use native.Mathlib.Omega.{arith}
use borrow.Author.Tests.{eq-eqb, ne_eqb}
use Rattle.bits.specs.Bits.{room_of}
use Rattle.bits.specs.View.{Views}
use Rattle.fields.specs.Kinds.{from_to, unary, beside, test, InRange, Unnormal, Spent}
use Rattle.fields.specs.Kinds.{FieldKind as kind}
use Rattle.fields.specs.Grammar.{field}
use Rattle.fields.proofs.Ranges.{between_high, between_ok, passes_exactly, unnormal_exactly}
use Rattle.grammar.specs.Terms.{a_unary, an_exponent, a_raise, a_raised}
use Rattle.terms.specs.Values.{left_of, first_of}
use Rattle.terms.specs.declared.heads.Head.TheVariants.{Raised}
use Rattle.scans.specs.Glance.{Scans}
use Rattle.scans.specs.Headings.{PowerAt}
use Rattle.scans.specs.Headings.{Heading as heading}
use Rattle.scans.proofs.Seqs.{seq_no, seq_on, seq_at, seq_last, scan_done}
use Rattle.scans.proofs.Taking.{field_past, field_refused, field_in, packed_past}
use Rattle.scans.proofs.Headings.{at_bit, view_field}

-- ---- a and b together are 24 bits

both_zero : (x : ℕ) → x / 2 ^ 30 % 16777216 ≡ 0 → (x / 2 ^ 42 % 4096 ≡ 0) × (x / 2 ^ 30 % 4096 ≡ 0)
both_zero x h = (omega arith, omega arith)

zero_both : (y : ℕ) → y / 4096 % 4096 ≡ 0 → y % 4096 ≡ 0 → y % 16777216 ≡ 0
zero_both y a b = omega arith

not_both : (x : ℕ) → x / 2 ^ 30 % 16777216 ≢ 0 → x / 2 ^ 42 % 4096 ≡ 0 → x / 2 ^ 30 % 4096 ≢ 0
not_both x h a b =
    let e : x / 2 ^ 42 ≡ x / 2 ^ 30 / 4096 = omega arith in
    h (zero_both (x / 2 ^ 30) (omega (arith, a, e)) b)

beside_in : (a b : ℕ) → (a ≡ 0 → b ≢ 0) → test (beside a) b ≡ none
unfolding InRange Unnormal Spent
beside_in a b h = (passes_exactly (beside a) b).1 ((λ z. z), tt, (λ z. h z.0 z.1))

beside_zero : (a b : ℕ) → (a ≡ 0) × (b ≡ 0) → test (beside a) b ≡ some 5
unfolding InRange Unnormal Spent
beside_zero a b h = (unnormal_exactly (beside a) b).1 ((λ z. z), tt, h)

-- ---- the fields of the power, one after the other

-- the symbol is passed
symbol_in : (ar : ℕ → ℕ) (above : ℕ) {x at left n : ℕ} → n ≡ ar (x / 2 ^ 54 % 256) → 10 ≤ left → n ≡ 1 → x / 2 ^ 54 % 256 ≢ above
    → (s : List ℕ) → Views s at x → at + left ≡ room_of s
    → Scans s (a_unary ar above) (record { at = at + 2 }) (λ v. v) (Ok (x / 2 ^ 54 % 256, record { at = at + 10 }))
unfolding a_unary
symbol_in ar above {x} {at} {left} {n} found room one unlike s view e =
    field_in s kind.power_symbol (unary ar above) _ refl (x / 2 ^ 54 % 256) (view_field s view 2 8 (omega arith) (omega arith) (omega arith))
    (rw (← found, eq-eqb n 1 one, ne_eqb (x / 2 ^ 54 % 256) above unlike)) refl (at_bit {n = at + 10} (omega arith))

-- a is passed
a_in : (end : ℕ) {x at left : ℕ} → 22 ≤ left → x / 2 ^ 42 % 4096 < end → (s : List ℕ) → Views s at x → at + left ≡ room_of s
    → Scans s (field kind.power_a (from_to 0 end)) (record { at = at + 10 }) (λ v. v) (Ok (x / 2 ^ 42 % 4096, record { at = at + 22 }))
a_in end {x} {at} room low s view e =
    field_in s kind.power_a (from_to 0 end) _ refl (x / 2 ^ 42 % 4096) (view_field s view 10 12 (omega arith) (omega arith) (omega arith))
    (between_ok 0 end 4 _ (omega arith) low) refl (at_bit {n = at + 22} (omega arith))

module _ (ar : ℕ → ℕ) {end above x at left : ℕ} where
  pub power_past : left < 10 → PowerAt ar end above x at left (Err (3, record { at = at + 2 }))
  unfolding a_raised a_raise a_unary
  power_past h = record {
    told = λ s view e term rest.
        heading.refused
        (seq_no (seq_no (field_past s kind.power_symbol (unary ar above) _ {val = λ v. v} refl (packed_past s 8 (at + 2) (omega arith))) _ {val₂ = first_of} refl)
        _ refl);
  }

  module _ {n : ℕ} (found : n ≡ ar (x / 2 ^ 54 % 256)) (room : 10 ≤ left) where
    symbol_refused : (m : ℕ) → test (unary ar above) (x / 2 ^ 54 % 256) ≡ some m → PowerAt ar end above x at left (Err (m, record { at = at + 2 }))
    unfolding a_raised a_raise a_unary
    symbol_refused m t = record {
      told = λ s view e term rest.
          heading.refused
          (seq_no
          (seq_no
          (field_refused s kind.power_symbol (unary ar above) _ {val = λ v. v} refl (x / 2 ^ 54 % 256)
          (view_field s view 2 8 (omega arith) (omega arith) (omega arith)) m t)
          _ {val₂ = first_of} refl)
          _ refl);
    }

    pub power_not : n ≢ 1 → PowerAt ar end above x at left (Err (4, record { at = at + 2 }))
    power_not h = symbol_refused 4 (rw (← found, ne_eqb n 1 h))

    pub power_like : n ≡ 1 → x / 2 ^ 54 % 256 ≡ above → PowerAt ar end above x at left (Err (5, record { at = at + 2 }))
    power_like h k = symbol_refused 5 (rw (← found, eq-eqb n 1 h, eq-eqb (x / 2 ^ 54 % 256) above k))

    module _ (one : n ≡ 1) (unlike : x / 2 ^ 54 % 256 ≢ above) where
      pub power_a_past : left < 22 → PowerAt ar end above x at left (Err (3, record { at = at + 10 }))
      unfolding a_raised a_raise an_exponent
      power_a_past h = record {
        told = λ s view e term rest.
            heading.refused
            (seq_no
            (seq_at _ (symbol_in ar above found room one unlike s view e) refl
            (seq_no
            (seq_no (field_past s kind.power_a (from_to 0 end) _ {val = λ v. v} refl (packed_past s 12 (at + 10) (omega arith))) _ {val₂ = first_of} refl)
            _ {val₂ = first_of} refl))
            _ refl);
      }

      module _ (room₁ : 22 ≤ left) where
        pub power_a_high : end ≤ x / 2 ^ 42 % 4096 → PowerAt ar end above x at left (Err (4, record { at = at + 10 }))
        unfolding a_raised a_raise an_exponent
        power_a_high h = record {
          told = λ s view e term rest.
              heading.refused
              (seq_no
              (seq_at _ (symbol_in ar above found room one unlike s view e) refl
              (seq_no
              (seq_no
              (field_refused s kind.power_a (from_to 0 end) _ {val = λ v. v} refl (x / 2 ^ 42 % 4096)
              (view_field s view 10 12 (omega arith) (omega arith) (omega arith)) 4 (between_high 0 end 4 _ (omega arith) h))
              _ {val₂ = first_of} refl)
              _ {val₂ = first_of} refl))
              _ refl);
        }

        module _ (low : x / 2 ^ 42 % 4096 < end) where
          pub power_b_past : left < 34 → PowerAt ar end above x at left (Err (3, record { at = at + 22 }))
          unfolding a_raised a_raise an_exponent
          power_b_past h = record {
            told = λ s view e term rest.
                heading.refused
                (seq_no
                (seq_at _ (symbol_in ar above found room one unlike s view e) refl
                (seq_no
                (seq_at _ (a_in end room₁ low s view e) refl
                (seq_no (field_past s kind.power_b (beside _) _ {val = λ v. v} refl (packed_past s 12 (at + 22) (omega arith))) _ {val₂ = first_of} refl))
                _ {val₂ = first_of} refl))
                _ refl);
          }

          module _ (room₂ : 34 ≤ left) where
            pub power_zero : x / 2 ^ 30 % 16777216 ≡ 0 → PowerAt ar end above x at left (Err (5, record { at = at + 22 }))
            unfolding a_raised a_raise an_exponent
            power_zero h = record {
              told = λ s view e term rest.
                  heading.refused
                  (seq_no
                  (seq_at _ (symbol_in ar above found room one unlike s view e) refl
                  (seq_no
                  (seq_at _ (a_in end room₁ low s view e) refl
                  (seq_no
                  (field_refused s kind.power_b (beside _) _ {val = λ v. v} refl (x / 2 ^ 30 % 4096)
                  (view_field s view 22 12 (omega arith) (omega arith) (omega arith)) 5 (beside_zero _ _ (both_zero x h)))
                  _ {val₂ = first_of} refl))
                  _ {val₂ = first_of} refl))
                  _ refl);
            }

            pub power_in : x / 2 ^ 30 % 16777216 ≢ 0 → PowerAt ar end above x at left (Ok (Raised (x / 2 ^ 54 % 256), record { at = at + 34 }))
            unfolding a_raised a_raise an_exponent
            power_in h = record {
              told = λ s view e term rest.
                  heading.raised
                  (λ y below.
                  seq_on
                  (seq_at _ {val₂ = first_of} (symbol_in ar above found room one unlike s view e) refl
                  (seq_on
                  (seq_at _ {val₂ = first_of} (a_in end room₁ low s view e) refl
                  (seq_on
                  (field_in s kind.power_b (beside _) _ {val = λ v. v} refl (x / 2 ^ 30 % 4096)
                  (view_field s view 22 12 (omega arith) (omega arith) (omega arith)) (beside_in _ _ (not_both x h)) refl
                  (at_bit {n = at + 34} (omega arith)))
                  _ refl (λ b q. scan_done _ _)))
                  _ refl (λ b q. scan_done _ _)))
                  _ refl (λ p q. seq_last _ (λ g. refl) (subst (λ j. Scans s (term j rest) (record { at = at + 34 }) left_of y) (sym q) below)));
            }

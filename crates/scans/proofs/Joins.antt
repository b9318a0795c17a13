-- The walk by bits and the run of a grammar over a file's bytes come to the same tree or refusal, at the same bit.
use Rattle.std.specs.Prelude.{Ok, Err}
use Prim.Native.Nat.{ℕ, ◌+◌, ◌^◌, ◌<◌, ◌≤◌}
use mathlib.Core.Path.{◌≡◌, refl, sym, ap, ◌∙◌}
use mathlib.Core.List.{List, []}
use mathlib.Core.Bool.{false}
use mathlib.Core.Option.{Option, none, some}
use native.Mathlib.Omega.{arith}
use native.Mathlib.Decide.{dec_lt}
use Rattle.bits.specs.declared.Cursor.{Cursor}
use Rattle.fields.specs.declared.Walker.{Walker}
use Rattle.fields.specs.Source.{Field}
use Rattle.fields.specs.Source.{source, field_at, packed_field, moved, start}
use Rattle.fields.specs.Kinds.{FieldKind, bits, test}
use Rattle.fields.specs.Kinds.{FieldKind as kind}
use Rattle.fields.specs.Grammar.{Grammar, done, ask, on_field, tested, Outcome, outcome}
use Rattle.fields.proofs.Sources.{field_many, field_far, field_packed}
use Rattle.scans.specs.Glance.{Glance, first_bit, field_in_bytes, glance}
use Rattle.scans.proofs.Taking.{packed_past}

-- every field has at least one bit, and none more than 12
bits_some : (k : FieldKind) → (1 ≤ bits k) × (bits k ≤ 12)
bits_some kind.symbol_count = (omega arith, omega arith)
bits_some kind.arity = (omega arith, omega arith)
bits_some kind.rule_count = (omega arith, omega arith)
bits_some kind.call_count = (omega arith, omega arith)
bits_some kind.tag = (omega arith, omega arith)
bits_some kind.variable = (omega arith, omega arith)
bits_some kind.symbol = (omega arith, omega arith)
bits_some kind.power_symbol = (omega arith, omega arith)
bits_some kind.power_a = (omega arith, omega arith)
bits_some kind.power_b = (omega arith, omega arith)
bits_some kind.line_count = (omega arith, omega arith)
bits_some kind.line_kind = (omega arith, omega arith)
bits_some kind.right_bit = (omega arith, omega arith)
bits_some kind.rule = (omega arith, omega arith)
bits_some kind.stop_number = (omega arith, omega arith)
bits_some kind.use_bit = (omega arith, omega arith)
bits_some kind.used_line = (omega arith, omega arith)
bits_some kind.index_i = (omega arith, omega arith)
bits_some kind.index_j = (omega arith, omega arith)
bits_some kind.filling_count = (omega arith, omega arith)
bits_some kind.filled_variable = (omega arith, omega arith)
bits_some kind.named_line = (omega arith, omega arith)
bits_some kind.step_k = (omega arith, omega arith)
bits_some kind.start_α = (omega arith, omega arith)

-- where the number of fields keeps a walker from reading on, there are no more bits either
same_field : (s : List ℕ) (k : FieldKind) (c : Walker) → c.listed ≡ false → c.n ≤ c.bit
    → field_at s [] (bits k) c ≡ packed_field s (bits k) c.bit
unfolding packed_field
same_field s k c b h = go (dec_lt c.bit (2 ^ 32))
  where
    some : 1 ≤ bits k
    some = (bits_some k).0

    few : bits k ≤ 16
    few = omega (arith, (bits_some k).1)

    far : 2 ^ 32 ≤ c.bit → field_at s [] (bits k) c ≡ Err 3
    far j = many (dec_lt c.n (2 ^ 32))
      where
        many : Dec (c.n < 2 ^ 32) → field_at s [] (bits k) c ≡ Err 3
        many (yes n) = field_far s [] (bits k) c few n j
        many (no n) = field_many s [] (bits k) c few (omega arith)

    go : Dec (c.bit < 2 ^ 32) → field_at s [] (bits k) c ≡ packed_field s (bits k) c.bit
    go (yes j) = field_packed s [] (bits k) c few (omega arith) j b _ refl
    go (no j) = far (omega arith) ∙ sym (packed_past s (bits k) c.bit (omega (arith, some)))

-- an outcome with the number of fields left out
unfoldable pub uncounted : {A : Type 0} → Outcome A → Glance A
uncounted (Outcome.ok a d) = Glance.ok a (record { at = d.bit })
uncounted (Outcome.no m d) = Glance.no m (record { at = d.bit })

module _ (s : List ℕ) where
  pub same_outcome : {A : Type 0} (p : Grammar A) (c : Walker) → c.listed ≡ false → c.n ≤ c.bit
      → uncounted (outcome (source s []) p c) ≡ glance s p (record { at = c.bit })
  unfolding outcome glance uncounted
  same_outcome (done a) c b h = refl
  same_outcome {A} (ask k r next) c b h =
      rw (same_field s k c b h)
      (go (λ v. same_outcome (next v) (moved (bits k) c) b (omega (arith, (bits_some k).0))) (field_in_bytes s k r (record { at = c.bit })))
    where
      under : (v : ℕ) → uncounted (outcome (source s []) (next v) (moved (bits k) c)) ≡ glance s (next v) (record { at = c.bit + bits k })
          → (o : Option ℕ)
          → uncounted (tested o (outcome (source s []) (next v) (moved (bits k) c)) (λ m. Outcome.no m c))
          ≡ tested o (glance s (next v) (record { at = c.bit + bits k })) (λ m. Glance.no m (record { at = c.bit }))
      under v e none = e
      under v e (some m) = refl

      go : ((v : ℕ) → uncounted (outcome (source s []) (next v) (moved (bits k) c)) ≡ glance s (next v) (record { at = c.bit + bits k }))
          → (f : Field)
          → uncounted (on_field f (λ v. tested (test r v) (outcome (source s []) (next v) (moved (bits k) c)) (λ m. Outcome.no m c)) (λ m. Outcome.no m c))
          ≡ on_field f (λ v. tested (test r v) (glance s (next v) (record { at = c.bit + bits k })) (λ m. Glance.no m (record { at = c.bit })))
          (λ m. Glance.no m (record { at = c.bit }))
      go ih (Ok v) = under v (ih v) (test r v)
      go ih (Err m) = refl

-- ---- a whole file, from its first bit on

pub from_first : {A : Type 0} (s : List ℕ) (p : Grammar A) → uncounted (outcome (source s []) p (start false)) ≡ glance s p first_bit
from_first s p = same_outcome s p (start false) refl (omega arith)

-- what was found by bits was found by fields
pub found_at : {A : Type 0} (s : List ℕ) (p : Grammar A) (c : Cursor) {d : Cursor} {a : A} → glance s p c ≡ Glance.ok a d
    → (w : Walker) × (outcome (source s []) p (record { bit = c.at; n = 0; listed = false }) ≡ Outcome.ok a w)
found_at {A} s p c {d} {a} e =
    go (outcome (source s []) p (record { bit = c.at; n = 0; listed = false })) refl
    (same_outcome s p (record { bit = c.at; n = 0; listed = false }) refl (omega arith) ∙ e)
  where
    same : (b : A) (w : Walker) → uncounted (Outcome.ok b w) ≡ Glance.ok a d → b ≡ a
    same b w q = unfold uncounted in cc q

    never : (m : ℕ) (w : Walker) → uncounted {A = A} (Outcome.no m w) ≡ Glance.ok a d → ⊥
    never m w q = let z : ◌≡◌ {A = ℕ} 0 1 = unfold uncounted in cc q in omega arith

    go : (o : Outcome A) → outcome (source s []) p (record { bit = c.at; n = 0; listed = false }) ≡ o → uncounted o ≡ Glance.ok a d
        → (w : Walker) × (outcome (source s []) p (record { bit = c.at; n = 0; listed = false }) ≡ Outcome.ok a w)
    go (Outcome.ok b w) g q = (w, g ∙ ap (λ x. Outcome.ok x w) (same b w q))
    go (Outcome.no m w) g q = absurd (never m w q)

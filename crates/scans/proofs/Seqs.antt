-- One walk after the other: what the code's two calls come to for `bind`.
use Rattle.std.specs.Prelude.{Ok, Err}
use mathlib.Core.Path.{◌≡◌, refl, sym, ap, ◌∙◌, subst}
use mathlib.Core.List.{List}
use mathlib.Core.Option.{Option, none, some}
use Prim.Native.Nat.{ℕ}
use native.Mathlib.Omega.{arith}
use Rattle.bits.specs.declared.Cursor.{Cursor}
use Rattle.fields.specs.Source.{Field}
use Rattle.fields.specs.Kinds.{FieldKind, Range, test}
use Rattle.fields.specs.Grammar.{Grammar, done, ask, bind, on_field, tested}
use Rattle.scans.specs.Glance.{Scan}
use Rattle.scans.specs.Glance.{Glance, past, field_in_bytes, glance, glanced, Scans}
use Rattle.scans.specs.Glance.Glance.{ok, no}

-- ---- a walk over `bind`

module _ {A B : Type 0} (s : List ℕ) (f : A → Grammar B) where
  unfoldable pub go_on : Glance A → Glance B
  go_on (ok a d) = glance s (f a) d
  go_on (no m d) = no m d

  ask_bind : (k : FieldKind) (r : Range) (next : ℕ → Grammar A) (c : Cursor)
      → ((v : ℕ) (d : Cursor) → glance s (bind (next v) f) d ≡ go_on (glance s (next v) d))
      → (x : Field)
      → on_field x (λ v. tested (test r v) (glance s (bind (next v) f) (past k c)) (λ m. no m c)) (λ m. no m c)
      ≡ go_on (on_field x (λ v. tested (test r v) (glance s (next v) (past k c)) (λ m. no m c)) (λ m. no m c))
  unfolding go_on
  ask_bind k r next c ih (Err m) = refl
  ask_bind k r next c ih (Ok v) = under (test r v)
    where
      under : (o : Option ℕ)
          → tested o (glance s (bind (next v) f) (past k c)) (λ m. no m c)
          ≡ go_on (tested o (glance s (next v) (past k c)) (λ m. no m c))
      under none = ih v (past k c)
      under (some m) = refl

  pub glance_bind : (p : Grammar A) (c : Cursor) → glance s (bind p f) c ≡ go_on (glance s p c)
  unfolding glance bind go_on
  glance_bind (done a) c = refl
  glance_bind (ask k r next) c = ask_bind k r next c (λ v d. glance_bind (next v) d) (field_in_bytes s k r c)

-- ---- what the code shows of a glance

module _ {A : Type 0} (val : A → ℕ) (d : Cursor) where
  shown_on : (x : Glance A) (v : ℕ) → ◌≡◌ {A = Scan} (Ok (v, d)) (glanced val x) → (a : A) × (val a ≡ v) × (x ≡ ok a d)
  shown_on (ok a c) v p =
      let t : ◌≡◌ {A = ℕ × Cursor} (v, d) (val a, c) = cc p in
      (a, sym (ap (λ (u : ℕ × Cursor). u.0) t), λ i. ok a (sym (ap (λ (u : ℕ × Cursor). u.1) t) i))
  shown_on (no m c) v p = let z : ◌≡◌ {A = ℕ} 0 1 = cc p in absurd (omega arith)

  shown_no : (x : Glance A) (m : ℕ) → ◌≡◌ {A = Scan} (Err (m, d)) (glanced val x) → x ≡ no m d
  shown_no (ok a c) m p = let z : ◌≡◌ {A = ℕ} 0 1 = cc p in absurd (omega arith)
  shown_no (no k c) m p =
      let t : ◌≡◌ {A = ℕ × Cursor} (m, d) (k, c) = cc p in
      λ i. no (sym (ap (λ (u : ℕ × Cursor). u.0) t) i) (sym (ap (λ (u : ℕ × Cursor). u.1) t) i)

-- ---- two walks

module _ {A : Type 0} {s : List ℕ} {p : Grammar A} {c : Cursor} {val : A → ℕ} {r : Scan} (first : Scans s p c val r) where
  -- what was found, where the first walk went on
  pub found : {v : ℕ} {d : Cursor} → r ≡ Ok (v, d) → (a : A) × (val a ≡ v) × (glance s p c ≡ ok a d)
  found {v} {d} e = shown_on val d (glance s p c) v (sym e ∙ first.told)

  pub refused : {m : ℕ} {d : Cursor} → r ≡ Err (m, d) → glance s p c ≡ no m d
  refused {m} {d} e = shown_no val d (glance s p c) m (sym e ∙ first.told)

  -- it was refused: so is the whole
  pub seq_no : {B : Type 0} (f : A → Grammar B) {val₂ : B → ℕ} {m : ℕ} {d : Cursor} → r ≡ Err (m, d) → Scans s (bind p f) c val₂ (Err (m, d))
  unfolding go_on
  seq_no f {val₂} e = record { told = ap (glanced val₂) (sym (glance_bind s f p c ∙ ap (go_on s f) (refused e))) }

  -- it went on: the whole is the second walk over what was found
  pub seq_found : {B : Type 0} (f : A → Grammar B) {val₂ : B → ℕ} {v : ℕ} {d : Cursor} {r₂ : Scan} → r ≡ Ok (v, d)
      → ((a : A) → val a ≡ v → glance s p c ≡ ok a d → Scans s (f a) d val₂ r₂) → Scans s (bind p f) c val₂ r₂
  unfolding go_on
  seq_found f {val₂} e second =
      let a = found e in
      record {
        told = (second a.0 a.1 a.2).told ∙ ap (glanced val₂) (sym (glance_bind s f p c ∙ ap (go_on s f) a.2));
      }

  -- of what was found only a number need be known
  pub seq_on : {B : Type 0} (f : A → Grammar B) {val₂ : B → ℕ} {v : ℕ} {d : Cursor} {r₂ : Scan} → r ≡ Ok (v, d)
      → ((a : A) → val a ≡ v → Scans s (f a) d val₂ r₂) → Scans s (bind p f) c val₂ r₂
  seq_on f e second = seq_found f e (λ a q g. second a q)

-- a number that was found is known
pub seq_at : {B : Type 0} {s : List ℕ} {p : Grammar ℕ} (f : ℕ → Grammar B) {c d : Cursor} {val₂ : B → ℕ} {r r₂ : Scan} {v : ℕ}
    → Scans s p c (λ v. v) r → r ≡ Ok (v, d) → Scans s (f v) d val₂ r₂ → Scans s (bind p f) c val₂ r₂
seq_at {s = s} f {d = d} {val₂ = val₂} {r₂ = r₂} first e second =
    seq_on first f e (λ a q. subst (λ x. Scans s (f x) d val₂ r₂) (sym q) second)

-- ---- the end of a walk

module _ {A B : Type 0} (s : List ℕ) (h : A → B) (val : A → ℕ) (val₂ : B → ℕ) (same : (a : A) → val₂ (h a) ≡ val a) where
  shown_last : (x : Glance A) → glanced val₂ (go_on s (λ a. done (h a)) x) ≡ glanced val x
  unfolding go_on glance
  shown_last (ok a d) = ap (λ (v : ℕ). Ok (v, d)) (same a)
  shown_last (no m d) = refl

  last_same : (p : Grammar A) (c : Cursor) → glanced val₂ (glance s (bind p (λ a. done (h a))) c) ≡ glanced val (glance s p c)
  last_same p c = ap (glanced val₂) (glance_bind s (λ a. done (h a)) p c) ∙ shown_last (glance s p c)

-- a tree is put together, with the same number
module _ {A B : Type 0} {s : List ℕ} {p : Grammar A} (h : A → B) {c : Cursor} {val : A → ℕ} {val₂ : B → ℕ} {r : Scan} (same : (a : A) → val₂ (h a) ≡ val a) where
  pub seq_last : Scans s p c val r → Scans s (bind p (λ a. done (h a))) c val₂ r
  seq_last first = record { told = first.told ∙ sym (last_same s h val val₂ same p c) }

-- nothing is left to read
pub scan_done : {A : Type 0} {s : List ℕ} {val : A → ℕ} (a : A) (c : Cursor) → Scans s (done a) c val (Ok (val a, c))
unfolding glance
scan_done a c = record { told = refl }

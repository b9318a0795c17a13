-- A walk by bits alone: what a grammar finds in a file's bytes from a cursor on. Nothing is counted, and nothing is handed out.
use Rattle.std.specs.Prelude.{ℕ, ◌+◌, ◌≡◌, List, cond, Result, Ok, Err}
use Rattle.bits.specs.declared.Cursor.{Cursor}
use Rattle.fields.specs.Source.{Field}
use Rattle.fields.specs.Source.{packed_field}
use Rattle.fields.specs.Kinds.{FieldKind, Range, bits, test, spent}
use Rattle.fields.specs.Grammar.{Grammar, done, ask, on_field, tested}

-- a tree and the cursor past it, or the number of the first refusal and the cursor where it is given
pub data Glance (A : Type 0) : Type 0 where
  ok : A → Cursor → Glance A
  no : ℕ → Cursor → Glance A

-- what the code tells: a value and the cursor past it, or the number of a refusal and the cursor where it is given
abbrev pub Scan : Type 0
Scan = Result (ℕ × Cursor) (ℕ × Cursor)

-- at a file's first bit
abbrev pub first_bit : Cursor
first_bit = record { at = 0 }

-- the cursor past a field
abbrev pub past : FieldKind → Cursor → Cursor
past k c = record { at = c.at + bits k }

-- what the bytes have at a cursor for a field; 6 is "found before its tag is read"
abbrev pub field_in_bytes : List ℕ → FieldKind → Range → Cursor → Field
field_in_bytes s k r c = cond (spent r) (Err 6) (packed_field s (bits k) c.at)

unfoldable pub glance : {A : Type 0} → List ℕ → Grammar A → Cursor → Glance A
glance s (done a) c = ok a c
glance s (ask k r next) c =
    on_field (field_in_bytes s k r c) (λ v. tested (test r v) (glance s (next v) (past k c)) (λ m. no m c)) (λ m. no m c)

-- what the code shows of it: of a tree only a number
abbrev pub glanced : {A : Type 0} → (A → ℕ) → Glance A → Scan
glanced val (ok a d) = Ok (val a, d)
glanced val (no m d) = Err (m, d)

-- a walk over p that began at c came to r
pub record Scans {A : Type 0} (s : List ℕ) (p : Grammar A) (c : Cursor) (val : A → ℕ) (r : Scan) : Type 0 where
  pub told : r ≡ glanced val (glance s p c)

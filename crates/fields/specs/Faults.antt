-- The first fault of a file, told by the fields that stand in it and not by a run. 01, "Refusal numbers", 3 to 7.
use Rattle.std.specs.Prelude.{ℕ, ◌+◌, ◌*◌, ◌^◌, ◌≤◌, ◌<◌, ◌≡◌, ◌≢◌, List, [], ◌∷◌, map, length, take, get_or}
use Rattle.bits.specs.Bits.{bits_at}
use Rattle.bits.specs.Packed.{width, packed, Reads}
use Rattle.fields.specs.Kinds.{FieldKind, bits, Range, InRange, Unnormal, Spent}
use Rattle.fields.specs.Grammar.{Grammar, done, ask}

-- a value keeps the rule of its field
pub record Keeps (k : FieldKind) (r : Range) (v : ℕ) : Type 0 where
  pub narrow : v < 2 ^ bits k
  pub allowed : ¬ (Spent r)
  pub ranged : InRange r v
  pub normal : ¬ (Unnormal r v)

-- the fields, each a width and a value, are the first that p asks for, and each keeps its rule; q is what p asks for then
pub data Led {A : Type 0} : Grammar A → List (ℕ × ℕ) → Grammar A → Type 0 where
  here : {p : Grammar A} → Led p [] p
  past : {k : FieldKind} {r : Range} {next : ℕ → Grammar A} {v : ℕ} {fs : List (ℕ × ℕ)} {q : Grammar A} → Keeps k r v
      → Led (next v) fs q → Led (ask k r next) ((bits k, v) ∷ fs) q

-- ---- a file in bytes

-- such fields stand in the bytes one after the other, from bit 0 up to a place; q is what is asked for there
pub record Reached {A : Type 0} (s : List ℕ) (p : Grammar A) (place : ℕ) (q : Grammar A) : Type 0 where
  pub fields : List (ℕ × ℕ)
  pub led : Led p fields q
  pub stand : Reads s 0 fields
  pub ends : place ≡ width fields
  pub inside : place ≤ 8 * length s

pub data Fault {A : Type 0} (s : List ℕ) (p : Grammar A) (number place : ℕ) : Type 0 where
  -- "a field begins or runs past the end"
  past_end : {k : FieldKind} {r : Range} {next : ℕ → Grammar A} → Reached s p place (ask k r next) → ¬ (Spent r)
      → 8 * length s < place + bits k → number ≡ 3 → Fault s p number place
  -- "a field is outside the range stated above"
  outside : {k : FieldKind} {r : Range} {next : ℕ → Grammar A} → Reached s p place (ask k r next) → ¬ (Spent r)
      → place + bits k ≤ 8 * length s → ¬ (InRange r (bits_at s place (bits k))) → number ≡ 4 → Fault s p number place
  -- "a term isn't normal: at the symbol below its like, or at b if a = b = 0"
  unnormal : {k : FieldKind} {r : Range} {next : ℕ → Grammar A} → Reached s p place (ask k r next) → ¬ (Spent r)
      → place + bits k ≤ 8 * length s → InRange r (bits_at s place (bits k)) → Unnormal r (bits_at s place (bits k)) → number ≡ 5
      → Fault s p number place
  -- "a 257th node would begin, found before its tag is read"
  too_many : {k : FieldKind} {r : Range} {next : ℕ → Grammar A} → Reached s p place (ask k r next) → Spent r → number ≡ 6
      → Fault s p number place
  -- "a padding bit is 1, or bytes [..] are left over": all fields stand there, and the bytes are not those of the packed fields
  left_over : {a : A} (h : Reached s p place (done a)) → s ≢ packed h.fields → number ≡ 7 → Fault s p number place

-- ---- a list of fields; places are numbers of fields

pub record Listed {A : Type 0} (l : List ℕ) (p : Grammar A) (place : ℕ) (q : Grammar A) : Type 0 where
  pub fields : List (ℕ × ℕ)
  pub led : Led p fields q
  pub stand : take place l ≡ map (λ (f : ℕ × ℕ). f.1) fields
  pub ends : place ≡ length fields

pub data ListFault {A : Type 0} (l : List ℕ) (p : Grammar A) (number place : ℕ) : Type 0 where
  past_end : {k : FieldKind} {r : Range} {next : ℕ → Grammar A} → Listed l p place (ask k r next) → ¬ (Spent r)
      → length l ≤ place → number ≡ 3 → ListFault l p number place
  -- "or too wide when writing"
  too_wide : {k : FieldKind} {r : Range} {next : ℕ → Grammar A} → Listed l p place (ask k r next) → ¬ (Spent r)
      → place < length l → 2 ^ bits k ≤ get_or l place 0 → number ≡ 4 → ListFault l p number place
  outside : {k : FieldKind} {r : Range} {next : ℕ → Grammar A} → Listed l p place (ask k r next) → ¬ (Spent r)
      → place < length l → get_or l place 0 < 2 ^ bits k → ¬ (InRange r (get_or l place 0)) → number ≡ 4 → ListFault l p number place
  unnormal : {k : FieldKind} {r : Range} {next : ℕ → Grammar A} → Listed l p place (ask k r next) → ¬ (Spent r)
      → place < length l → get_or l place 0 < 2 ^ bits k → InRange r (get_or l place 0) → Unnormal r (get_or l place 0) → number ≡ 5
      → ListFault l p number place
  too_many : {k : FieldKind} {r : Range} {next : ℕ → Grammar A} → Listed l p place (ask k r next) → Spent r → number ≡ 6
      → ListFault l p number place
  -- "or fields are left over"
  left_over : {a : A} → Listed l p place (done a) → place < length l → number ≡ 7 → ListFault l p number place

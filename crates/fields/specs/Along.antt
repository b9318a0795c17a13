-- A walk along fields, whatever hands them out: what a grammar comes to from a place on, and what the code tells of it.
use Rattle.std.specs.Prelude.{ℕ, ◌≡◌, cond, Result, Ok, Err}
use Rattle.fields.specs.Source.{Field}
use Rattle.fields.specs.Kinds.{FieldKind, Range, bits, test, spent, Bounded}
use Rattle.fields.specs.Grammar.{Grammar, done, ask, field, on_field, tested}

-- How places hand out fields: what stands there for a field of a width, and the place past such a field with a value.
pub record Steps (S : Type 0) : Type 0 where
  pub at : ℕ → S → Field
  pub past : ℕ → ℕ → S → S

-- what a walk ends in: a tree and the place past it, or the number of the first refusal and the place where it is given
pub data End (A S : Type 0) : Type 0 where
  ok : A → S → End A S
  no : ℕ → S → End A S

-- what stands at a place for a field; 6 is "found before its tag is read"
abbrev pub asked : {S : Type 0} → Steps S → FieldKind → Range → S → Field
asked st k r x = cond (spent r) (Err 6) (st.at (bits k) x)

unfoldable pub along : {A S : Type 0} → Steps S → Grammar A → S → End A S
along st (done a) x = ok a x
along st (ask k r next) x =
    on_field (asked st k r x) (λ v. tested (test r v) (along st (next v) (st.past (bits k) v x)) (λ m. no m x)) (λ m. no m x)

-- what the code tells: of a tree only a value
unfoldable pub shown : {A V S : Type 0} → (A → V) → End A S → End V S
shown val (ok a x) = ok (val a) x
shown val (no m x) = no m x

unfoldable pub told_at : {V S : Type 0} → Result V ℕ → S → End V S
told_at (Ok v) y = ok v y
told_at (Err m) y = no m y

-- nothing is told of a tree
abbrev pub silent : {A : Type 0} → A → Unit {0}
silent a = tt

-- a walk over p that began at x came to r and stands at y
pub record Comes {A V S : Type 0} (st : Steps S) (p : Grammar A) (x : S) (val : A → V) (r : Result V ℕ) (y : S) : Type 0 where
  pub told : told_at r y ≡ shown val (along st p x)

-- the same of one field, of whatever kind and range the two bounds tell
pub record Takes {S : Type 0} (st : Steps S) (w least end m : ℕ) (x : S) (r : Field) (y : S) : Type 0 where
  pub comes : (k : FieldKind) (range : Range) → Bounded k range w least end m → Comes st (field k range) x (λ v. v) r y

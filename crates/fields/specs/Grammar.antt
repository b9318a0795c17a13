-- A grammar is a value that asks for one field after the other, and what it finds in a source of fields.
use Rattle.std.specs.Prelude.{ℕ, List, [], ◌∷◌, cond, Ok, Err}
use Rattle.std.proofs.Math.Option.{Option, none, some}
use Rattle.fields.specs.declared.Walker.{Walker}
use Rattle.fields.specs.Source.{Field}
use Rattle.fields.specs.Source.{Source, moved}
use Rattle.fields.specs.Kinds.{FieldKind, bits, Range, test, spent}

-- `ask k r next`: a field of the kind k and the range r; then, if its value is v, `next v`
pub data Grammar (A : Type 0) : Type 0 where
  done : A → Grammar A
  ask : FieldKind → Range → (ℕ → Grammar A) → Grammar A

-- one grammar after the other
unfoldable pub bind : {A B : Type 0} → Grammar A → (A → Grammar B) → Grammar B
bind (done a) f = f a
bind (ask k r next) f = ask k r (λ v. bind (next v) f)

-- one field alone
unfoldable pub field : FieldKind → Range → Grammar ℕ
field k r = ask k r done

-- what a source has at a walker for a field; 6 is "found before its tag is read"
abbrev pub look : Source → FieldKind → Range → Walker → Field
look src k r c = cond (spent r) (Err 6) (src (bits k) c)

-- what a grammar finds: its tree and the walker past it, or the number of the first refusal and the walker where it is given
pub data Outcome (A : Type 0) : Type 0 where
  ok : A → Walker → Outcome A
  no : ℕ → Walker → Outcome A

abbrev pub on_field : {A : Type 0} → Field → (ℕ → A) → (ℕ → A) → A
on_field (Ok v) got bad = got v
on_field (Err m) got bad = bad m

abbrev pub tested : {A : Type 0} → Option ℕ → A → (ℕ → A) → A
tested none good bad = good
tested (some m) good bad = bad m

unfoldable pub outcome : {A : Type 0} → Source → Grammar A → Walker → Outcome A
outcome src (done a) c = ok a c
outcome src (ask k r next) c =
    on_field (look src k r c) (λ v. tested (test r v) (outcome src (next v) (moved (bits k) c)) (λ m. no m c)) (λ m. no m c)

-- the fields that it passed on the way, each with its width
unfoldable pub trace : {A : Type 0} → Source → Grammar A → Walker → List (ℕ × ℕ)
trace src (done a) c = []
trace src (ask k r next) c =
    on_field (look src k r c) (λ v. tested (test r v) ((bits k, v) ∷ trace src (next v) (moved (bits k) c)) (λ m. [])) (λ m. [])

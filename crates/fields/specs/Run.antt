-- A run of a grammar with its two outputs: what the walks in the code are held to.
use Rattle.std.specs.Prelude.{ℕ, ◌≡◌, List, set, Ok, Err}
use Rattle.bits.specs.Put.{put_field}
use Rattle.fields.specs.declared.Walker.{Walker}
use Rattle.fields.specs.Source.{Walk}
use Rattle.fields.specs.Source.{Source, moved}
use Rattle.fields.specs.Kinds.{bits, test}
use Rattle.fields.specs.Grammar.{Grammar, done, ask, look, on_field, tested}

pub record State : Type 0 where
  pub cursor : Walker
  pub words : List ℕ
  pub bytes : List ℕ

abbrev pub state : Walker → List ℕ → List ℕ → State
state c ws bs = record { cursor = c; words = ws; bytes = bs }

-- a field of w bits with the value v, put into both outputs as far as they have room
abbrev pub passed : ℕ → ℕ → State → State
passed w v σ = record {
  cursor = moved w σ.cursor;
  words = set σ.words σ.cursor.n v;
  bytes = put_field σ.bytes w v σ.cursor.bit;
}

pub data Result (A : Type 0) : Type 0 where
  ok : A → State → Result A
  no : ℕ → State → Result A

unfoldable pub run : {A : Type 0} → Source → Grammar A → State → Result A
run src (done a) σ = ok a σ
run src (ask k r next) σ =
    on_field (look src k r σ.cursor) (λ v. tested (test r v) (run src (next v) (passed (bits k) v σ)) (λ m. no m σ)) (λ m. no m σ)

-- what the code shows of a result: of a tree only a number
pub record Shown : Type 0 where
  pub walk : Walk
  pub words : List ℕ
  pub bytes : List ℕ

abbrev pub shown : {A : Type 0} → (A → ℕ) → Result A → Shown
shown val (ok a σ) = record { walk = Ok (val a, σ.cursor); words = σ.words; bytes = σ.bytes }
shown val (no m σ) = record { walk = Err (m, σ.cursor); words = σ.words; bytes = σ.bytes }

-- a walk that began at c, with the outputs ws and bs, came to r and left ws₁ and bs₁
pub record Ran {A : Type 0} (src : Source) (p : Grammar A) (c : Walker) (ws bs : List ℕ) (val : A → ℕ) (r : Walk) (ws₁ bs₁ : List ℕ) : Type 0 where
  pub told : record { walk = r; words = ws₁; bytes = bs₁ } ≡ shown val (run src p (state c ws bs))

-- A property of every field that a grammar can ask for.
use Rattle.std.specs.Prelude.{ℕ}
use Rattle.fields.specs.Kinds.{FieldKind, Range}
use Rattle.fields.specs.Grammar.{Grammar, done, ask}

unfoldable pub Asks : {A : Type 0} → (FieldKind → Range → Type 0) → Grammar A → Type 0
Asks P (done a) = Unit {0}
Asks P (ask k r next) = P k r × ((v : ℕ) → Asks P (next v))

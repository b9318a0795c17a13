-- What a grammar takes, told without a source: the fields that spell a tree.
use Rattle.std.specs.Prelude.{ℕ, ◌<◌, ◌^◌, ◌≡◌, List, [], ◌∷◌}
use Rattle.std.proofs.Math.Option.{none}
use Rattle.fields.specs.Kinds.{bits, test}
use Rattle.fields.specs.Grammar.{Grammar, done, ask}

-- the fields, each a width and a value that fits it, are just what the grammar asks for, and give the tree
unfoldable pub Spells : {A : Type 0} → Grammar A → A → List (ℕ × ℕ) → Type 0
Spells (done b) a fs = (a ≡ b) × (fs ≡ [])
Spells (ask k r next) a [] = ⊥
Spells (ask k r next) a (f ∷ fs) = (f.0 ≡ bits k) × (f.1 < 2 ^ bits k) × (test r f.1 ≡ none) × Spells (next f.1) a fs

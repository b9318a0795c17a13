-- What indexing a filling does to the work table.
use Rattle.std.specs.Prelude.{ℕ, ◌+◌, ◌≡◌, List}
use Rattle.bits.specs.Packed.{width}
use Rattle.patterns.specs.First.{Exp}
use Rattle.patterns.specs.Certificate.{Fills, by}
use Rattle.grammar.specs.Listing.{filling_fields}
use Rattle.grammar.specs.Limits.{FillsFit}
use Rattle.table.specs.Sides.{Kept}
use Rattle.instances.specs.Lying.{Lies, KnownArities}
use Rattle.instances.specs.Fillings.{entry, FillsTold}

-- the 64 words from `fills` on tell the filling that lies at bit `at`, the answer is where it ends, and no other word has changed
pub record Lists (book s : List ℕ) (fills at : ℕ) (w after : List ℕ) (r : ℕ) : Type 0 where
  pub told : (ars : List ℕ) → KnownArities book ars → (θ : Fills Exp) → FillsFit ars θ → Lies s at (filling_fields θ)
      → FillsTold book s after fills (by θ) × (r ≡ at + width (filling_fields θ))
  pub kept : Kept fills 64 w after

-- the 64 words from `fills` on tell that no variable is filled, and no other word has changed
pub record Forgets (fills : ℕ) (w after : List ℕ) : Type 0 where
  pub none : (x : ℕ) → entry after fills x ≡ 0
  pub kept : Kept fills 64 w after

-- A field taken from a file.
use Rattle.std.specs.Prelude.{ℕ, ◌+◌, ◌^◌, ◌≤◌, ◌<◌, ◌≡◌, List, ◌∷◌}
use Rattle.grammar.specs.Listing.{Fields}
use Rattle.instances.specs.Lying.{Lies}
use Rattle.instances.specs.declared.Read.{Read}

-- the field of w bits at a bit, and the bit behind it; no file is so long that this is a large number
pub record Takes (s : List ℕ) (w at : ℕ) (r : Read) : Type 0 where
  pub told : (v : ℕ) (fs : Fields) → Lies s at ((w, v) ∷ fs) → (r.value ≡ v) × (r.at ≡ at + w)
  pub small : r.value < 2 ^ w
  pub near : r.at ≤ 2 ^ 32

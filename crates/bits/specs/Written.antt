-- Fields put into bytes one after the other, and the bytes that come of it.
-- Assumes nothing: these are definitions.
use Rattle.std.specs.Prelude.{ℕ, ◌≤◌, List, [], ◌∷◌, ◌++◌, length, drop}
use Rattle.bits.specs.Packed.{packed}
use Rattle.bits.specs.Put.{place_after, put_field}

-- the bytes after a run of puts from place `at` on, each at the place past the last
unfoldable pub put_all : List ℕ → ℕ → List (ℕ × ℕ) → List ℕ
put_all s at [] = s
put_all s at (f ∷ fs) = put_all (put_field s f.0 f.1 at) (place_after s f.0 at) fs

-- the place after the run
unfoldable pub place_all : List ℕ → ℕ → List (ℕ × ℕ) → ℕ
place_all s at [] = at
place_all s at (f ∷ fs) = place_all (put_field s f.0 f.1 at) (place_after s f.0 at) fs

-- no field is wider than 16 bits
unfoldable pub Narrow : List (ℕ × ℕ) → Type 0
Narrow [] = Unit {0}
Narrow (f ∷ fs) = (f.0 ≤ 16) × Narrow fs

-- bytes that begin with the packed fields, and go on as `out` does
unfoldable pub written : List (ℕ × ℕ) → List ℕ → List ℕ
written fs out = packed fs ++ drop (length (packed fs)) out

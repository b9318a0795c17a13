-- A line uses earlier lines only: a use in a checked line names a number below the line's own.
use Prim.Native.Nat.{ℕ, zero, suc, ◌<◌}
use mathlib.Core.Path.{◌≡◌}
use mathlib.Core.List.{List, [], ◌∷◌}
use mathlib.Core.Option.{some, none-ne-some}
use native.Mathlib.Omega.{arith}
use lib.ListN.{length, get_elem?}
use Rattle.patterns.specs.Term.{Term}
use Rattle.patterns.specs.Derive.{Book}
use Rattle.patterns.specs.Edition.{Edition}
use Rattle.patterns.specs.Certificate.{Fills, Claim, Use}
use Rattle.patterns.specs.Checks.{UsedAt, Descent}

-- a number at which a list has an element is below its length
pub listed_below : {A : Type 0} (l : List A) (k : ℕ) (a : A) → get_elem? l k ≡ some a → k < length l
listed_below [] k a p = absurd (none-ne-some a p)
listed_below (x ∷ xs) zero a p = omega arith
listed_below (x ∷ xs) (suc k) a p = let q = listed_below xs k a p in omega arith

-- `es` are the claims of the earlier lines, so the line's own number is their count
module _ {E I R S : Type 0} (𝓔 : Edition E I R S) (es : List (Claim E)) where
  pub unfold_uses_earlier : (u : Use E R) (v : Term E) → UsedAt 𝓔 es u v → u.line < length es
  unfold_uses_earlier u v f = listed_below es u.line f.claim f.earlier

  pub descent_uses_earlier : (B : Book E) (l : Claim E) (u : Use E R) (k : ℕ) (θ : Fills E) → Descent 𝓔 es B l u k θ
      → u.line < length es
  descent_uses_earlier B l u k θ d = listed_below es u.line d.base d.earlier

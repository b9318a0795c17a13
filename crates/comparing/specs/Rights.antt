-- What is asked of a right: that it is the empty mark, that it is not, that it is the same at every index.
use Rattle.std.specs.Prelude.{ℕ, ◌≡◌, Bool, List, [], ◌∷◌}
use Rattle.std.proofs.Math.Option.{none}
use Rattle.patterns.specs.Certificate.{Mark}
use Rattle.patterns.specs.First.{Exp}
use Rattle.patterns.specs.Demand.{empty, present, level}
use Rattle.patterns.specs.Judge.{Check, check}
use Rattle.table.specs.Answer.{Says}
use Rattle.comparing.specs.declared.Behind.{Behind}
use Rattle.comparing.specs.declared.Behind.TheVariants.{Judged, Pending, Nothing}
use Rattle.begins.specs.Placed.{RightAt}
use Rattle.instances.specs.Lying.{KnownArities}
use Rattle.comparing.specs.Found.{Found, Finds}

-- the answer is whether the right at a bit is the empty mark
pub record EmptyRight (cert : List ℕ) (at : ℕ) (r : Bool) : Type 0 where
  pub told : (ars : List ℕ) (m : Mark Exp) → RightAt cert ars at m → Says (m ≡ none) r

-- 01: "For j < i the used line's right must be empty; for j = i < m it must not be; else 11."
unfoldable pub lead : Behind → ℕ → ℕ → Mark Exp → List (Check Exp)
lead Judged n p m = check n p (empty m) ∷ []
lead Pending n p m = check n p (present m) ∷ []
lead Nothing n p m = []

-- the right at a bit was looked at
pub record Looks (cert : List ℕ) (at : ℕ) (q : Behind) (n p : ℕ) (r : Found) : Type 0 where
  pub told : (ars : List ℕ) (m : Mark Exp) → RightAt cert ars at m → Finds (lead q n p m) 0 r

-- 01: "right is empty or has a = 0 in every power"
pub record LooksLevel (book cert : List ℕ) (at n p : ℕ) (r : Found) : Type 0 where
  pub told : (ars : List ℕ) → KnownArities book ars → (m : Mark Exp) → RightAt cert ars at m → Finds (check n p (level m) ∷ []) 0 r

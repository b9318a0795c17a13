-- The first of some checks that is not met, and what the code tells of it.
use Rattle.std.specs.Prelude.{ℕ, ◌≡◌, List, [], ◌∷◌, Result, Ok, Err}
use Rattle.std.proofs.Math.Logic.{ite}
use Rattle.std.proofs.Math.Option.{Option, none, some}
use Rattle.patterns.specs.First.{Exp, one}
use Rattle.patterns.specs.Demand.{met?}
use Rattle.patterns.specs.Judge.{Check}
use Rattle.comparing.specs.declared.Fault.{Fault}

-- the number and the part of a check that is not met; or all are met, and a bit
abbrev pub Found : Type 0
Found = Result ℕ Fault

-- its number and part
unfoldable pub fault : List (Check Exp) → Option (ℕ × ℕ)
fault [] = none
fault (k ∷ ks) = let rest = fault ks in ite (met? one k.demand) rest (some (k.number, k.part))

-- all of them are met, and `end` is told; or the first that is not
unfoldable pub Tells : List (Check Exp) → ℕ → Found → Type 0
Tells ks end (Err f) = fault ks ≡ some (f.number, f.part)
Tells ks end (Ok e) = (fault ks ≡ none) × (e ≡ end)

pub record Finds (ks : List (Check Exp)) (end : ℕ) (r : Found) : Type 0 where
  pub is : Tells ks end r

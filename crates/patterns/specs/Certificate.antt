-- The tree of a certificate: fillings as they are listed, claims, uses, the two kinds of line, the closing.
use Rattle.std.specs.Prelude.{ℕ, List, [], ◌∷◌}
use Rattle.std.proofs.Math.Logic.{ite}
use Rattle.std.proofs.Math.Option.{Option}
use Rattle.std.proofs.Math.Decide.{ℕ_discrete}
use Rattle.patterns.specs.Term.{Term, var, Filling}

abbrev pub Fills : Type 0 → Type 0
Fills E = List (ℕ × Term E)

-- 01: "A variable that isn't listed stays itself."
unfoldable pub by : {E : Type 0} → Fills E → Filling E
by [] x = var x
by (p ∷ ps) x = ite (ℕ_discrete p.0 x) p.1 (by ps x)

-- 01: "right is a term or the empty mark": `none` is the empty mark
abbrev pub Mark : Type 0 → Type 0
Mark E = Option (Term E)

-- 01: "A line claims left → right"
pub record Claim (E : Type 0) : Type 0 where
  pub left : Term E
  pub right : Mark E

-- 01: "A use is an earlier line, an index pair and a filling"
pub record Use (E R : Type 0) : Type 0 where
  pub line : ℕ
  pub index : R
  pub fills : Fills E

-- where an unfold stops: at a rule without calls (i = 0), or behind the uses for each j < i at call i, with a use or none
pub data Stop (E R : Type 0) : Type 0 where
  fact : Stop E R
  call : List (Use E R) → Option (Use E R) → Stop E R

-- 01: an unfold "names a rule [..], a stop number i, a filling, and uses"; a descent "has a base use, then a rule [..] and a filling"
pub data LineKind (E R : Type 0) : Type 0 where
  unfolds : ℕ → Fills E → Stop E R → LineKind E R
  descends : Use E R → ℕ → Fills E → LineKind E R

pub record Line (E R : Type 0) : Type 0 where
  pub claim : Claim E
  pub kind : LineKind E R

-- 01: the closing "names a line, a step k, a start α, and a filling"; `pace` holds k and α
pub record Closing (E S : Type 0) : Type 0 where
  pub line : ℕ
  pub pace : S
  pub fills : Fills E

pub record Certificate (E R S : Type 0) : Type 0 where
  pub lines : List (Line E R)
  pub closing : Closing E S

abbrev pub claim_of : {E R : Type 0} → Line E R → Claim E
claim_of l = l.claim

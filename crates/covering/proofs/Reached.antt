-- The last index is reached: a call that 4,095 covers and no smaller index does.
use Prim.Native.Nat.{ℕ}
use mathlib.Core.Path.{◌≡◌, refl, ap}
use mathlib.Core.Option.{some}
use native.Mathlib.Omega.{arith}
use Rattle.patterns.specs.Term.{All}
use Rattle.patterns.specs.Normal.{Over, Normal}
use Rattle.patterns.specs.Counters.{alone, more}
use Rattle.patterns.specs.Formed.{arguments, Formed}
use Rattle.patterns.specs.First.{Pattern, exponents, Level}
use Rattle.patterns.specs.Examples.{s, o}
use Rattle.covering.specs.Covers.{Call, Smallest, Answers}
use Rattle.covering.specs.Search.{number}
use Rattle.covering.proofs.Counted.{clash}
use Rattle.covering.proofs.Covering.{covering_exactly}
use Rattle.covering.proofs.AtWork.{arities, last_found}

-- s^{1,0}(0) from 0 on, and the call s^{0,4095}(0)
abbrev pub growing : Pattern
growing = s 1 0 o

abbrev pub longest : Pattern
longest = s 0 4095 o

growing_formed : Formed arities growing
unfolding Formed arities arguments
growing_formed = (refl, (λ p. clash p, refl, tt))

pub longest_formed : Formed arities longest
unfolding Formed arities arguments
longest_formed = (refl, (λ p. clash p, refl, tt))

pub longest_call : Call longest
unfolding Normal Over All Level exponents more alone
longest_call = record {
  normal = (λ p. let z : ◌≡◌ {A = ℕ} 4095 0 = ap number p in omega arith, λ z. z, tt);
  level = (refl, tt);
  small = (omega arith, tt);
}

pub last_reached : Smallest growing 0 longest 4095
unfolding Answers
last_reached = (covering_exactly arities growing 0 longest growing_formed longest_formed longest_call (some 4095)).0 last_found
